-- `outcomes::decide::decide_run` meets its contract. Assumes nothing.
use Prim.Native.Nat.{◌+◌, ◌-◌, ◌^◌, min}
use mathlib.Core.Path.{ap, ◌∙◌}
use lib.Dec.{leb}
use Rattle.breaker.specs.declared.Breaker.{Breaker}
use Rattle.breaker.specs.Record.{settings}
use Rattle.outcomes.proofs.Deciding.{failure-counted, run-good, run-failed}
use Rattle.outcomes.proofs.decide.decide_run.Goals as goal

pub returns-then-success : goal.returns-then-success
returns-then-success c = λ cfg st e reading p. rw c.if-success.true (run-good (settings cfg) st reading cfg.limit p c.args.b.shared.len (ap (λ (x : Breaker). x.shared.len) e))

pub returns : goal.returns
returns c =
    λ cfg st e reading p. failure-counted (settings cfg) reading st c.args.success _ _ _ c.counted.ensures c.if-success.false
    (run-failed (settings cfg) st reading cfg.limit p c.saturating_add-run.result c.args.b.shared.len c.run_trips.result (c.saturating_add-run.ensures ∙ ap (λ (x : Breaker). min (x.shared.run + 1) (2 ^ 32 - 1)) e)
    (ap (λ (x : Breaker). x.shared.len) e) (c.run_trips.ensures ∙ ap (λ (x : Breaker). leb x.config.limit c.saturating_add-run.result) e))
