-- `outcomes::decide::decide_outcome` meets its contract: the oldest goes before a full window, and the failures that stay are counted. Assumes nothing.
use Prim.Native.Nat.{◌+◌, ◌-◌, ◌^◌, min}
use native.Mathlib.Omega.{arith}
use mathlib.Core.Path.{◌≡◌, ap, ◌∙◌}
use lib.Ieee.{binary64, of_bits}
use lib.ListN.{length}
use Rattle.trip.specs.Policy.{ratio_reached}
use Rattle.breaker.specs.declared.Breaker.{Breaker}
use Rattle.breaker.specs.Record.{settings, items_for}
use Rattle.outcomes.proofs.Deciding.{failure-counted, has-length, window-fits, failures-counted, outcome-good, outcome-failed}
use Rattle.outcomes.proofs.decide.decide_outcome.Goals as goal

pub returns-then-success : goal.returns-then-success
returns-then-success c =
    λ ok cfg st h reading p.
    let n = has-length c.args.b c.args.list.now cfg st h ok in
    let f = window-fits c.args.b c.args.list.now cfg st h ok c.args.window (ap items_for p) in
    let g : c.over-gone.result ≡ length st.list + 1 - c.args.window = omega (arith, c.over-gone.ensures.1 f.0 f.2, n) in
    rw c.if-success.true (outcome-good (settings cfg) st reading c.args.window (of_bits binary64 cfg.ratio_bits) cfg.min_calls p f.0 c.over-gone.result g c.saturating_add-len.result (omega (arith, c.saturating_add-len.ensures, n, f)))

pub returns : goal.returns
returns c =
    λ ok cfg st h reading p.
    let n = has-length c.args.b c.args.list.now cfg st h ok in
    let f = window-fits c.args.b c.args.list.now cfg st h ok c.args.window (ap items_for p) in
    let g : c.over-gone.result ≡ length st.list + 1 - c.args.window = omega (arith, c.over-gone.ensures.1 f.0 f.2, n) in
    let k = failures-counted c.args.b c.args.list.now cfg st h ok c.args.window c.over-gone.result (ap items_for p) c.count_failures.result c.count_failures.ensures in
    let w : c.unwrap_or-failed.result ≡ c.count_failures.result = grind (arith, c.try_from.ensures, k.1) in
    failure-counted (settings cfg) reading st c.args.success _ _ _ c.counted.ensures c.if-success.false
    (outcome-failed (settings cfg) st reading c.args.window (of_bits binary64 cfg.ratio_bits) cfg.min_calls p f.0 c.over-gone.result g c.saturating_add.result c.saturating_add-len.result c.saturating_add-2.result c.ratio_trips.result
    (c.saturating_add.ensures ∙ ap (λ (x : Breaker). min (x.shared.run + 1) (2 ^ 32 - 1)) h.0) (omega (arith, c.saturating_add-len.ensures, n, f)) (omega (arith, c.saturating_add-2.ensures, w, k.0, k.1))
    (c.ratio_trips.ensures ∙ ap (λ (x : Breaker). ratio_reached c.saturating_add-2.result c.saturating_add-len.result x.config.min_calls (of_bits binary64 x.config.ratio_bits)) h.0))
