-- `steps::update::opened` meets its contract: the counters, then the transition. Assumes nothing.
use Rattle.std.proofs.Common.{ℕ, ◌+◌, ◌-◌, ◌^◌, min, ap, ◌∙◌}
use Rattle.breaker.specs.declared.Breaker.{Breaker}
use Rattle.breaker.specs.declared.Counts.{Counts}
use Rattle.breaker.specs.Record.{stored}
use Rattle.breaker.specs.Rules.{no_counts, moved, with_counts}
use Rattle.steps.proofs.update.opened.Goals as goal

pub returns : goal.returns
returns c =
    λ cfg st e. c.transition.ensures cfg (with_counts no_counts st) (c.with_counts.ensures cfg st e ∙ ap (λ (x : Counts). stored cfg (with_counts x st)) c.no_counts.ensures)
    ∙ ap (λ (u : ℕ). stored cfg (moved 2 u (with_counts no_counts st))) (c.saturating_add-until.ensures ∙ ap (λ (x : Breaker). min (c.args.now_ms + x.config.cooldown_ms) (2 ^ 64 - 1)) e)
