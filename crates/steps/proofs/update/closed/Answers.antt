-- `steps::update::closed` meets its contract: the counters, the run and the list, then the transition. Assumes nothing.
use Rattle.std.proofs.Common.{[], refl, ap, ◌∙◌}
use Rattle.breaker.specs.declared.Breaker.{Breaker}
use Rattle.breaker.specs.declared.Counts.{Counts}
use Rattle.breaker.specs.Record.{stored}
use Rattle.breaker.specs.Rules.{no_counts, moved, with_counts, with_history}
use Rattle.steps.proofs.update.closed.Goals as goal

pub returns : goal.returns
returns c =
    λ cfg st e. c.transition.ensures cfg (with_history 0 [] (with_counts no_counts st))
    (c.with_history.ensures [] refl cfg (with_counts no_counts st) (c.with_counts-idle.ensures cfg st e ∙ ap (λ (x : Counts). stored cfg (with_counts x st)) c.no_counts.ensures))
    ∙ ap (λ (x : Breaker). stored cfg (moved 0 x.shared.open_until (with_history 0 [] (with_counts no_counts st)))) e
