-- `outcomes::decide::decide_closed` meets its contract: by what the list holds. Assumes nothing.
use Rattle.std.proofs.Common.{sym, ◌∙◌}
use Rattle.outcomes.proofs.Deciding.{is-run, is-outcomes}
use Rattle.outcomes.proofs.decide.decide_closed.Goals as goal

pub returns-in-Nothing : goal.returns-in-Nothing
returns-in-Nothing c =
    λ ok cfg st h. c.decide_run.ensures cfg st h.0 c.args.now_ms (is-run cfg (rw h.0 at (sym c.items_of.ensures ∙ c.in-Nothing.is)))

pub returns-in-Outcomes : goal.returns-in-Outcomes
returns-in-Outcomes c =
    λ ok cfg st h. c.decide_outcome.ensures ok cfg st h c.args.now_ms (is-outcomes cfg c.in-Outcomes.window (rw h.0 at (sym c.items_of.ensures ∙ c.in-Outcomes.is)))
