-- `outcomes::decide::concluded` meets its contract: by what was decided. Assumes nothing.
use Rattle.std.proofs.Common.{refl}
use Rattle.outcomes.proofs.decide.concluded.Goals as goal

pub returns-in-Counted : goal.returns-in-Counted
returns-in-Counted c =
    λ cfg st e good d. let k = rw c.in-Counted.is at d in rw k.1 (refl, c.with_history.ensures _ k.0 cfg st e)

pub returns-in-Tripped : goal.returns-in-Tripped
returns-in-Tripped c =
    λ cfg st e good d. let k = rw c.in-Tripped.is at d in rw k.1 (refl, c.opened.ensures cfg _ (c.with_history-in-Tripped.ensures _ k.0 cfg st e))
