-- `plain::permits::permit_cancel` meets its contract: the call by value, told. Assumes nothing.
use mathlib.Core.Path.{ap, ◌∙◌}
use Rattle.crossing.specs.Crossing.{crossed}
use Rattle.plain.proofs.permits.permit_cancel.Goals as goal

pub returns : goal.returns
returns c = c.told.ensures _ ∙ ap crossed (rw c.into.ensures at c.permit_cancel.ensures)
