-- `plain::calls::admit_as` meets its contract: the call by value, told. Assumes nothing.
use mathlib.Core.Path.{ap, ◌∙◌}
use Rattle.crossing.specs.Crossing.{crossed}
use Rattle.plain.proofs.calls.admit_as.Goals as goal

pub returns : goal.returns
returns c = c.told.ensures _ ∙ ap crossed c.admit_as.ensures
