-- `journals::number`: the decimal so far stays below its bound.
use Rattle.std.proofs.Common.{◌<◌}
use Rattle.journals.proofs.number.Given as goal

abbrev pub invariant-loop-b : goal.invariant-loop-b
invariant-loop-b l = l.n < 10000000
