-- `wait::calls::run` meets its contract: what lies ahead is the rest of the run. Assumes nothing.
use Rattle.std.proofs.Common.{◌≡◌}
use Rattle.wait.specs.Run.{runs}
use Rattle.wait.proofs.Walks.{ahead}
use Rattle.wait.proofs.calls.run.Given as goal

abbrev pub invariant-loop-taken : goal.invariant-loop-taken
invariant-loop-taken g l = ahead g.M.Manner.manner l.allowed l.taken l.reached ≡ runs g.M.Manner.manner l.fn.wait l.fn.turns l.fn.limit
