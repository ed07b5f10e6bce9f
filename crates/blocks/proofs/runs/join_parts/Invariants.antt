-- `blocks::runs::join_parts` meets its contract. The loop's invariant: what was joined, with what is left of the body, is the body. Assumes nothing.
use Rattle.std.proofs.Common.{◌≡◌, ◌*◌, ◌++◌, min, take, drop}
use Rattle.blocks.specs.Run.{body_in}
use Rattle.blocks.proofs.runs.join_parts.Given as goal

abbrev pub invariant-loop-i : goal.invariant-loop-i
invariant-loop-i l = take (min (l.i * 496) l.size) l.out ++ drop (min (l.i * 496) l.size) (body_in l.size l.s) ≡ body_in l.size l.s
