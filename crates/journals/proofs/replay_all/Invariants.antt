-- `journals::replay_all`: no more journals than bytes are behind it.
use Rattle.std.proofs.Common.{◌+◌, ◌≤◌, length}
use Rattle.journals.proofs.replay_all.Given as goal

abbrev pub invariant-loop-rest : goal.invariant-loop-rest
invariant-loop-rest g l = (l.journals + length l.rest ≤ length l.s) × (l.differ ≤ l.journals)

abbrev pub decreases-loop-rest : goal.decreases-loop-rest
decreases-loop-rest g l = length l.rest
