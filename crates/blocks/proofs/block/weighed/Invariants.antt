-- `blocks::block::weighed` meets its contract. The loop's invariant: the sum, with that of the bytes left, is the whole. Assumes nothing.
use Rattle.std.proofs.Common.{◌≡◌, ◌+◌, ◌*◌, ◌≤◌, drop}
use Rattle.blocks.specs.Block.{sum_from}
use Rattle.blocks.proofs.block.weighed.Given as goal

abbrev pub invariant-loop-i : goal.invariant-loop-i
invariant-loop-i l = (l.sum ≤ 128520 * l.i) × (l.sum + sum_from l.i (drop l.i l.s) ≡ sum_from 0 l.s)
