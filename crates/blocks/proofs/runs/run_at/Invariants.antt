-- `blocks::runs::run_at` meets its contract. The loop's invariant: what was walked is the blocks of what they hold. Assumes nothing.
use Rattle.std.proofs.Common.{◌≡◌, ◌+◌, ◌*◌, ◌/◌, ◌<◌, ◌≤◌, ◌++◌, true, length, take, drop}
use Rattle.blocks.specs.Block.{summed}
use Rattle.blocks.specs.Run.{blocks_from, every, joined}
use Rattle.blocks.proofs.runs.run_at.Given as goal

abbrev pub invariant-loop-i : goal.invariant-loop-i
invariant-loop-i l =
    (l.size ≤ 496 * l.i)
    × (every summed (length l.s / 512) l.s ≡ true
    → (l.i < l.count → l.size ≡ 496 * l.i) × (l.count ≤ l.i → 496 * l.count < l.size + 496) × (l.s ≡ blocks_from l.version l.count 0 l.i (take l.size (joined l.i l.s)) ++ drop (512 * l.i) l.s))
