-- `saves::buffer::walk`. The loop's invariant: what is behind it is good saves.
use Rattle.std.proofs.Common.{◌≡◌, ◌≤◌, ◌-◌, ◌*◌, ◌%◌, length}
use Rattle.saves.proofs.Walking.{Behind}
use Rattle.saves.proofs.buffer.walk.Given as goal

abbrev pub invariant-loop-at : goal.invariant-loop-at
invariant-loop-at l =
    (length l.names ≡ 128) × (512 * l.count ≤ l.at) × (l.at % 512 ≡ 0) × Behind l.s l.asked l.names l.count l.at l.place

abbrev pub decreases-loop-at : goal.decreases-loop-at
decreases-loop-at l = length l.s - l.at
