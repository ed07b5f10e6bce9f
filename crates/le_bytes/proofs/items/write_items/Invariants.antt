-- `le_bytes::items::write_items` meets its contract. The loop's invariant: what was written, with the bytes of the numbers left, are those of all. Assumes nothing.
use Rattle.std.proofs.Common.{◌≡◌, ◌-◌, ◌*◌, ◌++◌, length, take, drop, replicate}
use Rattle.le_bytes.specs.Bytes.{encoded}
use Rattle.le_bytes.proofs.items.write_items.Given as goal

abbrev pub invariant-loop-i : goal.invariant-loop-i
invariant-loop-i l = take (l.i * l.width) l.out ++ encoded (replicate (length l.values - l.i) l.width) (drop l.i l.values) ≡ encoded (replicate (length l.values) l.width) l.values
