-- `le_bytes::items::read_items` meets its contract. The loop's invariant: what was read, with the numbers of the rest, are all. Assumes nothing.
use Rattle.std.proofs.Common.{◌≡◌, ◌-◌, ◌*◌, ◌++◌, length, take, replicate}
use Rattle.le_bytes.specs.Bytes.{decoded}
use Rattle.le_bytes.proofs.items.read_items.Given as goal

abbrev pub invariant-loop-n : goal.invariant-loop-n
invariant-loop-n l = (length l.rest ≡ (length l.n-items - l.n-index) * l.width) × (take l.n-index l.n-items ++ decoded (replicate (length l.n-items - l.n-index) l.width) l.rest ≡ decoded (replicate (length l.initial.n-items) l.width) l.s)
