-- `le_bytes::numbers::write` meets its contract. The loop's invariant: what is written, with the bytes of the rest, are those of the number. Assumes nothing.
use Rattle.std.proofs.Common.{◌≡◌, ◌-◌, ◌++◌, length, take}
use Rattle.le_bytes.specs.Bytes.{bytes}
use Rattle.le_bytes.proofs.numbers.write.Given as goal

abbrev pub invariant-loop-b : goal.invariant-loop-b
invariant-loop-b l = take l.b-index l.b-items ++ bytes (length l.b-items - l.b-index) l.rest ≡ bytes (length l.initial.b-items) l.n
