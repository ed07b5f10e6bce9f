-- `le_bytes::numbers::write` meets its contract. Assumes nothing.
use Rattle.std.proofs.Common.{◌≡◌, ◌%◌, sym, ◌∙◌, arith}
use Rattle.std.specs.Int.Bits.{bit_and}
use Rattle.std.proofs.lemmas.Nat.{and_mask}
use lib.ListN.{length-set}
use Rattle.le_bytes.proofs.Little.{bytes-turn, bytes-end}
use Rattle.le_bytes.proofs.numbers.write.Goals as goal

pub loop-b-preserved : goal.loop-b-preserved
loop-b-preserved c =
    let m : bit_and c.loop-b.rest 255 ≡ c.loop-b.rest % 256 = and_mask c.loop-b.rest 8 in
    simp (m, length-set) (bytes-turn c.loop-b.b-items c.loop-b.b-index c.loop-b.rest (omega arith) ∙ c.loop-b.invariant)

pub returns : goal.returns
returns c = sym (bytes-end c.loop-b.b-items c.loop-b.b-index c.loop-b.rest (omega arith)) ∙ c.loop-b.invariant
