-- `input::read_input` meets its contract: each read goes behind what came before. Assumes nothing.
use Rattle.std.proofs.Common.{◌≡◌, ℕ, zero, suc, ◌+◌, ◌≤◌, List, ◌++◌, Result, Ok, Err, Some, length, take, sym, ap, subst, ◌∙◌, rules, length-take-le}
use Rattle.std.proofs.lemmas.List.{take-append-le}
use Rattle.std.proofs.Math.Seq.{take-append-add}
use Rattle.std.specs.Io.KnownBytes.{Consumes}
use Rattle.std.proofs.KnownBytes.{Consumes-trans}
use borrow.Rule.Slice.PartMut.{put_mid, post_of}
use Rattle.input.specs.Reading.{brought}
use Rattle.input.proofs.read_input.Goals as goal

did : {E : Type 0} (r : Result ℕ E) (k : ℕ) → brought r ≡ Ok (Some k) → r ≡ Ok k
did (Err e) k h = cc
did (Ok zero) k h = cc
did (Ok (suc j)) k h = cc

-- a part at the front of ys, read in at `at`, stands behind what was there
filled : (at room n : ℕ) (xs ys : List ℕ) → at ≤ length xs → n ≤ length ys → take (at + n) (put_mid at room xs ys) ≡ take at xs ++ take n ys
filled at room n xs ys h k =
    ap (λ m. take (m + n) (put_mid at room xs ys)) (sym (length-take-le at xs h)) ∙ take-append-add (take at xs) (ys ++ post_of at room xs) n
    ∙ ap (λ zs. take at xs ++ zs) (take-append-le n ys (post_of at room xs) k)

pub loop-n-preserved : goal.loop-n-preserved
loop-n-preserved g c =
    let r = did c.read.result c.in-Some.came (sym c.brought.ensures ∙ c.in_ok-came.was ∙ ap Ok c.in-Some.is) in
    let b = rw r at c.read.ensures.bound in
    let m = rw r at c.read.ensures.bytes in
    (search rules, search rules, subst (Consumes _ _) (sym (filled _ _ _ _ _ c.loop-n.invariant.0 b.0)) (Consumes-trans _ _ _ _ _ c.loop-n.invariant.2 m.0))
