-- What the check of a block meets, by its tests, and what is known where it passes. Assumes nothing.
use Rattle.std.specs.Prelude.{if◌then◌else◌}
use mathlib.Core.Path.{◌≡◌, refl, sym, ap, ◌∙◌}
use mathlib.Core.Bool.{Bool, true, false, not, ◌&&◌}
use mathlib.Core.List.{List, []}
use Prim.Native.Nat.{ℕ, ◌+◌, ◌-◌, ◌≤◌}
use native.Mathlib.Omega.{arith}
use lib.Dec.{eqb}
use lib.ListN.{length, take, drop}
use borrow.Author.Tests.{eqb-true}
use Rattle.error.specs.declared.Refusal.{Refusal}
use Rattle.error.specs.declared.Refusal.TheVariants.{Damaged, Version}
use Rattle.error.proofs.Choice.{and_split}
use Rattle.std.proofs.Common.{Result, Ok, Err}
use Rattle.blocks.specs.Block.{may_hold, zeros, index_in, count_in, used_in, summed, versioned, proper, judged_block, used_body}
use Rattle.blocks.proofs.Blocks.{Reads, may-some, reads-index, reads-count, reads-used}

-- ---- header and zeros
module _ (b : List ℕ) (i n u : ℕ) (ei : index_in b ≡ i) (en : count_in b ≡ n) (eu : used_in b ≡ u) where
  holds_as : may_hold i n u ≡ may_hold (index_in b) (count_in b) (used_in b)
  holds_as = cc (ei, en, eu)

  pub proper-is : may_hold i n u ≡ true → (z : Bool) → z ≡ zeros (take (508 - (8 + u)) (drop (8 + u) b)) → z ≡ proper b
  proper-is t z e =
      let k : 508 - (8 + u) ≡ 500 - u = omega arith in
      let f : z ≡ zeros (take (500 - u) (drop (8 + u) b)) = e ∙ ap (λ (m : ℕ). zeros (take m (drop (8 + u) b))) k in
      f
      ∙ ap (λ (m : ℕ). zeros (take (500 - m) (drop (8 + m) b))) (sym eu)
      ∙ sym (ap (λ (x : Bool). x && zeros (take (500 - used_in b) (drop (8 + used_in b) b))) (sym holds_as ∙ t))

pub proper→ : (b : List ℕ) → proper b ≡ true → (may_hold (index_in b) (count_in b) (used_in b) ≡ true) × (zeros (take (500 - used_in b) (drop (8 + used_in b) b)) ≡ true)
proper→ b e = and_split (may_hold (index_in b) (count_in b) (used_in b)) (zeros (take (500 - used_in b) (drop (8 + used_in b) b))) e

-- what is read of a block is proper
pub reads-proper : (b : List ℕ) (v i n u : ℕ) → Reads b v i n u → may_hold i n u ≡ true → proper b ≡ true
reads-proper b v i n u r m =
    sym
    (proper-is b i n u (reads-index b v i n u r) (reads-count b v i n u r) (reads-used b v i n u r) m true
    (let k : 508 - (8 + u) ≡ 500 - u = omega arith in sym (ap (λ (m : ℕ). zeros (take m (drop (8 + u) b))) k ∙ r.rest)))

-- ---- what the part is, by what was met
abbrev part_of : List ℕ → Result ℕ Refusal → List ℕ
part_of b (Ok used) = take used (drop 8 b)
part_of b (Err r) = []

pub part_by : (b : List ℕ) (r : Result ℕ Refusal) → r ≡ judged_block Err (Ok (used_in b)) b → part_of b r ≡ used_body b
part_by b r e = ap (part_of b) e ∙ spread (not (eqb (length b) 512 && summed b)) (not (versioned b)) (not (proper b))
  where
    spread : (x y z : Bool) → part_of b (if x then Err Damaged else if y then Err Version else if z then Err Damaged else Ok (used_in b))
        ≡ (if x then [] else if y then [] else if z then [] else take (used_in b) (drop 8 b))
    spread true y z = refl
    spread false true z = refl
    spread false false true = refl
    spread false false false = refl

-- ---- where it passes
-- a block that passes has its length, and its used body lies in it
pub passes→ : (b : List ℕ) (u : ℕ) → Ok u ≡ judged_block Err (Ok (used_in b)) b → (length b ≡ 512) × (u ≡ used_in b) × (u ≤ 496)
passes→ b u e = go (eqb (length b) 512) (summed b) (versioned b) (proper b) refl refl e
  where
    go : (x s v p : Bool) → eqb (length b) 512 ≡ x → proper b ≡ p
        → Ok u ≡ (if not (x && s) then Err Damaged else if not v then Err Version else if not p then Err Damaged else Ok (used_in b)) → (length b ≡ 512) × (u ≡ used_in b) × (u ≤ 496)
    go true true true true a q e =
        let f : u ≡ used_in b = cc in
        let m = (may-some (index_in b) (count_in b) (used_in b) (proper→ b q).0).2 in
        (eqb-true (length b) 512 a, f, omega arith)
    go true true true false a q e = (cc)
    go true true false p a q e = (cc)
    go true false v p a q e = (cc)
    go false s v p a q e = (cc)
