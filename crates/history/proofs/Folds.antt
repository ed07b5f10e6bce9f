-- Elements folded in turn, in one slice or in blocks of it. Assumes nothing.
use Rattle.std.proofs.Common.{◌≡◌, ℕ, zero, suc, ◌+◌, ◌-◌, ◌*◌, ◌%◌, ◌^◌, ◌<◌, List, [], ◌∷◌, ◌++◌, length, get_or, take, drop, subst, sym, refl, arith, take-append-drop, add-zero, pow_pos, lt-ltb, le-leb}
use Rattle.std.specs.List.{FoldsTo, concat}
use Rattle.std.specs.Simd.{first_chunks}
use Rattle.std.proofs.lemmas.List.{append_assoc, drop_more, drop-drop}
use Rattle.std.proofs.Math.Nat.{suc-mul}
use Rattle.std.proofs.lemmas.Fn.{chained_keeps}
use mathlib.Core.Bool.{and-true}
use lib.Bits.{bit_or}
use Rattle.history.specs.Items.{all_below, sum_of}
use Rattle.history.proofs.Laws.{BitsOf, bits-more}
use Rattle.history.proofs.Counts.{sum-append, AllRecent, recent-more}

module _ (R : ℕ → ℕ → ℕ → Type 0) where
  abbrev Folds : ℕ → List ℕ → ℕ → Type 0
  Folds p s q = FoldsTo (λ a x b. R a x b) p s q

  folds-append : (p q u : ℕ) (xs ys : List ℕ) → Folds p xs q → Folds q ys u → Folds p (xs ++ ys) u
  folds-append p q u [] ys e f = subst (λ a. Folds a ys u) (sym e) f
  folds-append p q u (x ∷ xs) ys e f = (e.0, e.1, folds-append e.0 q u xs ys e.2 f)

  -- what is folded of blocks, and then of what is behind them: one block more
  pub folds-block : (p q u i : ℕ) (blocks : List (List ℕ)) (tail : List ℕ) → i < length blocks → Folds p (get_or blocks i []) q
      → Folds q (concat (drop (i + 1) blocks) ++ tail) u → Folds p (concat (drop i blocks) ++ tail) u
  folds-block p q u i blocks tail h f g =
      rw (drop_more blocks i [] h, append_assoc) (folds-append p q u (get_or blocks i []) (concat (drop (i + 1) blocks) ++ tail) f g)

  -- s in two parts
  pub folds-parts : (p q u n : ℕ) (r s xs ys : List ℕ) → r ≡ s → xs ≡ take n r → ys ≡ drop n r → Folds p xs q → Folds q ys u → Folds p s u
  folds-parts p q u n r s xs ys e a b f g =
      let w : xs ++ ys ≡ s = rw (a, b, take-append-drop) e in
      rw w at (folds-append p q u xs ys f g)

-- the blocks, and what is behind them
pub blocks-whole : (n k : ℕ) (xs : List ℕ) → concat (first_chunks n k xs) ++ drop (k * n) xs ≡ xs
blocks-whole n zero xs = let e : 0 * n ≡ 0 = omega arith in rw e refl
blocks-whole n (suc k) xs =
    let e : suc k * n ≡ n + k * n = omega (arith, suc-mul k n) in
    rw (e, append_assoc, ← drop-drop (k * n) n xs, blocks-whole n k (drop n xs), take-append-drop) refl

-- what a fold of R has made of the elements, where each step keeps it
module _ (R : ℕ → ℕ → ℕ → Type 0) where
  abbrev Folded : List ℕ → ℕ → Type 0
  Folded s u = FoldsTo (λ a x b. R a x b) 0 s u

  pub bits-folded : ((a x b : ℕ) → R a x b → b ≡ bit_or a x) → (s : List ℕ) (u : ℕ) → Folded s u → BitsOf u s
  unfolding all_below
  bits-folded h s u f =
      chained_keeps R (λ xs a. BitsOf a xs) (λ xs q x v j r. rw (h q x v r) (bits-more q x xs (x ∷ []) (xs ++ x ∷ []) j (λ k. rw and-true) refl)) s 0 u (λ k. lt-ltb 0 (2 ^ k) (pow_pos k)) f

  pub sum-folded : (g : ℕ → ℕ) → ((a x b : ℕ) → R a x b → b ≡ (a + g x) % 2 ^ 64) → (s : List ℕ) (u : ℕ) → Folded s u → u ≡ sum_of g s % 2 ^ 64
  unfolding sum_of
  sum-folded g h s u f =
      chained_keeps R (λ xs a. a ≡ sum_of g xs % 2 ^ 64) (λ xs q x v j r. rw (sum-append, add-zero) (omega (arith, h q x v r))) s 0 u refl f

  -- each step takes the bits of a difference to the cutoff
  pub recent-folded : (cutoff : ℕ) → ((a x b : ℕ) → R a x b → b ≡ bit_or a ((x + (2 ^ 64 - cutoff)) % 2 ^ 64)) → (s : List ℕ) (u : ℕ) → Folded s u → AllRecent cutoff u s
  unfolding sum_of
  recent-folded cutoff h s u f =
      chained_keeps R (λ xs a. AllRecent cutoff a xs)
      (λ xs q x v j r. rw (h q x v r) (recent-more cutoff q ((x + (2 ^ 64 - cutoff)) % 2 ^ 64) xs (x ∷ []) (xs ++ x ∷ []) j (λ l m. rw (le-leb cutoff x (omega arith))) refl))
      s 0 u (λ _ _. refl) f
