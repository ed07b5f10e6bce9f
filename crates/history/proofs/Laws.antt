-- Laws on bits, on tests of every item, and on parts of a list. Assumes nothing.
use Rattle.std.proofs.Common.{◌≡◌, ℕ, zero, suc, ◌+◌, ◌-◌, ◌/◌, ◌^◌, ◌<◌, Bool, true, false, ◌&&◌, ltb, List, [], ◌∷◌, ◌++◌, length, get_or, take, drop, sym, refl, ap, ◌∙◌, ap₂, add-one, arith, take-suc, ltb-false, ltb-true, le-ltb, lt-ltb}
use mathlib.Core.Bool.{and_assoc, and-true}
use lib.Bits.{bit_or, or_lt}
use Rattle.std.proofs.lemmas.Nat.{le_or_l, le_or_r}
use Rattle.std.proofs.lemmas.List as Std
use Rattle.error.proofs.Choice.{and_split}
use Rattle.history.specs.Items.{all_below}

-- ---- bits
or-below : (k a b : ℕ) → ltb (bit_or a b) (2 ^ k) ≡ (ltb a (2 ^ k) && ltb b (2 ^ k))
or-below k a b = go (ltb a (2 ^ k)) (ltb b (2 ^ k)) refl refl
  where
    go : (x y : Bool) → ltb a (2 ^ k) ≡ x → ltb b (2 ^ k) ≡ y → ltb (bit_or a b) (2 ^ k) ≡ (x && y)
    go true true p q = lt-ltb _ _ (or_lt k a b (ltb-true _ _ p) (ltb-true _ _ q))
    go true false p q = le-ltb (bit_or a b) (2 ^ k) (omega (arith, ltb-false b (2 ^ k) q, le_or_r a b))
    go false y p q = le-ltb (bit_or a b) (2 ^ k) (omega (arith, ltb-false a (2 ^ k) p, le_or_l a b))

pub or-small : (a b : ℕ) → bit_or a b / 2 ^ 63 ≡ 0 → (a < 2 ^ 63) × (b < 2 ^ 63)
or-small a b e = (omega (arith, le_or_l a b, e), omega (arith, le_or_r a b, e))

-- ---- every item is below a bound
pub below-append : (b : ℕ) (xs ys : List ℕ) → all_below b (xs ++ ys) ≡ (all_below b xs && all_below b ys)
unfolding all_below
below-append b [] ys = refl
below-append b (x ∷ xs) ys = ap (λ (t : Bool). ltb x b && t) (below-append b xs ys) ∙ sym (and_assoc (ltb x b) (all_below b xs) (all_below b ys))

below_more : (b : ℕ) (s : List ℕ) (i : ℕ) → i < length s → all_below b (take (i + 1) s) ≡ (all_below b (take i s) && ltb (get_or s i 0) b)
unfolding all_below
below_more b s i h = rw (add-one, take-suc s i 0, below-append, and-true)

pub below-drop : (b k : ℕ) (xs : List ℕ) → all_below b xs ≡ true → all_below b (drop k xs) ≡ true
unfolding all_below
below-drop b zero xs e = e
below-drop b (suc k) [] e = e
below-drop b (suc k) (x ∷ xs) e = below-drop b k xs (and_split (ltb x b) (all_below b xs) e).1

-- a has the bits of xs: it is below a power of two exactly where every item is
abbrev pub BitsOf : ℕ → List ℕ → Type 0
BitsOf a xs = (k : ℕ) → ltb a (2 ^ k) ≡ all_below (2 ^ k) xs

pub bits-more : (a b : ℕ) (xs ys zs : List ℕ) → BitsOf a xs → BitsOf b ys → xs ++ ys ≡ zs → BitsOf (bit_or a b) zs
bits-more a b xs ys zs p q e k =
    or-below k a b ∙ ap₂ (λ (s t : Bool). s && t) (p k) (q k) ∙ sym (below-append (2 ^ k) xs ys) ∙ ap (all_below (2 ^ k)) e

pub bits-one : (a : ℕ) (s : List ℕ) (i : ℕ) → i < length s → BitsOf a (take i s) → BitsOf (bit_or a (get_or s i 0)) (take (i + 1) s)
bits-one a s i h p k = or-below k a (get_or s i 0) ∙ ap (λ (t : Bool). t && ltb (get_or s i 0) (2 ^ k)) (p k) ∙ sym (below_more (2 ^ k) s i h)

-- ---- parts of a list
pub take_rest : (n : ℕ) (s : List ℕ) → take (length s - n) (drop n s) ≡ drop n s
take_rest n s = Std.take_rest s n

pub take-drop : (k m : ℕ) (s : List ℕ) → take m (drop k s) ≡ drop k (take (k + m) s)
take-drop k m s = sym (Std.drop-take k m s)
