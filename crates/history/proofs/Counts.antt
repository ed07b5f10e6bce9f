-- Laws on sums over a list. Assumes nothing.
--     sum-append      a sum in two parts
--     count-le, count-take   a count is at most the length
--     sum-failures    the sum of outcomes is how many failed
--     recent-more     differences without the top bit are of items at or after the cutoff
use Rattle.std.proofs.Common.{◌≡◌, ℕ, zero, suc, ◌+◌, ◌^◌, ◌<◌, ◌≤◌, Bool, true, false, eqb, ltb, List, [], ◌∷◌, ◌++◌, length, take, sym, refl, ap, ◌∙◌, ap₂, zero-le, add_assoc, zero-add, arith, length-append, length-take, ltb-true, if◌then◌else◌}
use lib.Bits.{bit_or}
use Rattle.std.proofs.lemmas.Nat.{le_or_l, le_or_r}
use Rattle.history.specs.Items.{all_below, sum_of, item_sum, failures, recent}
use Rattle.error.proofs.Choice.{and_split}

pub sum-append : (f : ℕ → ℕ) (xs ys : List ℕ) → sum_of f (xs ++ ys) ≡ sum_of f xs + sum_of f ys
unfolding sum_of
sum-append f [] ys = sym (zero-add (sum_of f ys))
sum-append f (x ∷ xs) ys = ap (λ (n : ℕ). f x + n) (sum-append f xs ys) ∙ sym (add_assoc (f x) (sum_of f xs) (sum_of f ys))

-- one for each item that passes the test p
abbrev pub ones : (ℕ → Bool) → ℕ → ℕ
ones p x = if p x then 1 else 0

pub count-le : (p : ℕ → Bool) (xs : List ℕ) → sum_of (ones p) xs ≤ length xs
unfolding sum_of
count-le p [] = zero-le
count-le p (x ∷ xs) = go (p x) (count-le p xs)
  where
    go : (b : Bool) → sum_of (ones p) xs ≤ length xs → (if b then 1 else 0) + sum_of (ones p) xs ≤ suc (length xs)
    go true h = omega arith
    go false h = omega arith

pub count-take : (p : ℕ → Bool) (n : ℕ) (s : List ℕ) → sum_of (ones p) (take n s) ≤ n
count-take p n s = omega (arith, count-le p (take n s), length-take n s)

pub sum-failures : (xs : List ℕ) → all_below 2 xs ≡ true → item_sum xs ≡ failures xs
unfolding all_below sum_of
sum-failures [] e = refl
sum-failures (x ∷ xs) e =
    let p = and_split (ltb x 2) (all_below 2 xs) e in
    ap₂ (λ (a b : ℕ). a + b) (outcome x (ltb-true x 2 p.0)) (sum-failures xs p.1)
  where
    outcome : (x : ℕ) → x < 2 → x ≡ (if eqb x 1 then 1 else 0)
    outcome zero h = refl
    outcome (suc zero) h = refl
    outcome (suc (suc x)) h = absurd (omega arith)

-- below 2^63 a difference that is below 2^63 is of an item at or after the cutoff
abbrev pub AllRecent : ℕ → ℕ → List ℕ → Type 0
AllRecent cutoff bits xs = bits < 2 ^ 63 → cutoff < 2 ^ 63 → recent cutoff xs ≡ length xs

pub recent-more : (cutoff a b : ℕ) (xs ys zs : List ℕ) → AllRecent cutoff a xs → AllRecent cutoff b ys → xs ++ ys ≡ zs → AllRecent cutoff (bit_or a b) zs
recent-more cutoff a b xs ys zs p q e l h =
    rw (← e, sum-append, length-append, p (omega (arith, le_or_l a b)) h, q (omega (arith, le_or_r a b)) h)
