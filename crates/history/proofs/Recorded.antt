-- The list after an outcome, as what goes of it and what is appended; and how it is counted in the list as it stands. Assumes nothing.
--     outcome-is, outcome-failures     Ratio: k of the outcomes are over the window
--     time-is, time-recent             Windowed
use Rattle.std.proofs.Common.{◌≡◌, ℕ, ◌+◌, ◌-◌, ◌≤◌, List, [], ◌∷◌, ◌++◌, length, drop, sym, ap, ◌∙◌, arith, length-append, le-leb}
use lib.Seq.{drop-append-le}
use Rattle.history.specs.Items.{sum_of, failures, recent, evicted, with_outcome}
use Rattle.history.proofs.Counts.{sum-append}
use Rattle.history.proofs.Change.{evicted-more}

-- ---- Ratio
pub outcome-is : (w o k : ℕ) (xs : List ℕ) → 1 ≤ w → length xs + 1 - w ≡ k → with_outcome w o xs ≡ drop k xs ++ o ∷ []
outcome-is w o k xs h e =
    let f : k ≤ length xs = omega arith in
    simp (length-append, e) (drop-append-le k xs (o ∷ []) f)

pub outcome-failures : (xs : List ℕ) → failures (xs ++ 1 ∷ []) ≡ failures xs + 1
unfolding sum_of
outcome-failures xs = rw sum-append

-- ---- Windowed: a reading is never before its own cutoff
pub time-is : (c t k : ℕ) (xs : List ℕ) → c ≤ t → drop k xs ≡ evicted c xs → evicted c (xs ++ t ∷ []) ≡ drop k xs ++ t ∷ []
time-is c t k xs h e = evicted-more c t xs h ∙ ap (λ (ys : List ℕ). ys ++ t ∷ []) (sym e)

pub time-recent : (c t : ℕ) (xs : List ℕ) → c ≤ t → recent c (xs ++ t ∷ []) ≡ recent c xs + 1
unfolding sum_of
time-recent c t xs h = rw (sum-append, le-leb c t h)
