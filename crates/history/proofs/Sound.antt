-- What a sound list is, from the test and to it. Assumes nothing.
--     sound→       the test passes: the storage has 4,096 places, and is the list that lies in it, padded; the length is one that its kind may have
--     →sound       a list of such a length and such items, padded, passes
--     view-padded  the list that lies in a padded list is that list
--     by_tests     the test, as it is made
use Rattle.std.proofs.Common.{◌≡◌, ℕ, zero, suc, ◌-◌, ◌≤◌, Bool, true, ◌&&◌, eqb, ltb, leb, List, [], ◌∷◌, ◌++◌, length, take, drop, replicate, sym, refl, ap, ◌∙◌, arith, length-append, length-drop, take-append-drop, length-take-le, ltb-true, eq-eqb, ne_eqb, eqb-true, le-leb, leb-true, le-ltb}
use lib.ListN.{length-replicate}
use lib.Seq.{take-append_seam, drop-append_seam}
use Rattle.history.specs.declared.Items.{Items}
use Rattle.history.specs.declared.Items.TheVariants.{Nothing, Outcomes, Times}
use Rattle.history.specs.Items.{view, padded, all_below, fits, are_items, sound_list}
use mathlib.Core.Bool.{and_assoc}
use Rattle.error.proofs.Choice.{and_split}

pub fits-outcomes : (w n : ℕ) → fits (Outcomes w) n ≡ true → (1 ≤ w) × (w ≤ 4096) × (n ≤ w)
fits-outcomes w n e =
    let p = and_split (leb 1 w) (leb w 4096 && leb n w) e in
    let q = and_split (leb w 4096) (leb n w) p.1 in
    (leb-true 1 w p.0, leb-true w 4096 q.0, leb-true n w q.1)

pub outcomes-fit : (w n : ℕ) → 1 ≤ w → w ≤ 4096 → n ≤ w → fits (Outcomes w) n ≡ true
outcomes-fit w n a b c = simp (le-leb _ _ a, le-leb _ _ b, le-leb _ _ c)

-- a list of any kind fits the storage
pub fits_le : (items : Items) (n : ℕ) → fits items n ≡ true → n ≤ 4096
fits_le Nothing n e = omega (arith, eqb-true n 0 e)
fits_le (Outcomes w) n e = omega (arith, fits-outcomes w n e)
fits_le Times n e = leb-true n 4096 e

pub record Sound (items : Items) (len : ℕ) (s : List ℕ) : Type 0 where
  pub places : length s ≡ 4096
  pub length_fits : fits items len ≡ true
  pub le : len ≤ 4096
  pub is_padded : s ≡ padded (view len s)
  pub of_its_kind : are_items items (view len s) ≡ true

-- what is below 1 is 0
zeros : (xs : List ℕ) → all_below 1 xs ≡ true → xs ≡ replicate (length xs) 0
unfolding all_below
zeros [] e = refl
zeros (x ∷ xs) e =
    let p = and_split (ltb x 1) (all_below 1 xs) e in
    let z : x ≡ 0 = omega (arith, ltb-true x 1 p.0) in
    rw (z, ← zeros xs p.1)

below-zeros : (n : ℕ) → all_below 1 (replicate n 0) ≡ true
unfolding all_below
below-zeros zero = refl
below-zeros (suc n) = below-zeros n

pub sound→ : (items : Items) (len : ℕ) (s : List ℕ) → sound_list items len s ≡ true → Sound items len s
unfolding sound_list
sound→ items len s e =
    let d = all_below 1 (drop len s) in
    let k = are_items items (view len s) in
    let p = and_split (eqb (length s) 4096) (fits items len && (d && k)) e in
    let q = and_split (fits items len) (d && k) p.1 in
    let r = and_split d k q.1 in
    let m : length s ≡ 4096 = eqb-true (length s) 4096 p.0 in
    let f : len ≤ 4096 = fits_le items len q.0 in
    let n : length (drop len s) ≡ 4096 - length (take len s) = simp (length-drop, length-take-le len s (omega arith)) (omega arith) in
    record {
      places = m;
      length_fits = q.0;
      le = f;
      is_padded = sym (take-append-drop len s) ∙ ap (λ (t : List ℕ). take len s ++ t) (zeros (drop len s) r.0 ∙ ap (λ (x : ℕ). replicate x 0) n);
      of_its_kind = r.1;
    }

pub view-padded : (xs : List ℕ) → view (length xs) (padded xs) ≡ xs
view-padded xs = take-append_seam xs (replicate (4096 - length xs) 0)

pub length-padded : (xs : List ℕ) → length xs ≤ 4096 → length (padded xs) ≡ 4096
length-padded xs h = simp (length-append, length-replicate) (omega arith)

pub →sound : (items : Items) (xs : List ℕ) → fits items (length xs) ≡ true → are_items items xs ≡ true → sound_list items (length xs) (padded xs) ≡ true
unfolding sound_list
→sound items xs f k = simp (f, eq-eqb _ _ (length-padded xs (fits_le items (length xs) f)), view-padded, drop-append_seam, below-zeros, k)

-- what is below 1 is 0, as a test
pub no_bits : (n : ℕ) → eqb n 0 ≡ ltb n 1
no_bits zero = refl
no_bits (suc n) = ne_eqb (suc n) 0 (λ e. omega arith) ∙ sym (le-ltb (suc n) 1 (omega arith))

-- the tests one after the other
pub by_tests : (items : Items) (n : ℕ) (s : List ℕ) (p q : Bool) → p ≡ (eqb (length s) 4096 && fits items n) → q ≡ (p && all_below 1 (drop n s))
    → (q && are_items items (view n s)) ≡ sound_list items n s
unfolding sound_list
by_tests items n s p q e f =
    simp (f, e, and_assoc)
