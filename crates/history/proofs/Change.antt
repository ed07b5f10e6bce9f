-- What the calls that change a list make of any storage: the refusals, and the rule's list laid over the old one. Assumes nothing.
use Rattle.std.proofs.Common.{◌≡◌, ℕ, ◌+◌, ◌-◌, ◌≤◌, min, Bool, true, false, ltb, List, [], ◌∷◌, ◌++◌, length, take, drop, set, sym, refl, ap, ◌∙◌, append-nil, one-add, arith, length-append, length-drop, drop_of_length-le, length-take-le, le-ltb, eq-eqb, le-leb, if◌then◌else◌}
use Rattle.std.specs.List.{prefix_len}
use Rattle.std.proofs.lemmas.List.{drop_min}
use Rattle.error.specs.Told.{tell}
use Rattle.error.specs.declared.Refusal.TheVariants.{Full}
use Rattle.history.specs.Items.{evicted}
use Rattle.history.specs.Change.{left, laid, refuse, replaced, cleared}
use Rattle.history.proofs.Laid.{kept-length, laid_more}

-- ---- of the n items in s the oldest go, `gone` of them or all
module _ (gone n k : ℕ) (s : List ℕ) (p : length s ≡ 4096) (l : n ≤ 4096) (e : k ≡ min gone n) where
  rest : drop k (take n s) ≡ drop gone (take n s)
  rest =
      let q : length (take n s) ≡ n = length-take-le n s (omega arith) in
      ap (λ (i : ℕ). drop i (take n s)) e ∙ rw q at (drop_min gone (take n s))

  stay : length (drop gone (take n s)) ≡ n - k
  stay = sym (ap length rest) ∙ kept-length s n k (n - k) (omega arith) (omega arith)

  pub turned-full : n - k ≡ 4096 → (v : ℕ) → refuse Full s ≡ replaced gone (v ∷ []) n s
  unfolding replaced
  turned-full h v = simp (eq-eqb _ _ p, le-leb _ _ l, length-append, stay, h)

  pub turned-over : (n - k ≡ 4096 → ⊥) → (v : ℕ) (x : List ℕ) → x ≡ laid n (drop k (take n s)) s → left (tell 0 ((n - k + 1) ∷ [])) (set x (n - k) v) ≡ replaced gone (v ∷ []) n s
  unfolding replaced
  turned-over h v x q =
      let m : n - k + 1 ≤ 4096 = omega arith in
      let r : set x (n - k) v ≡ laid n (drop gone (take n s) ++ v ∷ []) s =
      rw (q, rest, ← stay) (laid_more n v (drop gone (take n s)) s (omega (arith, stay)) (omega (arith, stay))) in
      simp (eq-eqb _ _ p, le-leb _ _ l, length-append, stay, le-leb _ _ m, r)

  pub dropped : (x : List ℕ) → x ≡ laid n (drop k (take n s)) s → left (tell 0 ((n - k) ∷ [])) x ≡ replaced gone [] n s
  unfolding replaced
  dropped x q =
      let m : n - k ≤ 4096 = omega arith in
      simp (append-nil, eq-eqb _ _ p, le-leb _ _ l, stay, le-leb _ _ m, q, rest)

-- all of the n items in s go
pub emptied : (n : ℕ) (s : List ℕ) → length s ≡ 4096 → n ≤ 4096 → (x : List ℕ) → x ≡ laid n (drop n (take n s)) s → left (tell 0 (0 ∷ [])) x ≡ cleared n s
unfolding cleared
emptied n s p l x q =
    let g : drop n (take n s) ≡ [] = drop_of_length-le (take n s) {i = n} (omega (arith, length-take-le n s (omega arith))) in
    simp (eq-eqb _ _ p, le-leb _ _ l, q, g)

-- ---- Windowed
-- what goes is what lies ahead of the first reading that stays
pub evicted-front : (c : ℕ) (xs : List ℕ) → drop (prefix_len (λ t. ltb t c) xs) xs ≡ evicted c xs
unfolding evicted
evicted-front c [] = refl
evicted-front c (t ∷ ts) = go (ltb t c) (evicted-front c ts)
  where
    go : (b : Bool) → drop (prefix_len (λ t. ltb t c) ts) ts ≡ evicted c ts
        → drop (if b then 1 + prefix_len (λ t. ltb t c) ts else 0) (t ∷ ts) ≡ (if b then evicted c ts else t ∷ ts)
    go true h = rw one-add h
    go false h = refl

pub evicted-le : (c : ℕ) (xs : List ℕ) → length (evicted c xs) ≤ length xs
evicted-le c xs = rw (← evicted-front c xs) (simp length-drop (omega arith))

-- a reading at or after the cutoff stays
pub evicted-more : (c t : ℕ) (xs : List ℕ) → c ≤ t → evicted c (xs ++ t ∷ []) ≡ evicted c xs ++ t ∷ []
unfolding evicted
evicted-more c t [] h = rw (le-ltb t c h)
evicted-more c t (x ∷ xs) h = go (ltb x c) (evicted-more c t xs h)
  where
    go : (b : Bool) → evicted c (xs ++ t ∷ []) ≡ evicted c xs ++ t ∷ []
        → (if b then evicted c (xs ++ t ∷ []) else x ∷ (xs ++ t ∷ [])) ≡ (if b then evicted c xs else x ∷ xs) ++ t ∷ []
    go true ih = ih
    go false ih = refl
