-- A list laid over another in storage, and what that is where the storage was padded. Assumes nothing.
use Rattle.std.proofs.Common.{◌≡◌, ℕ, suc, ◌+◌, ◌-◌, ◌<◌, ◌≤◌, max, Bool, true, false, ltb, List, [], ◌∷◌, ◌++◌, length, get_or, take, drop, set, replicate, refl, ap, ◌∙◌, arith, length-append, length-drop, length-take-le, drop-cons, drop-drop, take_at, drop_at, ltb-false, ltb-true}
use lib.ListN.{replicate-append-replicate}
use Rattle.std.proofs.lemmas.List.{drop-replicate}
use lib.Seq.{append_snoc, set_at, drop-append-add}
use Rattle.history.specs.Items.{padded}
use Rattle.history.specs.Change.{laid}
use Rattle.history.proofs.Laws.{take-drop}

-- of the n items in s the k oldest go, and m stay
module _ (s : List ℕ) (n k m : ℕ) (e : k + m ≡ n) (l : n ≤ length s) where
  pub kept-length : length (drop k (take n s)) ≡ m
  kept-length = simp (length-drop, length-take-le n s) (omega arith)

  -- they are moved down (x), and the places that fall free are cleared (z)
  pub laid_kept : (x z : List ℕ) → x ≡ take m (drop k s) ++ drop m s → z ≡ replicate (length (take (n - m) (drop m x))) 0
      → take m x ++ (z ++ drop (n - m) (drop m x)) ≡ laid n (drop k (take n s)) s
  laid_kept x z p q =
      let t : x ≡ drop k (take n s) ++ drop m s = p ∙ ap (λ (y : List ℕ). y ++ drop m s) (take-drop k m s ∙ ap (λ (j : ℕ). drop k (take j s)) e) in
      let a : take m x ≡ drop k (take n s) = rw t (take_at (drop k (take n s)) (drop m s) m kept-length) in
      let b : drop m x ≡ drop m s = rw t (drop_at (drop k (take n s)) (drop m s) m kept-length) in
      let f : length (take (n - m) (drop m s)) ≡ n - m = length-take-le (n - m) (drop m s) (simp length-drop (omega arith)) in
      let d : max n m ≡ n = omega arith in
      let g : m + (n - m) ≡ n = omega arith in
      rw (q, a, b, f, drop-drop, g, kept-length, d)

-- one item more, at the place after the list
pub laid_more : (n v : ℕ) (xs s : List ℕ) → length xs ≤ n → length xs < length s → set (laid n xs s) (length xs) v ≡ laid n (xs ++ v ∷ []) s
laid_more n v xs s h l = go (ltb (length xs) n) refl
  where
    j : ℕ
    j = length xs

    grown : length (xs ++ v ∷ []) ≡ j + 1
    grown = simp length-append

    go : (b : Bool) → ltb j n ≡ b → set (laid n xs s) j v ≡ laid n (xs ++ v ∷ []) s
    go true e =
        let k : j < n = ltb-true j n e in
        let a : n - j ≡ suc (n - (j + 1)) = omega arith in
        let m : max n j ≡ n = omega arith in
        let m' : max n (j + 1) ≡ n = omega arith in
        rw (grown, a, m, m', append_snoc) (set_at xs 0 (replicate (n - (j + 1)) 0 ++ drop n s) v j refl)
    go false e =
        let k : n ≡ j = omega (arith, ltb-false j n e) in
        let a : n - j ≡ 0 = omega arith in
        let a' : n - (j + 1) ≡ 0 = omega arith in
        let m : max n j ≡ j = omega arith in
        let m' : max n (j + 1) ≡ suc j = omega arith in
        rw (grown, a, a', m, m', append_snoc, drop-cons s j 0) (set_at xs (get_or s j 0) (drop (suc j) s) v j refl)

-- where the storage was the list and zeros, it is the new list and zeros
pub laid-padded : (n : ℕ) (xs s : List ℕ) → n ≤ 4096 → length s ≡ 4096 → length xs ≤ 4096 → s ≡ padded (take n s) → laid n xs s ≡ padded xs
laid-padded n xs s h l k p =
    let j = max n (length xs) - n in
    let q : length (take n s) ≡ n = length-take-le n s (omega arith) in
    let d : max n (length xs) ≡ length (take n s) + j = omega arith in
    let r : n - length xs + (4096 - length (take n s) - j) ≡ 4096 - length xs = omega arith in
    let tail : drop (max n (length xs)) s ≡ replicate (4096 - length (take n s) - j) 0 =
    ap (λ (t : List ℕ). drop (max n (length xs)) t) p
    ∙ ap (λ (i : ℕ). drop i (padded (take n s))) d
    ∙ drop-append-add (take n s) (replicate (4096 - length (take n s)) 0) j
    ∙ drop-replicate j (4096 - length (take n s)) 0 in
    rw (tail, replicate-append-replicate, r)
