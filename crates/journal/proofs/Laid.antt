-- Bytes laid over a buffer: one, and one run after another. And how long a printed line is. Assumes nothing.
use mathlib.Core.Path.{◌≡◌, refl, sym, ap, ◌∙◌}
use mathlib.Core.List.{List, [], ◌∷◌, ◌++◌, append_assoc, append-nil}
use Prim.Native.Nat.{ℕ, zero, suc, ◌+◌, ◌*◌, ◌/◌, ◌≤◌, ◌<◌, ◌^◌}
use native.Mathlib.Nat.{add_assoc, add-zero, pow-suc}
use mir.Val.{Fits}
use mir.Syntax.{w64}
use native.Mathlib.Numerals.{add-one}
use native.Mathlib.Omega.{arith}
use lib.ListN.{length, take, drop, get_or, set, length-append, length-drop, take-append-drop}
use lib.Seq.{set_split, take-suc, take_at, drop_at, drop-append-add, drop-drop, length-take-le}
use Rattle.lines.specs.Print.{print_decimal, print_fields}
use Rattle.lines.proofs.Numbers.{print-digit, print-more, by_digits}
use Rattle.journal.specs.Laid.{laid}

pub set-laid : (s : List ℕ) (at x : ℕ) → at < length s → set s at x ≡ laid at (x ∷ []) s
set-laid s at x h = rw add-one (set_split s at x h)

pub length-laid : (s : List ℕ) (at : ℕ) (xs : List ℕ) → at + length xs ≤ length s → length (laid at xs s) ≡ length s
length-laid s at xs h = simp (length-append, length-take-le at s (omega arith), length-drop) (omega arith)

pub laid-laid : (s : List ℕ) (at : ℕ) (xs ys : List ℕ) → at + length xs ≤ length s → laid (at + length xs) ys (laid at xs s) ≡ laid at (xs ++ ys) s
laid-laid s at xs ys h =
    let n = at + length xs in
    let P = take at s ++ xs in
    let e : length P ≡ n = simp (length-append, length-take-le at s (omega arith)) in
    let a : laid at xs s ≡ P ++ drop n s = sym (append_assoc (take at s) xs (drop n s)) in
    let d : drop (n + length ys) (P ++ drop n s) ≡ drop (n + length ys) s =
    ap (λ (k : ℕ). drop (k + length ys) (P ++ drop n s)) (sym e) ∙ drop-append-add P (drop n s) (length ys) ∙ drop-drop (length ys) n s in
    rw (a, take_at P (drop n s) n e, d, length-append, ← add_assoc, append_assoc, append_assoc)

-- one byte more
pub laid-set : (s : List ℕ) (at : ℕ) (xs : List ℕ) (x : ℕ) → at + length xs < length s → set (laid at xs s) (at + length xs) x ≡ laid at (xs ++ (x ∷ [])) s
laid-set s at xs x h = set-laid (laid at xs s) (at + length xs) x (simp (length-laid s at xs (omega arith)) h) ∙ laid-laid s at xs (x ∷ []) (omega arith)

-- ---- lengths
pub length-digit : (d : ℕ) → d < 10 → length (print_decimal d) ≡ 1
length-digit d h = rw (print-digit d h)

pub length_more : (n : ℕ) → 10 ≤ n → length (print_decimal n) ≡ length (print_decimal (n / 10)) + 1
length_more n h = rw (print-more n h, length-append)

-- a byte, and a run after it
pub laid-head : (s : List ℕ) (at x : ℕ) (ys : List ℕ) → at < length s → laid (at + 1) ys (set s at x) ≡ laid at (x ∷ ys) s
laid-head s at x ys h = rw (set-laid s at x h) (laid-laid s at (x ∷ []) ys (omega arith))

-- the same behind what was laid before
pub laid_then : (s : List ℕ) (at : ℕ) (xs : List ℕ) (x : ℕ) (ys : List ℕ) → at + length xs < length s
    → laid (at + length xs + 1) ys (set (laid at xs s) (at + length xs) x) ≡ laid at (xs ++ (x ∷ ys)) s
laid_then s at xs x ys h =
    laid-head (laid at xs s) (at + length xs) x ys (simp (length-laid s at xs (omega arith)) h) ∙ laid-laid s at xs (x ∷ ys) (omega arith)

-- ---- fields
pub fields-append : (xs ys : List ℕ) → print_fields (xs ++ ys) ≡ print_fields xs ++ print_fields ys
unfolding print_fields
fields-append [] ys = refl
fields-append (x ∷ xs) ys = rw (fields-append xs ys, append_assoc)

pub fields-more : (vs : List ℕ) (i : ℕ) → i < length vs → print_fields (take (i + 1) vs) ≡ print_fields (take i vs) ++ (32 ∷ print_decimal (get_or vs i 0))
unfolding print_fields
fields-more vs i h = rw (add-one, take-suc vs i 0, fields-append, append-nil)

-- the room that the next field takes
pub fields_fit : (vs : List ℕ) (i : ℕ) → i < length vs → length (print_fields (take i vs)) + (1 + length (print_decimal (get_or vs i 0))) ≤ length (print_fields vs)
fields_fit vs i h =
    let e : print_fields vs ≡ print_fields (take (i + 1) vs) ++ print_fields (drop (i + 1) vs) = rw (← fields-append, take-append-drop) in
    let m : length (print_fields (take (i + 1) vs)) ≡ length (print_fields (take i vs)) + (1 + length (print_decimal (get_or vs i 0))) = rw (fields-more vs i h, length-append) (omega arith) in
    rw (e, length-append) (omega arith)

pub laid_nil : (s : List ℕ) (at : ℕ) → s ≡ laid at [] s
laid_nil s at = rw add-zero (sym (take-append-drop at s))

-- a number of k digits is below 10 ^ k
pub length-decimal : (n k : ℕ) → n < 10 ^ suc k → length (print_decimal n) ≤ suc k
length-decimal n = by_digits (λ n. (k : ℕ) → n < 10 ^ suc k → length (print_decimal n) ≤ suc k) small more n
  where
    small : (d : ℕ) → d < 10 → (k : ℕ) → d < 10 ^ suc k → length (print_decimal d) ≤ suc k
    small d h k l = omega (arith, length-digit d h)

    more : (n : ℕ) → 10 ≤ n → ((k : ℕ) → n / 10 < 10 ^ suc k → length (print_decimal (n / 10)) ≤ suc k) → (k : ℕ) → n < 10 ^ suc k → length (print_decimal n) ≤ suc k
    more n h ih zero l = absurd (omega arith)
    more n h ih (suc k) l = omega (arith, length_more n h, ih k (omega (arith, pow-suc 10 (suc k))))

pub fields-short : (vs : List ℕ) → ((i : ℕ) → Fits w64 (get_or vs i 0)) → length (print_fields vs) ≤ 21 * length vs
unfolding print_fields
fields-short [] f = omega arith
fields-short (v ∷ vs) f =
    let h : length (print_fields vs) ≤ 21 * length vs = fields-short vs (λ i. f (suc i)) in
    let d : length (print_decimal v) ≤ 20 = length-decimal v 19 (omega (arith, f 0)) in
    simp length-append (omega arith)

-- what is laid, as an append to what was written before
pub take-laid : (s : List ℕ) (at : ℕ) (xs : List ℕ) → at + length xs ≤ length s → take (at + length xs) (laid at xs s) ≡ take at s ++ xs
take-laid s at xs h =
    let e : length (take at s ++ xs) ≡ at + length xs = simp (length-append, length-take-le at s (omega arith)) in
    rw (← append_assoc (take at s) xs (drop (at + length xs) s)) (take_at (take at s ++ xs) (drop (at + length xs) s) (at + length xs) e)

pub drop-laid : (s : List ℕ) (at : ℕ) (xs : List ℕ) → at + length xs ≤ length s → drop (at + length xs) (laid at xs s) ≡ drop (at + length xs) s
drop-laid s at xs h =
    let e : length (take at s ++ xs) ≡ at + length xs = simp (length-append, length-take-le at s (omega arith)) in
    rw (← append_assoc (take at s) xs (drop (at + length xs) s)) (drop_at (take at s ++ xs) (drop (at + length xs) s) (at + length xs) e)

-- ---- a line: a letter, two runs of fields and the feed
pub line_laid : (out out₁ out₂ : List ℕ) (at next end letter : ℕ) (xs ys : List ℕ) → at + (2 + (length xs + length ys)) ≤ length out
    → next ≡ at + 1 + length xs → out₁ ≡ laid (at + 1) xs (set out at letter) → end ≡ next + length ys → out₂ ≡ laid next ys out₁
    → (end + 1 ≡ at + length (letter ∷ ((xs ++ ys) ++ (10 ∷ [])))) × (set out₂ end 10 ≡ laid at (letter ∷ ((xs ++ ys) ++ (10 ∷ []))) out)
line_laid out out₁ out₂ at next end letter xs ys h n e m f =
    let P = letter ∷ xs in
    let Q = letter ∷ (xs ++ ys) in
    let p : next ≡ at + length P = omega arith in
    let q : end ≡ at + length Q = simp length-append (omega arith) in
    let a : out₁ ≡ laid at P out = e ∙ laid-head out at letter xs (omega arith) in
    let b : out₂ ≡ laid at Q out = rw (f, a, p) (laid-laid out at P ys (omega arith)) in
    (simp length-append (omega arith), rw (b, q) (laid-set out at Q 10 (simp length-append (omega arith))))
