-- Laws of numbers in bytes: what is printed is taken again, and what is taken was printed. Assumes nothing.
use Rattle.std.proofs.Common.{◌≡◌, ℕ, zero, suc, ◌+◌, ◌*◌, ◌-◌, ◌/◌, ◌%◌, ◌^◌, ◌≤◌, ◌<◌, Bool, true, false, not, ltb, eqb, if◌then◌else◌, List, [], ◌∷◌, ◌++◌, append_assoc, length, take, drop, get_or, get_or-take, Option, Some, None, refl, sym, ◌∙◌, add-one, arith, lt-ltb, le-ltb, ltb-true, ltb-false, ne_eqb, eqb-true}
use Rattle.std.specs.Option.{option_and_then}
use Rattle.std.proofs.lemmas.Option.{some_pair_parts}
use Rattle.std.proofs.lemmas.Bool.Decides.{nat_tests}
use native.Mathlib.Nat.{zero-add, add-zero, pow-suc, pow-le-pow_right}
use lib.Seq.{drop-cons}
use Rattle.lines.specs.Reads.{Read}
use Rattle.lines.specs.Print.{decimal_in, print_decimal, glyph, hex_in, print_hex16}
use Rattle.lines.proofs.After.{bound-back}
use Rattle.lines.specs.Take.{is_decimal, take_digits, take_decimal, hex_digit, take_hex}

-- ---- printed decimals
enough : (k j n : ℕ) → n < k → n < j → decimal_in k n ≡ decimal_in j n
unfolding decimal_in
enough zero j n h l = absurd (omega arith)
enough (suc k) zero n h l = absurd (omega arith)
enough (suc k) (suc j) n h l = go (ltb n 10) refl (λ p. enough k j (n / 10) (omega arith) (omega arith))
  where
    go : (x : Bool) → ltb n 10 ≡ x → (10 ≤ n → decimal_in k (n / 10) ≡ decimal_in j (n / 10)) → decimal_in (suc k) n ≡ decimal_in (suc j) n
    go true e ih = simp e
    go false e ih = simp (e, ih (ltb-false n 10 e))

pub print-digit : (d : ℕ) → d < 10 → print_decimal d ≡ (48 + d) ∷ []
unfolding print_decimal decimal_in
print-digit d h = let m : d % 10 ≡ d = omega arith in simp (lt-ltb d 10 h, m)

pub print-more : (n : ℕ) → 10 ≤ n → print_decimal n ≡ print_decimal (n / 10) ++ ((48 + n % 10) ∷ [])
unfolding print_decimal decimal_in
print-more n h = simp (le-ltb n 10 h, enough n (suc (n / 10)) (n / 10) (omega arith) (omega arith))

pub print-push : (v d : ℕ) → 0 < v → d < 10 → print_decimal (v * 10 + d) ≡ print_decimal v ++ ((48 + d) ∷ [])
print-push v d h l =
    let q : (v * 10 + d) / 10 ≡ v = omega arith in
    let r : (v * 10 + d) % 10 ≡ d = omega arith in
    rw (print-more (v * 10 + d) (omega arith), q, r)

-- what holds of the digits, and of a number if it holds without its last digit, holds of every number
pub by_digits {ℓ} : (P : ℕ → Type ℓ) → ((d : ℕ) → d < 10 → P d) → ((n : ℕ) → 10 ≤ n → P (n / 10) → P n) → (n : ℕ) → P n
by_digits P small more n = go (suc n) n (omega arith)
  where
    go : (k m : ℕ) → m < k → P m
    go zero m h = absurd (omega arith)
    go (suc k) m h = pick (ltb m 10) refl (λ p. go k (m / 10) (omega arith))
      where
        pick : (x : Bool) → ltb m 10 ≡ x → (10 ≤ m → P (m / 10)) → P m
        pick true e ih = small m (ltb-true m 10 e)
        pick false e ih = more m (ltb-false m 10 e) (ih (ltb-false m 10 e))

-- ---- decimals, there and back
-- the readers of a decimal below any bound; take_digits and take_decimal are those below 2 ^ 64
unfoldable pub digits_below : ℕ → ℕ → List ℕ → Read ℕ
digits_below m v [] = Some (v, [])
digits_below m v (b ∷ bs) =
    if is_decimal b then (if ltb (v * 10 + (b - 48)) m then digits_below m (v * 10 + (b - 48)) bs else None)
    else Some (v, b ∷ bs)

unfoldable pub decimal_below : ℕ → List ℕ → Read ℕ
decimal_below m [] = None
decimal_below m (b ∷ bs) = if eqb b 48 then Some (0, bs) else if is_decimal b then digits_below m 0 (b ∷ bs) else None

digits-64 : (v : ℕ) (bs : List ℕ) → take_digits v bs ≡ digits_below (2 ^ 64) v bs
unfolding take_digits digits_below
digits-64 v [] = refl
digits-64 v (b ∷ bs) = rw (digits-64 (v * 10 + (b - 48)) bs)

pub decimal-64 : (bs : List ℕ) → take_decimal bs ≡ decimal_below (2 ^ 64) bs
unfolding take_decimal decimal_below
decimal-64 [] = refl
decimal-64 (b ∷ bs) = rw (digits-64 0 (b ∷ bs))

-- one digit more
digit-there : (m v d : ℕ) (rest : List ℕ) → d < 10 → v * 10 + d < m → digits_below m v ((48 + d) ∷ rest) ≡ digits_below m (v * 10 + d) rest
unfolding digits_below
digit-there m v d rest h l =
    let t : is_decimal (48 + d) ≡ true = grind (arith, nat_tests) in
    let e : 48 + d - 48 ≡ d = omega arith in
    rw (t, e, lt-ltb (v * 10 + d) m l)

-- the bytes of v take the reader to v
decimal-there : (m : ℕ) (rest : List ℕ) (v : ℕ) → 0 < v → v < m → decimal_below m (print_decimal v ++ rest) ≡ digits_below m v rest
unfolding decimal_below
decimal-there m rest v = by_digits (λ v. (rest : List ℕ) → 0 < v → v < m → decimal_below m (print_decimal v ++ rest) ≡ digits_below m v rest) small more v rest
  where
    small : (d : ℕ) → d < 10 → (rest : List ℕ) → 0 < d → d < m → decimal_below m (print_decimal d ++ rest) ≡ digits_below m d rest
    small d h rest p l =
        let t : is_decimal (48 + d) ≡ true = grind (arith, nat_tests) in
        rw (print-digit d h, ne_eqb (48 + d) 48 (omega arith), t) (digit-there m 0 d rest h (omega arith) ∙ rw zero-add)

    more : (n : ℕ) → 10 ≤ n → ((rest : List ℕ) → 0 < n / 10 → n / 10 < m → decimal_below m (print_decimal (n / 10) ++ rest) ≡ digits_below m (n / 10) rest)
        → (rest : List ℕ) → 0 < n → n < m → decimal_below m (print_decimal n ++ rest) ≡ digits_below m n rest
    more n h ih rest p l =
        let e : n / 10 * 10 + n % 10 ≡ n = omega arith in
        rw (print-more n h, append_assoc) (ih ((48 + n % 10) ∷ rest) (omega arith) (omega arith) ∙ digit-there m (n / 10) (n % 10) rest (omega arith) (omega arith) ∙ rw e)

-- whether no digit stands at the front
abbrev pub stops : List ℕ → Bool
stops [] = true
stops (b ∷ bs) = not (is_decimal b)

digits-stop : (m v : ℕ) (rest : List ℕ) → stops rest ≡ true → digits_below m v rest ≡ Some (v, rest)
unfolding digits_below
digits-stop m v [] e = refl
digits-stop m v (b ∷ bs) e = go (is_decimal b) e
  where
    go : (x : Bool) → not x ≡ true → (if x then (if ltb (v * 10 + (b - 48)) m then digits_below m (v * 10 + (b - 48)) bs else None) else Some (v, b ∷ bs)) ≡ Some (v, b ∷ bs)
    go true e = cc
    go false e = refl

pub below-there : (m v : ℕ) (rest : List ℕ) → v < m → stops rest ≡ true → decimal_below m (print_decimal v ++ rest) ≡ Some (v, rest)
unfolding decimal_below
below-there m zero rest h e = rw (print-digit 0 (omega arith))
below-there m (suc n) rest h e = decimal-there m rest (suc n) (omega arith) h ∙ digits-stop m (suc n) rest e

pub number-there : (v : ℕ) (rest : List ℕ) → v < 2 ^ 64 → stops rest ≡ true → take_decimal (print_decimal v ++ rest) ≡ Some (v, rest)
number-there v rest h e = decimal-64 (print_decimal v ++ rest) ∙ below-there (2 ^ 64) v rest h e

-- a number below m that was taken, with what is left
abbrev Printed : ℕ → ℕ → List ℕ → List ℕ → Type 0
Printed m v bs rest = (v < m) × (bs ≡ print_decimal v ++ rest)

digits-back : (m u : ℕ) (bs : List ℕ) (v : ℕ) (rest : List ℕ) → 0 < u → u < m → digits_below m u bs ≡ Some (v, rest) → Printed m v (print_decimal u ++ bs) rest
unfolding digits_below
digits-back m u [] v rest p l e = let a = some_pair_parts _ _ _ _ e in (omega arith, cc (a.0, a.1))
digits-back m u (b ∷ bs) v rest p l e =
    go (is_decimal b) (ltb (u * 10 + (b - 48)) m) refl refl (λ k q. digits-back m (u * 10 + (b - 48)) bs v rest (omega arith) k q) e
  where
    go : (x y : Bool) → is_decimal b ≡ x → ltb (u * 10 + (b - 48)) m ≡ y
        → (u * 10 + (b - 48) < m → digits_below m (u * 10 + (b - 48)) bs ≡ Some (v, rest) → Printed m v (print_decimal (u * 10 + (b - 48)) ++ bs) rest)
        → (if x then (if y then digits_below m (u * 10 + (b - 48)) bs else None) else Some (u, b ∷ bs)) ≡ Some (v, rest) → Printed m v (print_decimal u ++ (b ∷ bs)) rest
    go true true r t ih q =
        let w : (48 ≤ b) × (b ≤ 57) = grind (arith, nat_tests) in
        let f : 48 + (b - 48) ≡ b = omega (arith, w) in
        let i = ih (ltb-true _ _ t) q in
        (i.0, rw (print-push u (b - 48) p (omega (arith, w)), append_assoc, f) at i.1)
    go true false r t ih q = cc
    go false y r t ih q = let a = some_pair_parts _ _ _ _ q in (omega arith, cc (a.0, a.1))

pub below-back : (m : ℕ) (bs : List ℕ) (v : ℕ) (rest : List ℕ) → 0 < m → decimal_below m bs ≡ Some (v, rest) → Printed m v bs rest
unfolding decimal_below digits_below
below-back m [] v rest l e = cc
below-back m (b ∷ bs) v rest l e = go (eqb b 48) (is_decimal b) (ltb (0 * 10 + (b - 48)) m) refl refl refl e
  where
    go : (x y z : Bool) → eqb b 48 ≡ x → is_decimal b ≡ y → ltb (0 * 10 + (b - 48)) m ≡ z
        → (if x then Some (0, bs) else if y then (if y then (if z then digits_below m (0 * 10 + (b - 48)) bs else None) else Some (0, b ∷ bs)) else None) ≡ Some (v, rest) → Printed m v (b ∷ bs) rest
    go true y z r t k q =
        let a = some_pair_parts _ _ _ _ q in
        let w : print_decimal 0 ≡ 48 ∷ [] = print-digit 0 (omega arith) in
        (omega arith, rw (eqb-true b 48 r, ← a.0, w) (cc (a.1)))
    go false true true r t k q =
        let w : (49 ≤ b) × (b ≤ 57) = grind (arith, nat_tests) in
        let d : b - 48 < 10 = omega (arith, w) in
        let f : 48 + (b - 48) ≡ b = omega (arith, w) in
        let h : b - 48 < m = omega (arith, ltb-true (0 * 10 + (b - 48)) m k) in
        let i = digits-back m (b - 48) bs v rest (omega (arith, w)) h (rw zero-add at q) in
        (i.0, rw (print-digit (b - 48) d, f) at i.1)
    go false true false r t k q = cc
    go false false z r t k q = cc

pub number-back : (bs : List ℕ) (v : ℕ) (rest : List ℕ) → take_decimal bs ≡ Some (v, rest) → Printed (2 ^ 64) v bs rest
number-back bs v rest e = below-back (2 ^ 64) bs v rest (omega arith) (sym (decimal-64 bs) ∙ e)

-- ---- hexadecimal, there and back
hex_glyph : (d : ℕ) → d < 16 → hex_digit (glyph d) ≡ Some d
unfolding hex_digit
hex_glyph d h = grind (arith, nat_tests)

glyph-hex : (b d : ℕ) → hex_digit b ≡ Some d → (d < 16) × (glyph d ≡ b)
unfolding hex_digit
glyph-hex b d e = grind (arith, nat_tests)

pub hex-there : (k j n : ℕ) (rest : List ℕ) → n < 16 ^ k → take_hex (k + j) 0 (hex_in k n ++ rest) ≡ take_hex j n rest
unfolding take_hex hex_in
hex-there zero j n rest h = let e : n ≡ 0 = omega arith in rw (zero-add, e)
hex-there (suc k) j n rest h =
    let e : suc k + j ≡ k + suc j = omega arith in
    let d : n % 16 < 16 = omega arith in
    let m : n / 16 * 16 + n % 16 ≡ n = omega arith in
    rw (e, append_assoc) (hex-there k (suc j) (n / 16) (glyph (n % 16) ∷ rest) (omega (arith, pow-suc 16 k)) ∙ rw (hex_glyph (n % 16) d, m))

pub hex-back : (j k u : ℕ) (bs : List ℕ) (v : ℕ) (rest : List ℕ) → u < 16 ^ k → take_hex j u bs ≡ Some (v, rest)
    → (v < 16 ^ (k + j)) × (hex_in k u ++ bs ≡ hex_in (k + j) v ++ rest)
unfolding take_hex hex_in
hex-back zero k u bs v rest h e = let a = some_pair_parts _ _ _ _ e in rw add-zero (omega arith, cc (a.0, a.1))
hex-back (suc j) k u [] v rest h e = cc
hex-back (suc j) k u (b ∷ bs) v rest h e =
    let p : k + suc j ≡ suc k + j = omega arith in
    rw p (go (bound-back (hex_digit b) (λ d. take_hex j (u * 16 + d) bs) (v, rest) e) (λ d l. hex-back j (suc k) (u * 16 + d) bs v rest (omega (arith, pow-suc 16 k))))
  where
    go : (d : ℕ) × (hex_digit b ≡ Some d) × (take_hex j (u * 16 + d) bs ≡ Some (v, rest))
        → ((d : ℕ) → d < 16 → take_hex j (u * 16 + d) bs ≡ Some (v, rest) → (v < 16 ^ (suc k + j)) × (hex_in (suc k) (u * 16 + d) ++ bs ≡ hex_in (suc k + j) v ++ rest))
        → (v < 16 ^ (suc k + j)) × (hex_in k u ++ (b ∷ bs) ≡ hex_in (suc k + j) v ++ rest)
    go (d, t, q) ih =
        let g = glyph-hex b d t in
        let i = ih d g.0 q in
        let a : (u * 16 + d) / 16 ≡ u = omega (arith, g.0) in
        let m : (u * 16 + d) % 16 ≡ d = omega (arith, g.0) in
        (i.0, rw (a, m, append_assoc, g.1) at i.1)

-- the 16 digits
pub hex16-there : (v : ℕ) (rest : List ℕ) → v < 2 ^ 64 → take_hex 16 0 (print_hex16 v ++ rest) ≡ Some (v, rest)
unfolding take_hex
hex16-there v rest h = hex-there 16 0 v rest (omega arith)

pub hex16-back : (bs : List ℕ) (v : ℕ) (rest : List ℕ) → take_hex 16 0 bs ≡ Some (v, rest) → (v < 2 ^ 64) × (bs ≡ print_hex16 v ++ rest)
unfolding hex_in
hex16-back bs v rest e = let b = hex-back 16 0 0 bs v rest (omega arith) e in (omega arith, b.1)

-- ---- the loop over the hexadecimal digits: i of them are behind it
pub hex_short : (k v : ℕ) (bs : List ℕ) → length bs < k → take_hex k v bs ≡ None
unfolding take_hex
hex_short zero v bs h = absurd (omega arith)
hex_short (suc k) v [] h = refl
hex_short (suc k) v (b ∷ bs) h = go (hex_digit b) (λ d. hex_short k (v * 16 + d) bs (omega arith))
  where
    go : (o : Option ℕ) → ((d : ℕ) → take_hex k (v * 16 + d) bs ≡ None) → option_and_then (λ d. take_hex k (v * 16 + d) bs) o ≡ None
    go None ih = refl
    go (Some d) ih = ih d

front : (s : List ℕ) (i : ℕ) → i < length s → drop i s ≡ get_or s i 0 ∷ drop (i + 1) s
front s i h = rw add-one (drop-cons s i 0 h)

pub hex-turn : (i v : ℕ) (s digits : List ℕ) → digits ≡ take 16 s → i < 16 → 16 ≤ length s
    → take_hex (16 - i) v (drop i s) ≡ option_and_then (λ d. take_hex (16 - (i + 1)) (v * 16 + d) (drop (i + 1) s)) (hex_digit (get_or digits i 0))
unfolding take_hex
hex-turn i v s digits e h l =
    let n : 16 - i ≡ suc (16 - (i + 1)) = omega arith in
    rw (n, front s i (omega arith), e, get_or-take 16 s i 0 h)

pub hex-fits : (i v b d : ℕ) → i < 16 → v < 16 ^ i → Some d ≡ hex_digit b → (v * 16 + d < 16 ^ (i + 1)) × (v * 16 + d < 2 ^ 64)
hex-fits i v b d h l t =
    let g = glyph-hex b d (sym t) in
    let e : 16 ^ (i + 1) ≡ 16 ^ i * 16 = rw add-one (pow-suc 16 i) in
    let t : 16 ^ (i + 1) ≤ 16 ^ 16 = pow-le-pow_right {n = 16} (omega arith) {i = i + 1} {j = 16} (omega arith) in
    (omega (arith, g.0), omega (arith, g.0))
