-- A ratio by its bits, as a whole number: where it stands to 0.0 and to 1.0 in IEEE 754's order, and what normalising makes of it. Assumes nothing.
--     at_least      y ≤ x is not x < y, where neither is a NaN
--     bits_below    below 0.0: above the sign's bit alone, which is -0.0
--     bits_above    above 1.0: no sign's bit, and above the bits of 1.0
use mathlib.Core.Path.{◌≡◌, refl, sym, ap, ◌∙◌}
use mathlib.Core.Bool.{Bool, true, false, not, ◌&&◌, ◌||◌, true≢false, false≢true}
use mathlib.Core.Logic.{◌⊎◌, inl, inr}
use Prim.Native.Nat.{ℕ, zero, suc, ◌+◌, ◌*◌, ◌/◌, ◌%◌, ◌^◌, ◌≤◌, ◌<◌}
use native.Mathlib.Nat.{mul-lt-mul_of_pos_right, mul-le-mul_right, lt_of_mul-lt-mul_right, le_of_mul-le-mul_right, mul_right_comm, mul-pos, mul-le-mul_left, mul-lt-mul_of_pos_left, mul-one, mul_assoc, one-mul, zero-mul, suc-mul, add-zero, le_of_lt, le_trans, lt_of_lt_of_le, le-add_right, mod-eq_of_lt, pow-succ'}
use native.Mathlib.Omega.{arith}
use lib.Dec.{T, ltb, leb, eqb}
use lib.Pow.{pow_mono, pow-lt, pow_pos}
use borrow.Author.Tests.{eq-eqb, ne_eqb, lt-ltb, le-ltb, ltb-true, ltb-false, leb-true, leb-false}
use lib.Ieee.{Float, nan, inf, fin, binary64, up, down, below as under, level, lt, le, of_fields, of_bits, nan_bits, is_nan, to_bits, fits}
use lib.Ieee.Exact.{HasValue, odd_sign}
use lib.Ieee.Fits.{down_pos}
use lib.Ieee.Bits.{nan_bits_is, of_bits-to_bits, to_bits-lt}
use Rattle.trip.specs.Settings.{zero_ratio, one_ratio, clamped_ratio}

abbrev pub sign_bit : ℕ
sign_bit = 0x8000_0000_0000_0000

abbrev pub one_bits : ℕ
one_bits = 0x3ff0_0000_0000_0000

-- ---- at least a number, and not below it

either : (p q : Bool) → (p ≡ false → q ≡ true) → (p || q) ≡ true
either true q h = refl
either false q h = h refl

by_cases : (p q : Bool) → (p ≡ true → q ≡ false) → (p ≡ false → q ≡ true) → q ≡ not p
by_cases true q h k = h refl
by_cases false q h k = k refl

ordered : (a b : ℕ) → (ltb b a || (eqb b a && true)) ≡ not (ltb a b)
ordered a b =
    by_cases (ltb a b) (ltb b a || (eqb b a && true))
    (λ e. let l = ltb-true a b e in simp (le-ltb b a (omega arith), ne_eqb b a (λ z. omega arith)))
    (λ e. either (ltb b a) _ (λ f. simp (eq-eqb b a (omega (arith, ltb-false a b e, ltb-false b a f)))))

not-both : (a b : ℕ) → 0 < a + b → (eqb b a && eqb b 0) ≡ false
not-both a zero h = simp (ne_eqb 0 a (λ z. omega arith))
not-both a (suc b) h = go (eqb (suc b) a)
  where
    go : (p : Bool) → (p && eqb (suc b) 0) ≡ false
    go true = ne_eqb (suc b) 0 (λ z. omega arith)
    go false = refl

-- signed fractions over one denominator
level-or-below : (s : Bool) (a : ℕ) (t : Bool) (b : ℕ) → (under t b s a || level t b s a) ≡ not (under s a t b)
level-or-below false a false b = ordered a b
level-or-below false a true b = either (ltb 0 (b + a)) _ (λ f. simp (eq-eqb b a (omega (arith, ltb-false 0 (b + a) f)), eq-eqb b 0 (omega (arith, ltb-false 0 (b + a) f))))
level-or-below true a false b =
    by_cases (ltb 0 (a + b)) (eqb b a && eqb b 0)
    (λ e. not-both a b (ltb-true 0 (a + b) e))
    (λ f. simp (eq-eqb b a (omega (arith, ltb-false 0 (a + b) f)), eq-eqb b 0 (omega (arith, ltb-false 0 (a + b) f))))
level-or-below true a true b = by_cases (ltb b a) (ltb a b || (eqb b a && true))
    (λ e. let l = ltb-true b a e in simp (le-ltb a b (omega arith), ne_eqb b a (λ z. omega arith)))
    (λ e. either (ltb a b) _ (λ f. simp (eq-eqb b a (omega (arith, ltb-false a b f, ltb-false b a e)))))

pub at_least : (x y : Float) → is_nan x ≡ false → is_nan y ≡ false → le y x ≡ not (lt x y)
unfolding is_nan le
at_least nan y n m = absurd (true≢false n)
at_least (inf s) nan n m = absurd (true≢false m)
at_least (inf true) (inf true) n m = refl
at_least (inf true) (inf false) n m = refl
at_least (inf false) (inf true) n m = refl
at_least (inf false) (inf false) n m = refl
at_least (inf true) (fin t b d) n m = refl
at_least (inf false) (fin t b d) n m = refl
at_least (fin s a c) nan n m = absurd (true≢false m)
at_least (fin s a c) (inf true) n m = refl
at_least (fin s a c) (inf false) n m = refl
at_least (fin s a c) (fin t b d) n m = level-or-below s (a * up c * down d) t (b * up d * down c)

-- ---- fields

-- the size of a number with the exponent's field x, of weight h, and the digits t, in units of the smallest number
abbrev size_at : ℕ → ℕ → ℕ → ℕ
size_at h zero t = t * 2 ^ 0
size_at h (suc x) t = (h + t) * 2 ^ x

fields_value : (s : Bool) (x t : ℕ) → x < 2047 → HasValue (of_fields binary64 s x t) s (size_at (2 ^ 52) x t) (2 ^ 1074)
unfolding of_fields
fields_value s zero t h = odd_sign 53 s t 0 1074
fields_value s (suc x) t h = rw (ne_eqb (suc x) 2047 (λ e. omega arith)) (odd_sign 53 s (2 ^ 52 + t) x 1074)

-- ---- the order, by the size

same-order : (a b c d : ℕ) → (a < b → c < d) → (b ≤ a → d ≤ c) → ltb a b ≡ ltb c d
same-order a b c d h k = go (ltb a b) refl
  where
    go : (p : Bool) → ltb a b ≡ p → p ≡ ltb c d
    go true e = sym (lt-ltb c d (h (ltb-true a b e)))
    go false e = sym (le-ltb c d (k (ltb-false a b e)))

-- u / d is a / p: both are above k, or neither
cross : (k u d a p : ℕ) → 0 < d → 0 < p → u * p ≡ a * d → ltb (k * d) u ≡ ltb (k * p) a
cross k u d a p D P e =
    same-order (k * d) u (k * p) a
    (λ l. lt_of_mul-lt-mul_right d (rw (mul_right_comm k p d, ← e) (mul-lt-mul_of_pos_right l P)))
    (λ l. le_of_mul-le-mul_right {m = a} {n = k * p} {k = d} (rw (mul_right_comm k p d, ← e) (mul-le-mul_right p l)) D)

-- v is a / p with the sign s
below-zero : (s : Bool) (v : Float) (a p : ℕ) → 0 < p → HasValue v s a p → lt v zero_ratio ≡ (s && ltb 0 a)
unfolding lt
below-zero s nan a p P h = absurd h
below-zero s (inf t) a p P h = absurd h
below-zero false (fin false m e) a p P h = le-ltb (m * up e * 1) (0 * down e) (omega arith)
below-zero true (fin false m e) a p P h = absurd (false≢true h.0)
below-zero false (fin true m e) a p P h = absurd (true≢false h.0)
below-zero true (fin true m e) a p P h = simp (mul-one, zero-mul, add-zero) (simp zero-mul at (cross 0 (m * up e) (down e) a p (down_pos e) P h.1))

above-one : (s : Bool) (v : Float) (a p : ℕ) → 0 < p → HasValue v s a p → lt one_ratio v ≡ (not s && ltb p a)
unfolding lt
above-one s nan a p P h = absurd h
above-one s (inf t) a p P h = absurd h
above-one false (fin false m e) a p P h = simp (mul-one, one-mul) (simp one-mul at (cross 1 (m * up e) (down e) a p (down_pos e) P h.1))
above-one true (fin false m e) a p P h = absurd (false≢true h.0)
above-one false (fin true m e) a p P h = absurd (true≢false h.0)
above-one true (fin true m e) a p P h = refl

-- ---- the size, by the fields

size-above-0 : (h x t : ℕ) → 0 < h → ltb 0 (size_at h x t) ≡ ltb 0 (x * h + t)
size-above-0 h zero t H = same-order 0 (t * 2 ^ 0) 0 (0 * h + t) (λ l. omega arith) (λ l. omega arith)
size-above-0 h (suc x) t H =
    lt-ltb 0 ((h + t) * 2 ^ x) (mul-pos {m = h + t} {n = 2 ^ x} (omega arith) (pow_pos x))
    ∙ sym (lt-ltb 0 (suc x * h + t) (omega (arith, suc-mul x h)))

-- against the number of the field k + 1 and no digits
module _ (h k t : ℕ) (D : t < h) where
  smaller : (x : ℕ) → x < k → ltb (h * 2 ^ k) ((h + t) * 2 ^ x) ≡ ltb (suc k * h) (suc x * h + t)
  smaller x l =
      le-ltb (h * 2 ^ k) ((h + t) * 2 ^ x) (le_trans (mul-le-mul_right (2 ^ x) half) (rw mul_assoc (mul-le-mul_left h (rw (← pow-succ') (pow_mono l)))))
      ∙ sym (le-ltb (suc k * h) (suc x * h + t) (omega (arith, suc-mul (suc x) h, mul-le-mul_right h (le-suc l))))
    where
      half : h + t ≤ h * 2
      half = omega arith

      le-suc : x < k → suc (suc x) ≤ suc k
      le-suc l = omega arith

  equal : ltb (h * 2 ^ k) ((h + t) * 2 ^ k) ≡ ltb (suc k * h) (suc k * h + t)
  equal = same-order (h * 2 ^ k) ((h + t) * 2 ^ k) (suc k * h) (suc k * h + t) (λ l. omega (arith, lt_of_mul-lt-mul_right (2 ^ k) {m = h} {n = h + t} l)) (λ l. omega (arith, le_of_mul-le-mul_right {m = h + t} {n = h} {k = 2 ^ k} l (pow_pos k)))

  larger : (x : ℕ) → k < x → ltb (h * 2 ^ k) ((h + t) * 2 ^ x) ≡ ltb (suc k * h) (suc x * h + t)
  larger x l =
      lt-ltb (h * 2 ^ k) ((h + t) * 2 ^ x) (lt_of_lt_of_le (mul-lt-mul_of_pos_left {m = 2 ^ k} {n = 2 ^ x} {k = h} (pow-lt l) (omega arith)) (mul-le-mul_right (2 ^ x) (le-add_right h t)))
      ∙ sym (lt-ltb (suc k * h) (suc x * h + t) (omega (arith, suc-mul x h, mul-le-mul_right h l)))

  size_above : (x : ℕ) → ltb (h * 2 ^ k) (size_at h x t) ≡ ltb (suc k * h) (x * h + t)
  size_above zero =
      le-ltb (h * 2 ^ k) (t * 2 ^ 0) (omega (arith, mul-le-mul_left h (pow_pos k)))
      ∙ sym (le-ltb (suc k * h) (0 * h + t) (omega (arith, suc-mul k h)))
  size_above (suc x) = go (ltb x k) refl (ltb k x) refl
    where
      go : (q : Bool) → ltb x k ≡ q → (r : Bool) → ltb k x ≡ r → ltb (h * 2 ^ k) ((h + t) * 2 ^ x) ≡ ltb (suc k * h) (suc x * h + t)
      go true e r f = smaller x (ltb-true x k e)
      go false e true f = larger x (ltb-true k x f)
      go false e false f = let z : x ≡ k = omega (arith, ltb-false x k e, ltb-false k x f) in rw z equal

-- ---- the order, by the fields, of a number or an infinity

and-true : (p : Bool) → p ≡ (p && true)
and-true true = refl
and-true false = refl

-- what the fields stand for
abbrev Shape : Bool → ℕ → ℕ → Type 0
Shape s x t = HasValue (of_fields binary64 s x t) s (size_at (2 ^ 52) x t) (2 ^ 1074) ⊎ ((of_fields binary64 s x t ≡ inf s) × (x ≡ 2047))

shape : (s : Bool) (x t : ℕ) → x < 2048 → is_nan (of_fields binary64 s x t) ≡ false → Shape s x t
unfolding of_fields is_nan
shape s zero t X N = inl (fields_value s zero t (omega arith))
shape s (suc x) t X N = go (ltb (suc x) 2047) refl
  where
    top : suc x ≡ 2047 → (q : Bool) → eqb t 0 ≡ q → Shape s (suc x) t
    top z true f = inr (rw (eq-eqb (suc x) 2047 z, f) refl, z)
    top z false f = absurd (true≢false (rw (eq-eqb (suc x) 2047 z, f) at N))

    go : (p : Bool) → ltb (suc x) 2047 ≡ p → Shape s (suc x) t
    go true e = inl (fields_value s (suc x) t (ltb-true (suc x) 2047 e))
    go false e = top (omega (arith, ltb-false (suc x) 2047 e)) (eqb t 0) refl

module _ (s : Bool) (x t : ℕ) (X : x < 2048) (D : t < 2 ^ 52) (N : is_nan (of_fields binary64 s x t) ≡ false) where
  fields-below : lt (of_fields binary64 s x t) zero_ratio ≡ (s && ltb 0 (x * 2 ^ 52 + t))
  unfolding lt
  fields-below = elim (shape s x t X N) [
    | inl h ↦ rw (← size-above-0 (2 ^ 52) x t (omega arith)) (below-zero s (of_fields binary64 s x t) (size_at (2 ^ 52) x t) (2 ^ 1074) (pow_pos 1074) h)
    | inr h ↦ rw (h.0, lt-ltb 0 (x * 2 ^ 52 + t) (omega (arith, h.1))) (and-true s)
  ]

  fields-above : lt one_ratio (of_fields binary64 s x t) ≡ (not s && ltb one_bits (x * 2 ^ 52 + t))
  unfolding lt
  fields-above = elim (shape s x t X N) [
    | inl h ↦ rw (← size_above (2 ^ 52) 1022 t D x) (above-one s (of_fields binary64 s x t) (size_at (2 ^ 52) x t) (2 ^ 1074) (pow_pos 1074) h)
    | inr h ↦ rw (h.0, lt-ltb one_bits (x * 2 ^ 52 + t) (omega (arith, h.1))) (and-true (not s))
  ]

-- ---- the order, by the bits

-- of what is no NaN
module _ (b : ℕ) (N : nan_bits binary64 b ≡ false) where
  abbrev exponent : ℕ
  exponent = b % 2 ^ 63 / 2 ^ 52

  small : exponent < 2048
  small = omega arith

  rest : exponent * 2 ^ 52 + b % 2 ^ 52 ≡ b % 2 ^ 63
  rest = omega arith

  number : is_nan (of_bits binary64 b) ≡ false
  number = sym (nan_bits_is binary64 b) ∙ N

  pub bits_below : b < 2 ^ 64 → lt (of_bits binary64 b) zero_ratio ≡ ltb sign_bit b
  unfolding of_bits
  bits_below W = fields-below (leb (2 ^ 63) b) exponent (b % 2 ^ 52) small (omega arith) number ∙ go (leb (2 ^ 63) b) refl
    where
      go : (s : Bool) → leb (2 ^ 63) b ≡ s → (s && ltb 0 (exponent * 2 ^ 52 + b % 2 ^ 52)) ≡ ltb sign_bit b
      go true e = same-order 0 (exponent * 2 ^ 52 + b % 2 ^ 52) sign_bit b (λ l. omega (arith, rest, leb-true (2 ^ 63) b e)) (λ l. omega (arith, rest, leb-true (2 ^ 63) b e))
      go false e = sym (le-ltb sign_bit b (omega (arith, leb-false (2 ^ 63) b e)))

  pub bits_above : lt one_ratio (of_bits binary64 b) ≡ (ltb b sign_bit && ltb one_bits b)
  unfolding of_bits
  bits_above = fields-above (leb (2 ^ 63) b) exponent (b % 2 ^ 52) small (omega arith) number ∙ go (leb (2 ^ 63) b) refl
    where
      go : (s : Bool) → leb (2 ^ 63) b ≡ s → (not s && ltb one_bits (exponent * 2 ^ 52 + b % 2 ^ 52)) ≡ (ltb b sign_bit && ltb one_bits b)
      go true e = rw (le-ltb b sign_bit (leb-true (2 ^ 63) b e)) refl
      go false e = rw (lt-ltb b sign_bit (leb-false (2 ^ 63) b e), rest, mod-eq_of_lt (leb-false (2 ^ 63) b e)) refl

-- ---- normalising, by an f64's own bits

module _ (r : Float) (F : fits binary64 r ≡ true) (N : is_nan r ≡ false) where
  abbrev b : ℕ
  b = to_bits binary64 r

  fit : T (fits binary64 r)
  fit = rw F tt

  back : of_bits binary64 b ≡ r
  back = of_bits-to_bits binary64 r fit

  own : nan_bits binary64 b ≡ false
  own = nan_bits_is binary64 b ∙ ap is_nan back ∙ N

  below : lt r zero_ratio ≡ ltb sign_bit b
  below = sym (ap (λ (v : Float). lt v zero_ratio) back) ∙ bits_below b own (to_bits-lt binary64 r fit)

  above : lt one_ratio r ≡ (ltb b sign_bit && ltb one_bits b)
  above = sym (ap (λ (v : Float). lt one_ratio v) back) ∙ bits_above b own

  pub clamped-negative : sign_bit < b → zero_ratio ≡ clamped_ratio r
  unfolding clamped_ratio
  clamped-negative h = rw (N, below, lt-ltb _ _ h)

  pub clamped-negative-zero : b ≡ sign_bit → r ≡ clamped_ratio r
  unfolding clamped_ratio
  clamped-negative-zero h = rw (N, below, above, h)

  pub clamped-over : b < sign_bit → one_bits < b → one_ratio ≡ clamped_ratio r
  unfolding clamped_ratio
  clamped-over h k = rw (N, below, above, le-ltb _ _ (le_of_lt h), lt-ltb _ _ h, lt-ltb _ _ k)

  pub clamped-within : b ≤ one_bits → r ≡ clamped_ratio r
  unfolding clamped_ratio
  clamped-within h = rw (N, below, above, le-ltb sign_bit b (omega arith), lt-ltb b sign_bit (omega arith), le-ltb _ _ h)
