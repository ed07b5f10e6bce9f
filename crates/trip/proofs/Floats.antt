-- The quotient of two whole numbers, each as a float: the fraction of the two, rounded once. Assumes nothing.
use mathlib.Core.Path.{◌≡◌, refl, sym, ap, ◌∙◌}
use mathlib.Core.Bool.{Bool, true, false, not, cond, true≢false, false≢true}
use Prim.Native.Nat.{ℕ, ◌*◌, ◌%◌, ◌^◌, ◌≤◌, ◌<◌}
use native.Mathlib.Nat.{mul-one, mul_comm, mul_assoc, mul_left_comm, mul-pos}
use native.Mathlib.Omega.{arith}
use lib.IntN.{pos}
use lib.Dec.{T, eqb}
use borrow.Author.Tests.{ne_eqb, lt-ltb, le-ltb}
use lib.Ieee.{Float, nan, inf, fin, Format, binary64, prec, up, down, round, div, of_int, le, of_bits, nan_bits, is_nan}
use lib.Ieee.Fits.{down_pos}
use lib.Ieee.Exact.{HasValue}
use lib.Ieee.Back.{round_whole}
use lib.Ieee.Scale.{round_same}
use lib.Ieee.Positive.{first_pos}
use lib.Ieee.Bits.{nan_bits_is, nan_bits_above}

-- a value above 0 has a significand above 0
value_pos : (u b d : ℕ) → 0 < b → 0 < d → u * 1 ≡ b * d → 0 < u
value_pos u b d B D e = omega (arith, mul-pos B D)

cross : (x y a b e d : ℕ) → x * 1 ≡ a * e → y * 1 ≡ b * d → x * d * b ≡ a * (y * e)
cross x y a b e d p q = simp (sym (mul-one x) ∙ p, sym (mul-one y) ∙ q, mul_assoc, mul_comm, mul_left_comm)

div-at : (f : Format) (x y : Float) (a b : ℕ) → 0 < b → HasValue x false a 1 → HasValue y false b 1 → div f x y ≡ round f false a b
unfolding div
div-at f nan y a b B h k = absurd h
div-at f (inf s) y a b B h k = absurd h
div-at f (fin s m e) nan a b B h k = absurd k
div-at f (fin s m e) (inf t) a b B h k = absurd k
div-at f (fin true m e) (fin t n d) a b B h k = absurd (true≢false h.0)
div-at f (fin false m e) (fin true n d) a b B h k = absurd (true≢false k.0)
div-at f (fin false m e) (fin false n d) a b B h k =
    let N : 0 < n * up d = value_pos (n * up d) b (down d) B (down_pos d) k.1 in
    ap (λ (z : Bool). cond z (cond (eqb m 0) nan (inf false)) (round f false (m * up e * down d) (n * up d * down e))) (ne_eqb n 0 (λ z. omega (arith, first_pos n (up d) N)))
    ∙ round_same f false (m * up e * down d) (n * up d * down e) a b (mul-pos N (down_pos e)) B (cross (m * up e) (n * up d) a b (down e) (down d) h.1 k.1)

pub div-whole : (f : Format) (a b : ℕ) → 0 < b → a ≤ 2 ^ prec f → b ≤ 2 ^ prec f → div f (of_int f (pos a)) (of_int f (pos b)) ≡ round f false a b
unfolding of_int
div-whole f a b B h k = div-at f (round f false a 1) (round f false b 1) a b B (round_whole f false a h) (round_whole f false b k)

-- a NaN is at most nothing
nan-le : (x y : Float) → is_nan x ≡ true → le x y ≡ false
unfolding is_nan le
nan-le nan y e = refl
nan-le (inf s) y e = absurd (false≢true e)
nan-le (fin s m n) y e = absurd (false≢true e)

pub nan-reached : (b : ℕ) (y : Float) → 0x7ff0_0000_0000_0000 < b % 0x8000_0000_0000_0000 → le (of_bits binary64 b) y ≡ false
nan-reached b y h = nan-le (of_bits binary64 b) y (sym (nan_bits_is binary64 b) ∙ nan_bits_above binary64 b ∙ lt-ltb _ _ h)

pub no_nan : (b : ℕ) → b % 0x8000_0000_0000_0000 ≤ 0x7ff0_0000_0000_0000 → T (not (nan_bits binary64 b))
no_nan b h = rw (nan_bits_above binary64 b, le-ltb _ _ h) tt
