-- Laws on durations, normalising and the settings of a record. Assumes nothing.
use mathlib.Core.Path.{◌≡◌, refl}
use mathlib.Core.Bool.{Bool, true, false, not}
use Prim.Native.Nat.{ℕ, ◌*◌, ◌%◌, ◌^◌, ◌<◌}
use native.Mathlib.Omega.{arith}
use lib.Dec.{T}
use borrow.Author.Tests.{eq-eqb, lt-ltb}
use lib.Ieee.{Float, nan, inf, fin, up, down, lt, ne, is_nan}
use Rattle.std.proofs.Common.{if◌then◌else◌}
use Rattle.trip.specs.declared.Trip.{Trip}
use Rattle.trip.specs.declared.Trip.TheVariants.{Consecutive, Ratio, Windowed}
use Rattle.trip.specs.Settings.{is_time, millis, of_millis, zero_ratio, one_ratio, clamped_ratio, normalised_trip}

-- ---- durations
-- milliseconds made a duration are a time, and come back
pub millis-of : (ms : ℕ) → ms < 2 ^ 64 → millis (of_millis ms) ≡ ms
millis-of ms h = omega arith

pub of-millis-time : (ms : ℕ) → is_time (of_millis ms) ≡ true
of-millis-time ms = lt-ltb (ms % 1000 * 1000000) 1000000000 (omega arith)

-- ---- ratios
-- a float differs from itself exactly where it is a NaN
pub nan_differs : (r : Float) → ne r r ≡ is_nan r
unfolding ne is_nan
nan_differs nan = refl
nan_differs (inf true) = refl
nan_differs (inf false) = refl
nan_differs (fin true m e) = rw (eq-eqb (m * up e * down e) (m * up e * down e) refl)
nan_differs (fin false m e) = rw (eq-eqb (m * up e * down e) (m * up e * down e) refl)

-- a normalised ratio is a number
pub clamped-number : (r : Float) → is_nan (clamped_ratio r) ≡ false
unfolding clamped_ratio is_nan
clamped-number r = go (is_nan r) refl (lt r zero_ratio) (lt one_ratio r)
  where
    go : (n : Bool) → is_nan r ≡ n → (a b : Bool) → is_nan (if n then one_ratio else if a then zero_ratio else if b then one_ratio else r) ≡ false
    go true e a b = refl
    go false e true b = refl
    go false e false true = refl
    go false e false false = e

pub normalised-number : (t : Trip) (w least : ℕ) (r : Float) → normalised_trip t ≡ Ratio w r least → T (not (is_nan r))
normalised-number (Consecutive n) w least r e = let z : ◌≡◌ {A = ℕ} 0 1 = cc in absurd (omega arith)
normalised-number (Ratio v q m) w least r e = let z : clamped_ratio q ≡ r = cc in rw (← z, clamped-number q) tt
normalised-number (Windowed f p) w least r e = let z : ◌≡◌ {A = ℕ} 0 1 = cc in absurd (omega arith)
