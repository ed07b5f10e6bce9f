-- A breaker that the builder makes is sound. Assumes nothing.
use Prim.Native.Nat.{ℕ, ◌≤◌, min, max}
use native.Mathlib.Omega.{arith}
use mathlib.Core.Path.{◌≡◌, refl}
use mathlib.Core.Bool.{true, false, not, ◌&&◌}
use lib.Dec.{T}
use lib.Ieee.{Float, binary64, lt, le, is_nan, fits, to_bits}
use lib.Ieee.Bits.{of_bits-to_bits, nan_bits_is}
use borrow.Author.Tests.{le-leb, ltb-false}
use Rattle.trip.specs.declared.Trip.{Trip}
use Rattle.trip.specs.declared.Trip.TheVariants.{Consecutive, Ratio, Windowed}
use Rattle.trip.specs.declared.Config.{Config}
use Rattle.error.specs.declared.Refusal.{Refusal}
use Rattle.trip.specs.declared.CircuitBreakerBuilder.{CircuitBreakerBuilder}
use Rattle.trip.specs.Settings.{is_time, millis, zero_ratio, one_ratio, clamped_ratio, normalised_trip, period_is_time, over_limit, config_for, built_of}
use Rattle.trip.proofs.Settings.{clamped-number}
use Rattle.trip.proofs.Ratios.{at_least}
use Rattle.std.proofs.Common.{Result, Ok}
use Rattle.breaker.specs.Record.{sound_ratio, sound_policy, sound_config}
use Rattle.breaker.specs.Calls.{fresh}
use Rattle.error.proofs.Choice.{if-cases}
use Rattle.breaker.proofs.Keeps.{SoundAt, sound-fresh}

-- ---- a normalised ratio is from 0.0 to 1.0, and stays so in its bits

abbrev In : Float → Type 0
In r = (le zero_ratio r && le r one_ratio) ≡ true

abbrev pub Fits : Float → Type 0
Fits r = T (fits binary64 r)

clamped-within : (r : Float) → In (clamped_ratio r)
unfolding clamped_ratio is_nan le
clamped-within r =
    if-cases In (is_nan r) (λ n. refl) (λ n. if-cases In (lt r zero_ratio) (λ a. refl) (λ a. if-cases In (lt one_ratio r) (λ b. refl)
    (λ b. rw (at_least r zero_ratio n refl, at_least one_ratio r refl n, a, b))))

clamped-fits : (r : Float) → Fits r → Fits (clamped_ratio r)
unfolding clamped_ratio fits
clamped-fits r h = if-cases Fits (is_nan r) (λ n. tt) (λ n. if-cases Fits (lt r zero_ratio) (λ a. tt) (λ a. if-cases Fits (lt one_ratio r) (λ b. tt) (λ b. h)))

ratio-sound : (r : Float) → Fits r → sound_ratio (to_bits binary64 (clamped_ratio r)) ≡ true
ratio-sound r h =
    rw (nan_bits_is, of_bits-to_bits binary64 (clamped_ratio r) (clamped-fits r h), clamped-number) (clamped-within r)

-- ---- the settings

-- the ratio of a setting is a binary64, as every f64 is
abbrev pub RatioFits : Trip → Type 0
RatioFits (Consecutive n) = Unit {0}
RatioFits (Ratio window ratio least) = Fits ratio
RatioFits (Windowed failures period) = Unit {0}

-- normalised and within number 2's limits they are sound
settings-sound : (t : Trip) (cooldown trials required : ℕ) → RatioFits t → over_limit (normalised_trip t) ≡ false → 1 ≤ required → required ≤ trials
    → sound_config (config_for (normalised_trip t) cooldown trials required) ≡ true
unfolding sound_policy sound_config
settings-sound (Consecutive n) cooldown trials required f l p q = simp (le-leb 1 (max n 1) (omega arith), le-leb 1 required p, le-leb required trials q)
settings-sound (Ratio w r m) cooldown trials required f l p q =
    simp
    (le-leb 1 (max w 1) (omega arith), le-leb (max w 1) 4096 (ltb-false 4096 (max w 1) l), ratio-sound r f, le-leb (min m (max w 1)) (max w 1) (omega arith), le-leb 1 required p, le-leb required trials q)
settings-sound (Windowed k d) cooldown trials required f l p q =
    simp (le-leb 1 (max k 1) (omega arith), le-leb (max k 1) 4096 (ltb-false 4096 (max k 1) l), le-leb 1 required p, le-leb required trials q)

-- the builder's settings are sound
pub config-sound : (b : CircuitBreakerBuilder) (c : Config) → RatioFits b.trip → built_of b ≡ Ok c → sound_config c ≡ true
unfolding built_of
config-sound b c f =
    let trials : ℕ = max b.half_open_trials 1 in
    let required : ℕ = min (max b.half_open_required 1) trials in
    let made : Config = config_for (normalised_trip b.trip) (millis b.cooldown) trials required in
    if-cases IfMade (is_time b.cooldown)
    (λ t. if-cases IfMade (not (period_is_time b.trip)) (λ p e. cc)
    (λ p. if-cases IfMade (over_limit (normalised_trip b.trip)) (λ l e. cc)
    (λ l e. let k : made ≡ c = cc in rw (← k) (settings-sound b.trip (millis b.cooldown) trials required f l (omega arith) (omega arith)))))
    (λ t e. cc)
  where
    IfMade : Result Config Refusal → Type 0
    IfMade x = x ≡ Ok c → sound_config c ≡ true

-- and so is the breaker that is made of them
pub sound-built : (b : CircuitBreakerBuilder) (c : Config) → RatioFits b.trip → built_of b ≡ Ok c → SoundAt c fresh
sound-built b c f e = sound-fresh c (config-sound b c f e)
