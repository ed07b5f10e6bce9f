-- "Policies and settings": durations, normalising, and the settings of a record.
use Rattle.std.specs.Prelude.{ℕ, ◌+◌, ◌-◌, ◌*◌, ◌/◌, ◌%◌, ◌^◌, min, max, Bool, true, false, not, Result, Ok, Err, pos, ltb, Float, if◌then◌else◌}
use Rattle.std.specs.Float.{fin, binary64}
use Rattle.std.specs.Float.Ieee.{lt, is_nan, to_bits}
use Rattle.error.specs.declared.Refusal.{Refusal}
use Rattle.error.specs.declared.Refusal.TheVariants.{Time, Limit}
use Rattle.trip.specs.declared.Duration.{Duration}
use Rattle.trip.specs.declared.Trip.{Trip}
use Rattle.trip.specs.declared.Trip.TheVariants.{Consecutive, Ratio, Windowed}
use Rattle.trip.specs.declared.RatioSettings.{RatioSettings}
use Rattle.trip.specs.declared.Config.{Config}
use Rattle.trip.specs.declared.CircuitBreakerBuilder.{CircuitBreakerBuilder}

-- whether it is a time; if not, number 1: "nanoseconds field ≥ 10^9"
abbrev pub is_time : Duration → Bool
is_time d = ltb d.nanos 1000000000

-- "milliseconds drop the rest and cap at 2^64 − 1"
abbrev pub millis : Duration → ℕ
millis d = min (d.secs * 1000 + d.nanos / 1000000) (2 ^ 64 - 1)

-- a duration of so many milliseconds
abbrev pub of_millis : ℕ → Duration
of_millis ms = record { secs = ms / 1000; nanos = ms % 1000 * 1000000 }

-- or number 1
abbrev pub millis_of : Duration → Result ℕ Refusal
millis_of d = if is_time d then Ok (millis d) else Err Time

-- 0.0 and 1.0
abbrev pub zero_ratio : Float
zero_ratio = fin false 0 (pos 0)

abbrev pub one_ratio : Float
one_ratio = fin false 1 (pos 0)

-- "NaN ratio becomes 1.0, else clamped to 0.0 to 1.0": what is neither below 0.0 nor above 1.0 stays, so −0.0 does
unfoldable pub clamped_ratio : Float → Float
clamped_ratio r =
    if is_nan r then one_ratio
    else if lt r zero_ratio then zero_ratio
    else if lt one_ratio r then one_ratio
    else r

-- "window … at least 1", "min calls at most window"
abbrev pub normalised_ratio : ℕ → Float → ℕ → RatioSettings
normalised_ratio window ratio least = record { window = max window 1; ratio = clamped_ratio ratio; min_calls = min least (max window 1) }

-- "n, window, failures at least 1"
abbrev pub normalised_trip : Trip → Trip
normalised_trip (Consecutive n) = Consecutive (max n 1)
normalised_trip (Ratio window ratio least) = let r = normalised_ratio window ratio least in Ratio r.window r.ratio r.min_calls
normalised_trip (Windowed failures period) = Windowed (max failures 1) period

-- ---- the settings of a record

-- whether a policy's own duration, if it has one, is a time
abbrev pub period_is_time : Trip → Bool
period_is_time (Consecutive n) = true
period_is_time (Ratio window ratio least) = true
period_is_time (Windowed failures period) = is_time period

-- number 2's cause: "normalised window or failures over 4,096"
abbrev pub over_limit : Trip → Bool
over_limit (Consecutive n) = false
over_limit (Ratio window ratio least) = ltb 4096 window
over_limit (Windowed failures period) = ltb 4096 failures

-- "Fields of another policy are 0."
abbrev pub config_for : Trip → ℕ → ℕ → ℕ → Config
config_for (Consecutive n) cooldown trials required =
    record { kind = 1; limit = n; ratio_bits = 0; min_calls = 0; period_ms = 0; cooldown_ms = cooldown; trials = trials; required = required }
config_for (Ratio window ratio least) cooldown trials required =
    record { kind = 2; limit = window; ratio_bits = to_bits binary64 ratio; min_calls = least; period_ms = 0; cooldown_ms = cooldown; trials = trials; required = required }
config_for (Windowed failures period) cooldown trials required =
    record { kind = 3; limit = failures; ratio_bits = 0; min_calls = 0; period_ms = millis period; cooldown_ms = cooldown; trials = trials; required = required }

abbrev pub settings_of : Trip → ℕ → ℕ → ℕ → Result Config Refusal
settings_of trip cooldown trials required =
    if not (period_is_time trip) then Err Time
    else if over_limit (normalised_trip trip) then Err Limit
    else Ok (config_for (normalised_trip trip) cooldown trials required)

-- "Trials at least 1; required 1 to trials."; 1 for the cooldown, then for the period, then 2
unfoldable pub built_of : CircuitBreakerBuilder → Result Config Refusal
built_of b =
    let trials = max b.half_open_trials 1 in
    if is_time b.cooldown then settings_of b.trip (millis b.cooldown) trials (min (max b.half_open_required 1) trials)
    else Err Time

-- ---- the builder

-- "The builder's own defaults are Consecutive 5, cooldown 30 s, trials 1, required 1."
abbrev pub default_builder : CircuitBreakerBuilder
default_builder = record { trip = Consecutive 5; cooldown = record { secs = 30; nanos = 0 }; half_open_trials = 1; half_open_required = 1 }

-- a setter changes its own fields
abbrev pub with_trip : Trip → CircuitBreakerBuilder → CircuitBreakerBuilder
with_trip t b = record { trip = t; cooldown = b.cooldown; half_open_trials = b.half_open_trials; half_open_required = b.half_open_required }

abbrev pub with_cooldown : Duration → CircuitBreakerBuilder → CircuitBreakerBuilder
with_cooldown d b = record { trip = b.trip; cooldown = d; half_open_trials = b.half_open_trials; half_open_required = b.half_open_required }

abbrev pub with_half_open : ℕ → ℕ → CircuitBreakerBuilder → CircuitBreakerBuilder
with_half_open trials required b = record { trip = b.trip; cooldown = b.cooldown; half_open_trials = trials; half_open_required = required }
