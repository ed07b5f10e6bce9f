-- When a closed breaker trips, and the board figure.
use Rattle.std.specs.Prelude.{ℕ, ◌*◌, ◌/◌, Bool, false, ◌&&◌, List, leb, eqb, length, Float, if◌then◌else◌}
use Rattle.std.specs.Float.{binary64}
use Rattle.std.specs.Float.Ieee.{of_bits, round, le}
use Rattle.history.specs.Items.{failures, recent, cutoff_of}
use Rattle.trip.specs.declared.Config.{Config}

-- "A setting carries its policy with its numbers"
pub data Policy : Type 0 where
  Consecutive : ℕ → Policy  -- n
  Ratio : ℕ → Float → ℕ → Policy  -- window, ratio, min calls
  Windowed : ℕ → ℕ → Policy  -- failures, period in ms

-- the policy of a record's settings: "1 Consecutive, 2 Ratio, 3 Windowed"
abbrev pub policy_of : Config → Policy
policy_of c =
    if eqb c.kind 1 then Consecutive c.limit
    else if eqb c.kind 2 then Ratio c.limit (of_bits binary64 c.ratio_bits) c.min_calls
    else Windowed c.limit c.period_ms

-- "Consecutive: trips at run ≥ n."
abbrev pub run_reached : ℕ → ℕ → Bool
run_reached run n = leb n run

-- "Trips when total ≥ 1, total ≥ min calls and failures divided by total, rounded once to binary64, is at least the ratio."
unfoldable pub ratio_reached : ℕ → ℕ → ℕ → Float → Bool
ratio_reached failed calls least ratio = leb 1 calls && (leb least calls && le ratio (round binary64 false failed calls))

-- "Trips when the times ≥ cutoff number at least `failures`."
abbrev pub times_reached : ℕ → ℕ → Bool
times_reached times limit = leb limit times

-- by the run of failures and the list, after the failure is recorded
unfoldable pub tripped : Policy → ℕ → ℕ → List ℕ → Bool
tripped (Consecutive n) reading run xs = run_reached run n
tripped (Ratio window ratio least) reading run xs = ratio_reached (failures xs) (length xs) least ratio
tripped (Windowed limit period) reading run xs = times_reached (recent (cutoff_of reading period) xs) limit

-- "a board figure, failures × 1,000 / total of the Ratio list, remainder dropped; 0 for an empty list …"
abbrev pub board_figure : ℕ → ℕ → ℕ
board_figure failed calls = if eqb calls 0 then 0 else failed * 1000 / calls
