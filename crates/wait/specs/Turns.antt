-- "Waiting answers": what every manner of waiting shares: bounds, what remains, and retries. Definitions only.
use Rattle.std.specs.Prelude.{ℕ, ◌+◌, ◌-◌, ◌^◌, min, Bool, true, false, ◌&&◌, eqb, leb, ltb, if◌then◌else◌, Result, Ok, Err}
use Rattle.error.specs.declared.Refusal.{Refusal}
use Rattle.error.specs.declared.Refusal.TheVariants as RefusalIs
use Rattle.wait.specs.declared.Wait.{Wait}
use Rattle.wait.specs.declared.Observed.{Observed}
use Rattle.wait.specs.declared.Act.{Act}
use Rattle.wait.specs.declared.Act.TheVariants.{Sleep, SleepUnlessResumed, Yield, LookAgain}
use Rattle.wait.specs.declared.Ending.TheVariants.{Deadline}
use Rattle.wait.specs.declared.Move.{Move}
use Rattle.wait.specs.declared.Move.TheVariants.{Goes, Ends}

-- an ended wait keeps nothing
abbrev pub ended_wait : Wait
ended_wait = record { phase = 0; limited = 0; deadline = 0; seen = 0; due = 0; zeros = 0 }

-- it looks for a grant, or it holds one
abbrev pub is_looking : Wait → Bool
is_looking w = eqb w.phase 1

abbrev pub is_holding : Wait → Bool
is_holding w = eqb w.phase 2

-- ---- number 1: "No clock, duration, pause, timeout or postponement may exceed 2^62 ns; epochs are free."

abbrev pub time_in_bounds : ℕ → Bool
time_in_bounds n = leb n (2 ^ 62)

unfoldable pub turn_in_bounds : Observed → Bool
turn_in_bounds t = time_in_bounds t.clock && (time_in_bounds t.duration && (time_in_bounds t.pause && (time_in_bounds t.postponed_before && time_in_bounds t.postponed_after)))

-- "A wait handed in with deadline over 2^63, seen over 2^62 or due over 2^63 + seen meets 1."
unfoldable pub wait_in_bounds : Wait → Bool
wait_in_bounds w = leb w.deadline (2 ^ 63) && (time_in_bounds w.seen && leb w.due (2 ^ 63 + w.seen))

-- ---- a new wait: it looks, and its deadline is start clock + timeout, or there is none

abbrev pub looking : ℕ → ℕ → Wait
looking limited deadline = record { phase = 1; limited = limited; deadline = deadline; seen = 0; due = 0; zeros = 0 }

abbrev pub new_wait : ℕ → Bool → ℕ → Wait
new_wait clock true timeout = looking 1 (clock + timeout)
new_wait clock false timeout = looking 0 0

unfoldable pub started : ℕ → Bool → ℕ → Result Wait Refusal
started clock limited timeout =
    if time_in_bounds clock && time_in_bounds timeout then Ok (new_wait clock limited timeout) else Err RefusalIs.Time

-- ---- "Remaining = … (the deadline) − clock, not below 0; no timeout means unlimited."

pub data Budget : Type 0 where
  unlimited : Budget
  at_most : ℕ → Budget

abbrev pub remaining : Wait → ℕ → Budget
remaining w clock = if eqb w.limited 0 then unlimited else at_most (w.deadline - clock)

abbrev pub exceeds : ℕ → Budget → Bool
exceeds n unlimited = false
exceeds n (at_most r) = ltb r n

abbrev pub used_up : Budget → Bool
used_up unlimited = false
used_up (at_most r) = eqb r 0

abbrev pub smaller : ℕ → Budget → ℕ
smaller n unlimited = n
smaller n (at_most r) = min n r

-- ---- retries

abbrev pub with_zeros : ℕ → Wait → Wait
with_zeros z w = record { phase = w.phase; limited = w.limited; deadline = w.deadline; seen = w.seen; due = w.due; zeros = z }

-- with a pause, sleep unless resumed
abbrev pub sleeping : ℕ → ℕ → ℕ → Act
sleeping n epoch pause = if eqb pause 0 then Sleep n else SleepUnlessResumed n epoch

-- "Nap with epochs differing: look again without sleep. With a pause: sleep unless resumed."
unfoldable pub naps : ℕ → Wait → Observed → Move
naps n w t =
    if eqb t.epoch_before t.epoch_after then Goes (sleeping n t.epoch_before t.pause) w
    else Goes LookAgain w

-- "Retry 0: the first four in a row yield; later ones end at remaining 0, else nap the smaller of 1,000,000 ns and remaining."
unfoldable pub retries_zero : Wait → Observed → Move
retries_zero w t =
    if leb w.zeros 4 then Goes Yield w
    else if used_up (remaining w t.clock) then Ends (Deadline 0)
    else naps (smaller 1000000 (remaining w t.clock)) w t

-- "Retry longer than remaining: deadline, no give-back." "Retry above 0 clears that row."
unfoldable pub retries : Wait → Observed → Move
retries w t =
    if exceeds t.duration (remaining w t.clock) then Ends (Deadline 0)
    else if eqb t.duration 0 then retries_zero (with_zeros (min (w.zeros + 1) 5) w) t
    else naps t.duration (with_zeros 0 w) t
