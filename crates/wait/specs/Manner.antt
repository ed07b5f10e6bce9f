-- A manner of waiting, and what every manner makes of a turn and of a dropped wait. Definitions only.
use Rattle.std.specs.Prelude.{ℕ, Bool, not, ◌&&◌, ◌||◌, if◌then◌else◌, Result, Ok, Err}
use Rattle.error.specs.Choice.{bit}
use Rattle.error.specs.Told.{Told, refused}
use Rattle.error.specs.declared.Refusal.{Refusal}
use Rattle.error.specs.declared.Refusal.TheVariants as RefusalIs
use Rattle.wait.specs.declared.Wait.{Wait}
use Rattle.wait.specs.declared.Observed.{Observed}
use Rattle.wait.specs.declared.Move.{Move}
use Rattle.wait.specs.declared.Move.TheVariants.{Goes, Ends}
use Rattle.std.specs.declared.ops.ControlFlow.TheVariants.{Continue, Break}
use Rattle.wait.specs.declared.AndWait.{AndWait}
use Rattle.wait.specs.Answers.{Turned, turned_told, dropped_told}
use Rattle.wait.specs.Turns.{ended_wait, turn_in_bounds, wait_in_bounds}

-- what sets a manner apart: the waits that have ended, those that hold a unit, the reply kinds that it knows, and what a turn that passes its
-- tests does
pub record Manner : Type 0 where
  pub ended : Wait → Bool
  pub holds : Wait → Bool
  pub knows : ℕ → Bool
  pub moves : Wait → Observed → Move

-- ---- the tests

-- "Tested in the order … 11, 1": a kind that is not known or an ended wait, a time over its bound, then `answer`
abbrev pub in_order : {A : Type 0} → Bool → Bool → (Refusal → A) → A → A
in_order unknown beyond refusal answer = if unknown then refusal RefusalIs.Turn else if beyond then refusal RefusalIs.Time else answer

-- "reply kind not 1 to 3 (held checks too), or a turn, run or drop handed an ended wait": the manner says which kinds. `answer` says what a
-- turn, or a wait alone, that is not refused comes to.
abbrev pub tested : {A : Type 0} → Manner → (Refusal → A) → A → Wait → Observed → A
tested m refusal answer w t = in_order (m.ended w || not (m.knows t.kind)) (not (wait_in_bounds w && turn_in_bounds t)) refusal answer

abbrev pub tested_alone : {A : Type 0} → Manner → (Refusal → A) → A → Wait → A
tested_alone m refusal answer w = in_order (m.ended w) (not (wait_in_bounds w)) refusal answer

-- ---- a turn. One that is refused leaves the wait.

abbrev pub and_wait : {A : Type 0} → A → Wait → AndWait A
and_wait answer w = record { answer = answer; wait = w }

abbrev pub leaves : Move → AndWait Turned
leaves (Goes act w) = and_wait (Continue act) w
leaves (Ends e) = and_wait (Break e) ended_wait

unfoldable pub turned : Manner → Wait → Observed → Result (AndWait Turned) Refusal
turned m w t = tested m Err (Ok (leaves (m.moves w t))) w t

-- what a call on a wait leaves: what was told, and the wait, which is that handed in where it was refused
pub record WaitAfter : Type 0 where
  pub told : Told
  pub wait : Wait

abbrev pub wait_after : Told → Wait → WaitAfter
wait_after t w = record { told = t; wait = w }

abbrev pub tell_turn : Wait → Result (AndWait Turned) Refusal → WaitAfter
tell_turn w (Ok x) = wait_after (turned_told (Ok x.answer)) x.wait
tell_turn w (Err r) = wait_after (refused r) w

-- ---- "a dropped wait gives back a held grant"

unfoldable pub dropped : Manner → Wait → Result (AndWait ℕ) Refusal
dropped m w = tested_alone m Err (Ok (and_wait (bit (m.holds w)) ended_wait)) w

abbrev pub tell_drop : Wait → Result (AndWait ℕ) Refusal → WaitAfter
tell_drop w (Ok x) = wait_after (dropped_told (Ok x.answer)) x.wait
tell_drop w (Err r) = wait_after (refused r) w
