-- "Each run of turns has a limit and reports how many turns it took, which equals the steps of these rules." In any manner. Definitions only.
use Rattle.std.specs.Prelude.{ℕ, zero, suc, ◌/◌, ◌%◌, Bool, List, [], ◌∷◌, eqb, length, take, drop, get_or, if◌then◌else◌, Option, Some, None, Result, Ok, Err}
use Rattle.error.specs.Told.{Told}
use Rattle.error.specs.declared.Refusal.{Refusal}
use Rattle.error.specs.declared.Refusal.TheVariants as RefusalIs
use Rattle.wait.specs.declared.Wait.{Wait}
use Rattle.wait.specs.declared.Observed.{Observed}
use Rattle.wait.specs.declared.Move.{Move}
use Rattle.wait.specs.declared.Move.TheVariants.{Goes, Ends}
use Rattle.wait.specs.declared.Ending.{Ending}
use Rattle.wait.specs.declared.AndWait.{AndWait}
use Rattle.wait.specs.declared.Progress.{Progress}
use Rattle.wait.specs.Answers.{ran_told}
use Rattle.wait.specs.Turns.{ended_wait}
use Rattle.wait.specs.Manner.{Manner, tested, tested_alone, and_wait}

-- what a run comes to: its course, the turns that it took, and the wait reached
abbrev pub Running : Type 0
Running = AndWait (Progress Ending)

abbrev pub ran_as : Result (Option Ending) Refusal → ℕ → Wait → Running
ran_as course taken w = and_wait (record { course = course; taken = taken }) w

-- one step more
abbrev pub one_step_more : Running → Running
one_step_more r = ran_as r.answer.course (suc r.answer.taken) r.wait

-- ---- the steps

-- a refused turn isn't counted, and leaves the wait
abbrev pub uncounted : Wait → Refusal → Running
uncounted w r = ran_as (Err r) 0 w

-- no turn is left, or the limit is reached: 11 and 1 for the wait alone, else 10
unfoldable pub stops : Manner → Wait → Result (Option Ending) Refusal
stops m w = tested_alone m Err (Ok None) w

abbrev pub onward : Move → (Wait → Running) → Running
onward (Goes act w) more = one_step_more (more w)
onward (Ends e) more = ran_as (Ok (Some e)) 1 ended_wait

unfoldable pub steps : Manner → List Observed → Wait → Running
steps m [] w = ran_as (stops m w) 0 w
steps m (t ∷ ts) w = tested m (uncounted w) (onward (m.moves w t) (λ next. steps m ts next)) w t

-- ---- the entry point: "turns not a multiple of 8" is 3; then as many turns as the limit says

abbrev pub whole_turns : List ℕ → Bool
whole_turns xs = eqb (length xs % 8) 0

-- "A turn reads eight 64-bit numbers: clock in nanoseconds, resume epoch before and after, reply kind …, reply duration, pause, total
-- postponement before and after."
abbrev pub turn_of : List ℕ → Observed
turn_of xs =
    record {
      clock = get_or xs 0 0;
      epoch_before = get_or xs 1 0;
      epoch_after = get_or xs 2 0;
      kind = get_or xs 3 0;
      duration = get_or xs 4 0;
      pause = get_or xs 5 0;
      postponed_before = get_or xs 6 0;
      postponed_after = get_or xs 7 0;
    }

-- the first k turns
unfoldable pub turns_of : ℕ → List ℕ → List Observed
turns_of zero xs = []
turns_of (suc k) xs = turn_of xs ∷ turns_of k (drop 8 xs)

unfoldable pub runs : Manner → Wait → List ℕ → ℕ → Running
runs m w xs limit =
    if whole_turns xs then steps m (take limit (turns_of (length xs / 8) xs)) w
    else uncounted w RefusalIs.Storage

-- "turns taken, wait reached" beside what was told
pub record RunAfter : Type 0 where
  pub told : Told
  pub taken : ℕ
  pub wait : Wait

abbrev pub tell_run : Running → RunAfter
tell_run r = record { told = ran_told r.answer.course; taken = r.answer.taken; wait = r.wait }
