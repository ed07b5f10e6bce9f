-- An answer of a wait is known by what it tells. Assumes nothing.
use Rattle.std.proofs.Common.{ℕ, ◌≡◌, refl, ap, ◌∙◌, List, [], ◌∷◌, if◌then◌else◌, Option, Some, None, Result, Ok, Err, Continue, Break, eqb}
use Rattle.error.specs.declared.Refusal.{Refusal}
use Rattle.error.proofs.OneToOne.{one, read, read-refused, refused-one, at}
use Rattle.wait.specs.declared.Wait.{Wait}
use Rattle.wait.specs.declared.Act.{Act}
use Rattle.wait.specs.declared.Act.TheVariants as ActIs
use Rattle.wait.specs.declared.Ending.{Ending}
use Rattle.wait.specs.declared.Ending.TheVariants as EndingIs
use Rattle.wait.specs.declared.AndWait.{AndWait}
use Rattle.wait.specs.Answers.{Turned, turned_told, ran_told, started_told, dropped_told}
use Rattle.wait.specs.Manner.{WaitAfter, and_wait, tell_turn, tell_drop}
use Rattle.wait.specs.Run.{Running, ran_as, RunAfter, tell_run}

-- what the host is to do
abbrev pub act_in : List ℕ → Act
act_in vs =
    if eqb (at vs 0) 1 then ActIs.Sleep (at vs 1)
    else if eqb (at vs 0) 2 then ActIs.SleepUnlessResumed (at vs 1) (at vs 2)
    else if eqb (at vs 0) 3 then ActIs.Yield
    else ActIs.LookAgain

abbrev good_turned : List ℕ → Result Turned Refusal
good_turned [] = Ok (Break EndingIs.Done)
good_turned (k ∷ vs) = Ok (Continue (act_in (k ∷ vs)))

abbrev bad_ending : ℕ → List ℕ → Ending
bad_ending n vs = if eqb n 9 then EndingIs.Deadline (at vs 0) else EndingIs.Never

abbrev bad_turned : ℕ → List ℕ → Result Turned Refusal
bad_turned n vs = Ok (Break (bad_ending n vs))

pub turned-one : (a b : Result Turned Refusal) → turned_told a ≡ turned_told b → a ≡ b
turned-one = one turned_told (read good_turned bad_turned Err) back
  where
    back : (a : Result Turned Refusal) → read good_turned bad_turned Err (turned_told a) ≡ a
    back (Ok (Continue (ActIs.Sleep n))) = refl
    back (Ok (Continue (ActIs.SleepUnlessResumed n e))) = refl
    back (Ok (Continue ActIs.Yield)) = refl
    back (Ok (Continue ActIs.LookAgain)) = refl
    back (Ok (Break EndingIs.Done)) = refl
    back (Ok (Break (EndingIs.Deadline n))) = refl
    back (Ok (Break EndingIs.Never)) = refl
    back (Err r) = read-refused good_turned bad_turned Err r

abbrev bad_ran : ℕ → List ℕ → Result (Option Ending) Refusal
bad_ran n vs = if eqb n 10 then Ok None else Ok (Some (bad_ending n vs))

abbrev good_ran : List ℕ → Result (Option Ending) Refusal
good_ran vs = Ok (Some EndingIs.Done)

pub ran-one : (a b : Result (Option Ending) Refusal) → ran_told a ≡ ran_told b → a ≡ b
ran-one = one ran_told (read good_ran bad_ran Err) back
  where
    back : (a : Result (Option Ending) Refusal) → read good_ran bad_ran Err (ran_told a) ≡ a
    back (Ok (Some EndingIs.Done)) = refl
    back (Ok (Some (EndingIs.Deadline n))) = refl
    back (Ok (Some EndingIs.Never)) = refl
    back (Ok None) = refl
    back (Err r) = read-refused good_ran bad_ran Err r

abbrev good_started : List ℕ → Result Wait Refusal
good_started vs = Ok (record { phase = at vs 0; limited = at vs 1; deadline = at vs 2; seen = at vs 3; due = at vs 4; zeros = at vs 5 })

pub started-one : (a b : Result Wait Refusal) → started_told a ≡ started_told b → a ≡ b
started-one = one started_told (read good_started (λ n vs. good_started vs) Err) back
  where
    back : (a : Result Wait Refusal) → read good_started (λ n vs. good_started vs) Err (started_told a) ≡ a
    back (Ok w) = refl
    back (Err r) = read-refused good_started (λ n vs. good_started vs) Err r

abbrev good_dropped : List ℕ → Result ℕ Refusal
good_dropped vs = Ok (at vs 0)

pub dropped-one : (a b : Result ℕ Refusal) → dropped_told a ≡ dropped_told b → a ≡ b
dropped-one = one dropped_told (read good_dropped (λ n vs. good_dropped vs) Err) back
  where
    back : (a : Result ℕ Refusal) → read good_dropped (λ n vs. good_dropped vs) Err (dropped_told a) ≡ a
    back (Ok n) = refl
    back (Err r) = read-refused good_dropped (λ n vs. good_dropped vs) Err r

-- ---- a whole result is known by what it tells

pub turning-one : (w : Wait) (a b : Result (AndWait Turned) Refusal) → tell_turn w a ≡ tell_turn w b → a ≡ b
turning-one w (Ok a) (Ok b) e =
    let told : a.answer ≡ b.answer = cc (turned-one (Ok a.answer) (Ok b.answer) (ap (λ (x : WaitAfter). x.told) e)) in
    ap (λ (x : Turned). Ok (and_wait x a.wait)) told ∙ ap (λ (x : WaitAfter). Ok (and_wait b.answer x.wait)) e
turning-one w (Ok a) (Err r) e = cc (turned-one (Ok a.answer) (Err r) (ap (λ (x : WaitAfter). x.told) e))
turning-one w (Err r) (Ok b) e = cc (turned-one (Err r) (Ok b.answer) (ap (λ (x : WaitAfter). x.told) e))
turning-one w (Err r) (Err q) e = ap Err (refused-one r q (ap (λ (x : WaitAfter). x.told) e))

pub running-one : (a b : Running) → tell_run a ≡ tell_run b → a ≡ b
running-one a b e =
    ap (λ (x : Result (Option Ending) Refusal). ran_as x a.answer.taken a.wait) (ran-one a.answer.course b.answer.course (ap (λ (x : RunAfter). x.told) e)) ∙ ap (λ (x : RunAfter). ran_as b.answer.course x.taken x.wait) e

pub dropping-one : (w : Wait) (a b : Result (AndWait ℕ) Refusal) → tell_drop w a ≡ tell_drop w b → a ≡ b
dropping-one w (Ok a) (Ok b) e =
    let told : a.answer ≡ b.answer = cc (dropped-one (Ok a.answer) (Ok b.answer) (ap (λ (x : WaitAfter). x.told) e)) in
    ap (λ (x : ℕ). Ok (and_wait x a.wait)) told ∙ ap (λ (x : WaitAfter). Ok (and_wait b.answer x.wait)) e
dropping-one w (Ok a) (Err r) e = cc (dropped-one (Ok a.answer) (Err r) (ap (λ (x : WaitAfter). x.told) e))
dropping-one w (Err r) (Ok b) e = cc (dropped-one (Err r) (Ok b.answer) (ap (λ (x : WaitAfter). x.told) e))
dropping-one w (Err r) (Err q) e = ap Err (refused-one r q (ap (λ (x : WaitAfter). x.told) e))
