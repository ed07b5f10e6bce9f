-- The calls of a wait before a breaker, by what the breaker's steps and the wait's own calls answered. Assumes nothing.
use Rattle.std.proofs.Common.{◌≡◌, ℕ, Bool, true, false, List, refl, sym, ap, ◌∙◌, ◌%◌, length, eq-eqb, Option, Some, Result, Ok, Err, Break}
use Rattle.error.specs.Told.{Told, nothing, refused}
use Rattle.error.specs.declared.Refusal.{Refusal}
use Rattle.history.specs.Items.{padded}
use Rattle.trip.specs.declared.Config.{Config}
use Rattle.breaker.specs.declared.Answered.{Answered}
use Rattle.breaker.specs.declared.Breaker.{Breaker}
use Rattle.breaker.specs.declared.Ticket.{Ticket}
use Rattle.breaker.specs.declared.Delay.{Delay}
use Rattle.breaker.specs.Record.{State, settings, state, stored, sound}
use Rattle.breaker.specs.Answers.{shed_told}
use Rattle.breaker.specs.Rules.{Outcome, outcome, Admitted, granted, shed, admit, admit_as, via_trait, aborted, Verdict, admits, refuses}
use Rattle.breaker.specs.Calls.{After, after, kept, answered, guarded}
use Rattle.breaker.proofs.Guard.{tested-sound, guarded-done}
use Rattle.steps.specs.Steps.{Applies, entry, verdict}
use Rattle.steps.proofs.Aborting.{given_back}
use Rattle.steps.proofs.Holding.{holds}
use Rattle.admission.proofs.Admitting.{entered-shed, entered-granted, admitted-granted}
use Rattle.wait.specs.declared.Wait.{Wait}
use Rattle.wait.specs.declared.Observed.{Observed}
use Rattle.wait.specs.declared.Ending.{Ending}
use Rattle.wait.specs.declared.AndWait.{AndWait}
use Rattle.wait.specs.Answers.{Turned, started_told, dropped_told}
use Rattle.wait.specs.Turns.{started}
use Rattle.wait.specs.Manner.{turned, dropped}
use Rattle.wait.specs.Run.{Running, runs}
use Rattle.wait.proofs.OneToOne.{started-one}
use Rattle.keep.specs.Keep.{keep}
use Rattle.waiting.specs.declared.Pending.{Pending}
use Rattle.waiting.specs.declared.Completed.TheVariants as CompletedIs
use Rattle.waiting.specs.Answers.{completed_told}
use Rattle.waiting.specs.Rules.{after_abort, judged, completes}
use Rattle.waiting.specs.Calls.{pending_after, pending, beside, begins, started_to, start_pending, goes_on, turned_to, turn_pending, pending_run, ran_to, run_pending, dropped_to, drop_pending}

-- ---- completion, by the verdict

-- what the step's verdict comes to, and that it is the rule's
abbrev pub judged_by : Result (Unit {0}) Delay → Ticket → State → Outcome
judged_by (Ok u) t st = outcome (completed_told (CompletedIs.Admitted t)) st
judged_by (Err d) t st = after_abort (completed_told (CompletedIs.Shed d 1)) t st

pub judged-by : (v : Verdict) (t : Ticket) (st : State) → judged_by (verdict v) t st ≡ judged v t st
judged-by admits t st = refl
judged-by (refuses ms) t st = refl

-- what an end leaves, for every state that the record stores
abbrev Leaves : Ending → ℕ → ℕ → Ticket → Breaker → Told → Breaker → Type 0
Leaves e reading capacity t b told next = (c : Config) (st : State) → b ≡ stored c st → after told next (padded st.list) ≡ kept c (completes e reading capacity t st)

-- ---- a start whose times are refused leaves all as it was

pub start-refused : (reading clock : ℕ) (limited : Bool) (timeout : ℕ) (b : Breaker) (s : List ℕ) (p : Pending) → sound b s ≡ true
    → (r : Refusal) → refused r ≡ started_told (started clock limited timeout) → pending_after (refused r) b s p ≡ start_pending reading clock limited timeout b s p
unfolding start_pending
start-refused reading clock limited timeout b s p ok r e =
    ap (λ (y : Result Wait Refusal). started_to y reading b s p) (started-one (Err r) (started clock limited timeout) e) ∙ guarded-done (λ q. pending_after (refused q) b s p) _ b s ok

-- ---- what is left of a breaker that passed its test

module _ (b : Breaker) (s : List ℕ) (tested : Ok (tt {0}) ≡ guarded Err (Ok (tt {0})) b s) (p : Pending) where
  ok : sound b s ≡ true
  ok = tested-sound b s tested

  -- the end of a wait, over the breaker's places
  completed : (e : Ending) (reading capacity : ℕ) (told : Told) (next : Breaker) → Leaves e reading capacity p.ticket b told next
      → after told next s ≡ kept b.config (completes e reading capacity p.ticket (state b s))
  completed e reading capacity told next d = ap (after told next) (holds b s ok).1 ∙ d b.config (state b s) (holds b s ok).0

  -- ---- start

  module _ (reading clock : ℕ) (limited : Bool) (timeout : ℕ) (w : Wait) (made : Ok w ≡ started clock limited timeout) where
    plain : Admitted
    plain = admit (settings b.config) reading (state b s)

    -- a plain admission is the rule's own
    plainly : (x : Admitted) → via_trait false x ≡ x
    plainly (granted t st) = refl
    plainly (shed ms) = refl

    -- the admission is what the entry stands for
    admitted-as : (x : Admitted) → via_trait false plain ≡ x → begins w x b s p ≡ start_pending reading clock limited timeout b s p
    unfolding plain start_pending
    admitted-as x q =
        ap (λ (y : Admitted). begins w y b s p) (sym q ∙ plainly plain)
        ∙ ap (λ (y : Result Wait Refusal). started_to y reading b s p) made
        ∙ guarded-done (λ r. pending_after (refused r) b s p) _ b s ok

    -- what the step answered, for every state that the record stores
    module _ (r : Result (Answered Ticket) Delay) (step : (c : Config) (st : State) → b ≡ stored c st → r ≡ entry c (admit_as false (settings c) reading st)) where
      entered : r ≡ entry b.config (via_trait false plain)
      unfolding plain
      entered = step b.config (state b s) (holds b s ok).0

      pub start-granted : (x : Answered Ticket) → r ≡ Ok x → pending_after nothing x.breaker s (pending w x.answer) ≡ start_pending reading clock limited timeout b s p
      unfolding plain
      start-granted x q =
          let e = sym q ∙ entered in
          entered-granted b.config x.answer x.breaker (via_trait false plain) e
          (λ st i h. ap (λ (a : After). pending_after nothing a.breaker a.places (pending w x.answer)) (admitted-granted reading b s ok false x.answer x.breaker e ∙ ap (λ (y : Admitted). kept b.config (answered y (state b s))) i)
          ∙ admitted-as (granted x.answer st) i)

      pub start-shed : (d : Delay) → r ≡ Err d → pending_after (shed_told d) b s p ≡ start_pending reading clock limited timeout b s p
      start-shed d q = entered-shed b.config d (via_trait false plain) (sym q ∙ entered) (λ ms i h. ap (λ (x : Delay). pending_after (shed_told x) b s p) h ∙ admitted-as (shed ms) i)

  -- ---- a turn or a run that ends the wait, and a drop

  module _ (e : Ending) (reading capacity : ℕ) (told : Told) (next : Breaker) (left : Leaves e reading capacity p.ticket b told next) where
    pub turn-ends : (t : Observed) (x : AndWait Turned) → Ok x ≡ turned keep p.wait t → x.answer ≡ Break e
        → pending_after told next s (pending x.wait p.ticket) ≡ turn_pending t reading capacity b s p
    unfolding turn_pending
    turn-ends t x is q =
        ap (beside (pending x.wait p.ticket)) (completed e reading capacity told next left)
        ∙ ap (λ (a : Turned). goes_on a x.wait reading capacity b s p) (sym q)
        ∙ ap (λ (y : Result (AndWait Turned) Refusal). turned_to y reading capacity b s p) is
        ∙ guarded-done (λ r. pending_after (refused r) b s p) _ b s ok

    pub run-ends : (turns : List ℕ) (limit : ℕ) (x : Running) → length turns % 8 ≡ 0 → x ≡ runs keep p.wait turns limit → x.answer.course ≡ Ok (Some e)
        → pending_run (pending_after told next s (pending x.wait p.ticket)) x.answer.taken ≡ run_pending turns limit reading capacity b s p
    unfolding run_pending
    run-ends turns limit x whole is q =
        rw (eq-eqb _ _ whole)
        (ap (λ (a : After). pending_run (beside (pending x.wait p.ticket) a) x.answer.taken) (completed e reading capacity told next left)
        ∙ ap (λ (a : Result (Option Ending) Refusal). pending_run (ran_to a x.wait reading capacity b s p) x.answer.taken) (sym q)
        ∙ ap (λ (y : Running). pending_run (ran_to y.answer.course y.wait reading capacity b s p) y.answer.taken) is
        ∙ guarded-done (λ r. pending_run (pending_after (refused r) b s p) 0) _ b s ok)

  pub drop-gives : (x : AndWait ℕ) (next : Breaker) → Ok x ≡ dropped keep p.wait → Applies (λ c st. aborted p.ticket false st) b next
      → pending_after (dropped_told (Ok x.answer)) next s (pending x.wait p.ticket) ≡ drop_pending b s p
  unfolding drop_pending
  drop-gives x next is h =
      ap (beside (pending x.wait p.ticket)) (given_back (dropped_told (Ok x.answer)) b.config p.ticket false (state b s) next s (h b.config (state b s) (holds b s ok).0) (holds b s ok).1)
      ∙ ap (λ (y : Result (AndWait ℕ) Refusal). dropped_to y b s p) is
      ∙ guarded-done (λ r. pending_after (refused r) b s p) _ b s ok
