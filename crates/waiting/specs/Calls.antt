-- The entry points of a wait before a breaker: each tests 3 and 4, then what the wait itself refuses (11, then 1), and then does what the rules say. Definitions only.
use Rattle.std.specs.Prelude.{ℕ, Bool, List, Option, Some, None, Result, Ok, Err, if◌then◌else◌}
use Rattle.std.specs.declared.ops.ControlFlow.TheVariants.{Continue, Break}
use Rattle.error.specs.Told.{Told, refused}
use Rattle.error.specs.declared.Refusal.{Refusal}
use Rattle.error.specs.declared.Refusal.TheVariants.{Storage}
use Rattle.breaker.specs.declared.Breaker.{Breaker}
use Rattle.breaker.specs.declared.Ticket.{Ticket}
use Rattle.breaker.specs.declared.NotAdmitted.TheVariants.{Shed}
use Rattle.breaker.specs.Record.{settings, state}
use Rattle.breaker.specs.Answers.{delay_of}
use Rattle.breaker.specs.Rules.{Admitted, granted, shed, admit, outcome}
use Rattle.breaker.specs.Calls.{After, guarded, kept}
use Rattle.wait.specs.declared.Wait.{Wait}
use Rattle.wait.specs.declared.Observed.{Observed}
use Rattle.wait.specs.declared.Ending.{Ending}
use Rattle.wait.specs.declared.AndWait.{AndWait}
use Rattle.wait.specs.Answers.{Turned, dropped_told}
use Rattle.wait.specs.Turns.{started}
use Rattle.wait.specs.Manner.{turned, dropped}
use Rattle.wait.specs.Run.{whole_turns, runs}
use Rattle.keep.specs.Keep.{keep}
use Rattle.waiting.specs.declared.Pending.{Pending}
use Rattle.waiting.specs.declared.WithWait.{WithWait}
use Rattle.waiting.specs.Answers.{begun_told, awaited_told, course_told}
use Rattle.waiting.specs.Rules.{after_abort, completes}

-- ---- what a call leaves: what it told, the record, every place, and the wait with its ticket

pub record PendingAfter : Type 0 where
  pub told : Told
  pub breaker : Breaker
  pub places : List ℕ
  pub pending : Pending

abbrev pub pending_after : Told → Breaker → List ℕ → Pending → PendingAfter
pending_after t b s p = record { told = t; breaker = b; places = s; pending = p }

-- of a call by value: its answer, the record and the wait after it; refused or shed, all as it was
abbrev pub with_wait : {A E : Type 0} → (Result A E → Told) → Result (WithWait A Pending) E → Breaker → List ℕ → Pending → PendingAfter
with_wait told (Ok x) b s p = pending_after (told (Ok x.answer)) x.breaker s x.pending
with_wait told (Err e) b s p = pending_after (told (Err e)) b s p

abbrev pub pending : Wait → Ticket → Pending
pending w t = record { wait = w; ticket = t }

-- a rule's outcome stored, beside a wait
abbrev pub beside : Pending → After → PendingAfter
beside p a = pending_after a.told a.breaker a.places p

-- ---- start: the times are tested before the admission; shed, all is left as it was

abbrev pub begins : Wait → Admitted → Breaker → List ℕ → Pending → PendingAfter
begins w (granted t next) b s p = beside (pending w t) (kept b.config (outcome (begun_told (Ok tt)) next))
begins w (shed ms) b s p = pending_after (begun_told (Err (Shed (delay_of ms)))) b s p

abbrev pub started_to : Result Wait Refusal → ℕ → Breaker → List ℕ → Pending → PendingAfter
started_to (Ok w) reading b s p = begins w (admit (settings b.config) reading (state b s)) b s p
started_to (Err r) reading b s p = pending_after (refused r) b s p

unfoldable pub start_pending : ℕ → ℕ → Bool → ℕ → Breaker → List ℕ → Pending → PendingAfter
start_pending reading clock limited timeout b s p = guarded (λ r. pending_after (refused r) b s p) (started_to (started clock limited timeout) reading b s p) b s

-- ---- a turn: what its wait makes of it, and what the wait's end does to the breaker

-- the wait w is left
abbrev pub finishes : Ending → Wait → ℕ → ℕ → Breaker → List ℕ → Pending → PendingAfter
finishes e w reading capacity b s p =
    beside (pending w p.ticket) (kept b.config (completes e reading capacity p.ticket (state b s)))

abbrev pub goes_on : Turned → Wait → ℕ → ℕ → Breaker → List ℕ → Pending → PendingAfter
goes_on (Continue act) w reading capacity b s p = pending_after (awaited_told (Ok (Continue act))) b s (pending w p.ticket)
goes_on (Break e) w reading capacity b s p = finishes e w reading capacity b s p

abbrev pub turned_to : Result (AndWait Turned) Refusal → ℕ → ℕ → Breaker → List ℕ → Pending → PendingAfter
turned_to (Ok x) reading capacity b s p = goes_on x.answer x.wait reading capacity b s p
turned_to (Err r) reading capacity b s p = pending_after (refused r) b s p

unfoldable pub turn_pending : Observed → ℕ → ℕ → Breaker → List ℕ → Pending → PendingAfter
turn_pending t reading capacity b s p = guarded (λ r. pending_after (refused r) b s p) (turned_to (turned keep p.wait t) reading capacity b s p) b s

-- ---- a run: "a run adds turns taken, wait reached"; 3 is tested on the whole buffer of turns

pub record PendingRun : Type 0 where
  pub left : PendingAfter
  pub taken : ℕ

abbrev pub pending_run : PendingAfter → ℕ → PendingRun
pending_run a n = record { left = a; taken = n }

abbrev pub ran_to : Result (Option Ending) Refusal → Wait → ℕ → ℕ → Breaker → List ℕ → Pending → PendingAfter
ran_to (Ok (Some e)) w reading capacity b s p = finishes e w reading capacity b s p
ran_to (Ok None) w reading capacity b s p = pending_after (course_told (Ok None)) b s (pending w p.ticket)
ran_to (Err r) w reading capacity b s p = pending_after (refused r) b s (pending w p.ticket)

unfoldable pub run_pending : List ℕ → ℕ → ℕ → ℕ → Breaker → List ℕ → Pending → PendingRun
run_pending turns limit reading capacity b s p =
    let x = runs keep p.wait turns limit in
    if whole_turns turns then
    guarded (λ r. pending_run (pending_after (refused r) b s p) 0) (pending_run (ran_to x.answer.course x.wait reading capacity b s p) x.answer.taken) b s
    else pending_run (pending_after (refused Storage) b s p) 0

-- ---- "a dropped wait: abort; a dropped wait gives back a held grant"

abbrev pub dropped_to : Result (AndWait ℕ) Refusal → Breaker → List ℕ → Pending → PendingAfter
dropped_to (Ok x) b s p = beside (pending x.wait p.ticket) (kept b.config (after_abort (dropped_told (Ok x.answer)) p.ticket (state b s)))
dropped_to (Err r) b s p = pending_after (refused r) b s p

unfoldable pub drop_pending : Breaker → List ℕ → Pending → PendingAfter
drop_pending b s p = guarded (λ r. pending_after (refused r) b s p) (dropped_to (dropped keep p.wait) b s p) b s
