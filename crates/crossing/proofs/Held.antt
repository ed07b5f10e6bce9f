-- Nothing is lost of a wait's ticket: what a caller holds after a call, read again, is what the rule leaves. Assumes nothing.
use Rattle.std.proofs.Common.{◌≡◌, ℕ, Bool, not, List, refl, ap, eqb, length, Option, Some, None, Result, Ok, Err, Continue, Break}
use Rattle.error.specs.Told.{refused}
use Rattle.error.specs.declared.Refusal.{Refusal}
use Rattle.error.specs.declared.Refusal.TheVariants.{Storage, Unsound}
use Rattle.error.proofs.Choice.{flag-bit, if-cases}
use Rattle.error.proofs.OneToOne.{number-not-0}
use Rattle.breaker.specs.declared.Breaker.{Breaker}
use Rattle.breaker.specs.Record.{settings, state, sound}
use Rattle.breaker.specs.Rules.{Admitted, granted, shed, admit}
use Rattle.breaker.specs.Calls.{guarded}
use Rattle.wait.specs.declared.Wait.{Wait}
use Rattle.wait.specs.declared.Observed.{Observed}
use Rattle.wait.specs.declared.Ending.{Ending}
use Rattle.wait.specs.declared.AndWait.{AndWait}
use Rattle.wait.specs.Answers.{Turned}
use Rattle.wait.specs.Turns.{started}
use Rattle.keep.specs.Keep.{keep}
use Rattle.wait.specs.Manner.{turned, dropped}
use Rattle.wait.specs.Run.{whole_turns, runs}
use Rattle.waiting.specs.declared.Pending.{Pending}
use Rattle.waiting.specs.Calls as Waits
use Rattle.waiting.specs.Calls.{start_pending, turn_pending, run_pending, drop_pending}
use Rattle.crossing.specs.declared.PlainPending.{PlainPending}
use Rattle.crossing.specs.Waits.{pending_by, plain_pending, after_start, after_turn}

-- a pending wait that goes out is read back
pub plain_back : (p : Pending) → pending_by (plain_pending p) ≡ p
plain_back p = ap (λ (x : Bool). record { wait = p.wait; ticket = record { generation = p.ticket.generation; probe = x } }) (flag-bit p.ticket.probe)

-- what holds of each refusal and of the answer holds of a guarded call
guarded-cases : {A : Type 0} (P : A → Type 0) (refusal : Refusal → A) (answer : A) (b : Breaker) (s : List ℕ) → ((r : Refusal) → P (refusal r)) → P answer → P (guarded refusal answer b s)
guarded-cases P refusal answer b s f h = if-cases P (not (eqb (length s) 4096)) (λ e. f Storage) (λ e. if-cases P (not (sound b s)) (λ d. f Unsound) (λ d. h))

module _ (handed : PlainPending) where
  abbrev StartHeld : Waits.PendingAfter → Type 0
  StartHeld a = pending_by (after_start a.told.number a.pending handed) ≡ a.pending

  abbrev TurnHeld : Waits.PendingAfter → Type 0
  TurnHeld a = pending_by (after_turn a.pending handed) ≡ a.pending

  abbrev p : Pending
  p = pending_by handed

  module _ (b : Breaker) (s : List ℕ) where
    refused-held : (r : Refusal) → StartHeld (Waits.pending_after (refused r) b s p)
    refused-held r = rw (number-not-0 r) refl

    begins-held : (w : Wait) (x : Admitted) → StartHeld (Waits.begins w x b s p)
    begins-held w (granted t next) = plain_back (Waits.pending w t)
    begins-held w (shed ms) = refl

    started-held : (x : Result Wait Refusal) (reading : ℕ) → StartHeld (Waits.started_to x reading b s p)
    started-held (Ok w) reading = begins-held w (admit (settings b.config) reading (state b s))
    started-held (Err r) reading = refused-held r

    pub start-held : (reading clock : ℕ) (limited : Bool) (timeout : ℕ) → StartHeld (start_pending reading clock limited timeout b s p)
    unfolding start_pending
    start-held reading clock limited timeout = guarded-cases StartHeld (λ r. Waits.pending_after (refused r) b s p) _ b s refused-held (started-held (started clock limited timeout) reading)

    goes-held : (x : Turned) (w : Wait) (reading capacity : ℕ) → TurnHeld (Waits.goes_on x w reading capacity b s p)
    goes-held (Continue act) w reading capacity = refl
    goes-held (Break e) w reading capacity = refl

    turned-held : (x : Result (AndWait Turned) Refusal) (reading capacity : ℕ) → TurnHeld (Waits.turned_to x reading capacity b s p)
    turned-held (Ok x) reading capacity = goes-held x.answer x.wait reading capacity
    turned-held (Err r) reading capacity = refl

    pub turn-held : (t : Observed) (reading capacity : ℕ) → TurnHeld (turn_pending t reading capacity b s p)
    unfolding turn_pending
    turn-held t reading capacity = guarded-cases TurnHeld (λ r. Waits.pending_after (refused r) b s p) _ b s (λ r. refl) (turned-held (turned keep p.wait t) reading capacity)

    ran-held : (x : Result (Option Ending) Refusal) (w : Wait) (reading capacity : ℕ) → TurnHeld (Waits.ran_to x w reading capacity b s p)
    ran-held (Ok (Some e)) w reading capacity = refl
    ran-held (Ok None) w reading capacity = refl
    ran-held (Err r) w reading capacity = refl

    pub run-held : (turns : List ℕ) (limit reading capacity : ℕ) → TurnHeld (run_pending turns limit reading capacity b s p).left
    unfolding run_pending
    run-held turns limit reading capacity =
        let Held : Waits.PendingRun → Type 0 = λ x. TurnHeld x.left in
        if-cases Held (whole_turns turns)
        (λ e. guarded-cases Held (λ r. Waits.pending_run (Waits.pending_after (refused r) b s p) 0) _ b s (λ r. refl) (ran-held (runs keep p.wait turns limit).answer.course (runs keep p.wait turns limit).wait reading capacity))
        (λ e. refl)

    dropped-held : (x : Result (AndWait ℕ) Refusal) → TurnHeld (Waits.dropped_to x b s p)
    dropped-held (Ok x) = refl
    dropped-held (Err r) = refl

    pub drop-held : TurnHeld (drop_pending b s p)
    unfolding drop_pending
    drop-held = guarded-cases TurnHeld (λ r. Waits.pending_after (refused r) b s p) _ b s (λ r. refl) (dropped-held (dropped keep p.wait))
