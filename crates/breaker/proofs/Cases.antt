-- What the rules do, by cases: what holds of each outcome that a rule can have holds of the rule. Assumes nothing.
use Prim.Native.Nat.{ℕ, ◌+◌, ◌-◌, ◌^◌, ◌<◌, min}
use mathlib.Core.Path.{◌≡◌}
use mathlib.Core.Logic.{◌≢◌}
use mathlib.Core.Bool.{Bool, true, false, not, ◌&&◌}
use lib.Dec.{leb, ltb, eqb}
use borrow.Author.Tests.{eqb-true, eqb-false, ltb-true}
use Rattle.std.proofs.Common.{if◌then◌else◌}
use Rattle.error.specs.Choice.{bit}
use Rattle.error.specs.Told.{refused}
use Rattle.error.specs.declared.Refusal.TheVariants.{Full}
use Rattle.error.proofs.Choice.{if-cases, and_split}
use Rattle.trip.specs.Policy.{tripped}
use Rattle.breaker.specs.declared.Ticket.{Ticket}
use Rattle.breaker.specs.Record.{Settings, State, Closed, HalfOpen, Open}
use Rattle.breaker.specs.Rules.{Outcome, outcome, done, with_counts, with_history, one_more_trial, counting, opening, half_opening, ticket_of, Admitted, granted, shed, admit, in_half_open, recorded, no_room, in_closed, settled, aborted}

-- with a trait probe in HalfOpen, or without
pub probe-cases : {A : Type 0} (P : A → Type 0) (st : State) {a b : A} → (st.state ≡ HalfOpen → P a) → P b
    → P (if eqb st.state HalfOpen && ltb 0 st.counts.trait_probes then a else b)
probe-cases P st f g = if-cases P (eqb st.state HalfOpen && ltb 0 st.counts.trait_probes) (λ e. f (eqb-true _ _ (and_split (eqb st.state HalfOpen) _ e).0)) (λ e. g)

-- an admission: Closed; Open, late enough or too early; HalfOpen, with a trial left or none
module _ (P : Admitted → Type 0) (s : Settings) (reading : ℕ) (st : State) where
  pub admit-cases : P (granted (ticket_of st false) st) → P (granted (ticket_of (half_opening st) true) (half_opening st)) → P (shed (st.open_until - reading))
      → (st.state ≢ Closed → st.state ≢ Open → st.counts.inflight < s.trials → P (granted (ticket_of st true) (with_counts (one_more_trial st.counts) st)))
      → P (shed 0) → P (admit s reading st)
  unfolding admit
  admit-cases closed late early trial none =
      if-cases P (eqb st.state Closed) (λ c. closed)
      (λ c. if-cases P (eqb st.state Open) (λ o. if-cases P (leb st.open_until reading) (λ l. late) (λ l. early))
      (λ o. if-cases P (ltb st.counts.inflight s.trials) (λ i. trial (eqb-false _ _ c) (eqb-false _ _ o) (ltb-true _ _ i)) (λ i. none)))

-- "failure adds 1, capped; the policy records"
abbrev pub failing : Settings → ℕ → State → State
failing s reading st = with_history (min (st.run + 1) (2 ^ 32 - 1)) (recorded s.policy true reading st.list) st

module _ (P : Outcome → Type 0) (s : Settings) (reading : ℕ) (st : State) where
  -- a settle: nothing, or by the state
  pub settled-cases : (t : Ticket) (good : Bool) → P (done st) → (st.state ≡ HalfOpen → P (done (in_half_open s reading t good st))) → (st.state ≡ Closed → P (in_closed s reading good st))
      → P (settled s reading t good st)
  unfolding settled
  settled-cases t good none half closed =
      if-cases P (not (eqb t.generation st.generation)) (λ g. none)
      (λ g. if-cases P (eqb st.state HalfOpen) (λ h. half (eqb-true _ _ h)) (λ h. if-cases P (eqb st.state Closed) (λ c. closed (eqb-true _ _ c)) (λ c. none)))

  -- a failure in Closed: no room, or recorded and tripped, or recorded
  pub failure-cases :
      let room = no_room s.policy reading st.list ≡ false in
      P (outcome (refused Full) st) → (room → P (done (opening s reading (failing s reading st)))) → (room → P (done (failing s reading st))) → P (in_closed s reading false st)
  unfolding in_closed
  failure-cases full trips stays =
      if-cases P (no_room s.policy reading st.list) (λ r. full)
      (λ r. if-cases P (tripped s.policy reading (failing s reading st).run (failing s reading st).list) (λ x. trips r) (λ x. stays r))

-- an abort: nothing, or in HalfOpen
pub aborted-cases : (P : State → Type 0) (t : Ticket) (trait : Bool) (st : State) → P st → (st.state ≡ HalfOpen → P (counting 1 (bit trait) 0 st)) → P (aborted t trait st)
unfolding aborted
aborted-cases P t trait st none half =
    if-cases P (t.probe && (eqb t.generation st.generation && eqb st.state HalfOpen))
    (λ e.
    let p = and_split t.probe (eqb t.generation st.generation && eqb st.state HalfOpen) e in
    half (eqb-true _ _ (and_split (eqb t.generation st.generation) (eqb st.state HalfOpen) p.1).1))
    (λ e. none)
