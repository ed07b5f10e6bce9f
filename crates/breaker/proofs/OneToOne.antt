-- An answer is known by what it tells. Assumes nothing.
use Rattle.std.proofs.Common.{◌≡◌, ℕ, Bool, List, [], ◌∷◌, refl, ap, eqb, if◌then◌else◌, Option, Some, None, Result, Ok, Err}
use Rattle.error.specs.Choice.{bit}
use Rattle.error.specs.declared.Refusal.{Refusal}
use Rattle.error.proofs.Choice.{bit-back}
use Rattle.error.proofs.OneToOne.{one, read, read-refused, at, told_by-one}
use Rattle.breaker.specs.declared.Ticket.{Ticket}
use Rattle.breaker.specs.declared.Delay.{Delay}
use Rattle.breaker.specs.declared.NotAdmitted.{NotAdmitted}
use Rattle.breaker.specs.declared.NotAdmitted.TheVariants.{Shed, Refused}
use Rattle.breaker.specs.declared.Tried.{Tried}
use Rattle.breaker.specs.declared.Tried.TheVariants as TriedIs
use Rattle.breaker.specs.declared.Decision.{Decision}
use Rattle.breaker.specs.declared.Decision.TheVariants.{Acquired, Retry, Impossible}
use Rattle.breaker.specs.Answers.{delay_of, decision_values, reservation_values, admission_told, finished_told, tried_told, standing_told, notice_told, decided_told, reserved_told, counted_told}

abbrev pub ticket_in : List ℕ → Ticket
ticket_in vs = record { generation = at vs 0; probe = eqb (at vs 1) 1 }

pub ticket-back : (t : Ticket) → ticket_in (t.generation ∷ bit t.probe ∷ []) ≡ t
ticket-back t = ap (λ (p : Bool). record { generation = t.generation; probe = p }) (bit-back t.probe)

-- ---- answers that may be shed

abbrev pub reads_shed : {A : Type 0} → ℕ → List ℕ → Result A NotAdmitted
reads_shed n vs = Err (Shed (delay_of (at vs 0)))

abbrev refuses_with : {A : Type 0} → Refusal → Result A NotAdmitted
refuses_with r = Err (Refused r)

pub admission-one : (a b : Result Ticket NotAdmitted) → admission_told a ≡ admission_told b → a ≡ b
admission-one = one admission_told (read (λ vs. Ok (ticket_in vs)) reads_shed refuses_with) back
  where
    back : (a : Result Ticket NotAdmitted) → read (λ vs. Ok (ticket_in vs)) reads_shed refuses_with (admission_told a) ≡ a
    back (Ok t) = ap Ok (ticket-back t)
    back (Err (Shed d)) = refl
    back (Err (Refused r)) = read-refused (λ vs. Ok (ticket_in vs)) reads_shed refuses_with r

abbrev more_tried : ℕ → List ℕ → Result Tried NotAdmitted
more_tried n vs =
    if eqb n 6 then Err (Shed (delay_of (at vs 0)))
    else if eqb n 7 then Ok TriedIs.Retry
    else Ok (TriedIs.Impossible (at vs 0) (at vs 1))

pub tried-one : (a b : Result Tried NotAdmitted) → tried_told a ≡ tried_told b → a ≡ b
tried-one = one tried_told (read (λ vs. Ok (TriedIs.Granted (ticket_in vs))) more_tried refuses_with) back
  where
    back : (a : Result Tried NotAdmitted) → read (λ vs. Ok (TriedIs.Granted (ticket_in vs))) more_tried refuses_with (tried_told a) ≡ a
    back (Ok (TriedIs.Granted t)) = ap (λ (x : Ticket). Ok (TriedIs.Granted x)) (ticket-back t)
    back (Ok TriedIs.Retry) = refl
    back (Ok (TriedIs.Impossible cost capacity)) = refl
    back (Err (Shed d)) = refl
    back (Err (Refused r)) = read-refused (λ vs. Ok (TriedIs.Granted (ticket_in vs))) more_tried refuses_with r

pub standing-one : (a b : Result (Unit {0}) NotAdmitted) → standing_told a ≡ standing_told b → a ≡ b
standing-one = one standing_told (read (λ vs. Ok tt) reads_shed refuses_with) back
  where
    back : (a : Result (Unit {0}) NotAdmitted) → read (λ vs. Ok tt) reads_shed refuses_with (standing_told a) ≡ a
    back (Ok _) = refl
    back (Err (Shed d)) = refl
    back (Err (Refused r)) = read-refused (λ vs. Ok tt) reads_shed refuses_with r

-- ---- answers that may be refused

pub finished-one : (a b : Result (Unit {0}) Refusal) → finished_told a ≡ finished_told b → a ≡ b
finished-one = told_by-one (λ u. []) (λ vs. tt) (λ u. refl)

pub notice-one : (a b : Result ℕ Refusal) → notice_told a ≡ notice_told b → a ≡ b
notice-one = told_by-one (λ cost. cost ∷ []) (λ vs. at vs 0) (λ cost. refl)

pub counted-one : (a b : Result ℕ Refusal) → counted_told a ≡ counted_told b → a ≡ b
counted-one = notice-one

abbrev decision_in : List ℕ → Decision
decision_in vs = if eqb (at vs 0) 1 then Acquired else if eqb (at vs 0) 2 then Retry (delay_of (at vs 1)) else Impossible

pub decided-one : (a b : Result Decision Refusal) → decided_told a ≡ decided_told b → a ≡ b
decided-one = told_by-one decision_values decision_in back
  where
    back : (d : Decision) → decision_in (decision_values d) ≡ d
    back Acquired = refl
    back (Retry d) = refl
    back Impossible = refl

abbrev reservation_in : List ℕ → Option Delay
reservation_in vs = if eqb (at vs 0) 1 then Some (delay_of (at vs 1)) else None

pub reserved-one : (a b : Result (Option Delay) Refusal) → reserved_told a ≡ reserved_told b → a ≡ b
reserved-one = told_by-one reservation_values reservation_in back
  where
    back : (w : Option Delay) → reservation_in (reservation_values w) ≡ w
    back (Some d) = refl
    back None = refl
