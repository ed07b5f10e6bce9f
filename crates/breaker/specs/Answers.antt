-- "What a caller is told": for each answer enum, document 01's number and values of each case.
use Rattle.std.specs.Prelude.{ℕ, Bool, true, false, List, [], ◌∷◌, Option, Some, None, Result}
use Rattle.error.specs.Told.{Told, tell, nothing, refused, told_or, told_by}
use Rattle.error.specs.declared.Refusal.{Refusal}
use Rattle.error.specs.Choice.{bit}
use Rattle.breaker.specs.declared.Ticket.{Ticket}
use Rattle.breaker.specs.declared.Delay.{Delay}
use Rattle.breaker.specs.declared.NotAdmitted.{NotAdmitted}
use Rattle.breaker.specs.declared.NotAdmitted.TheVariants as NotAdmittedIs
use Rattle.breaker.specs.declared.Tried.{Tried}
use Rattle.breaker.specs.declared.Tried.TheVariants as TriedIs
use Rattle.breaker.specs.declared.Decision.{Decision}
use Rattle.breaker.specs.declared.Decision.TheVariants as DecisionIs

-- ---- the values of an answer

-- "A ticket is a generation (64 bits) and a probe flag."
abbrev pub ticket_values : Ticket → List ℕ
ticket_values t = t.generation ∷ bit t.probe ∷ []

-- the delay of so many milliseconds
abbrev pub delay_of : ℕ → Delay
delay_of ms = record { ms = ms }

abbrev pub delay_values : Delay → List ℕ
delay_values d = d.ms ∷ []

-- the kind of a reply (1 acquired, 2 retry, 3 impossible), and a retry's delay
abbrev pub decision_values : Decision → List ℕ
decision_values DecisionIs.Acquired = 1 ∷ []
decision_values (DecisionIs.Retry d) = 2 ∷ delay_values d
decision_values DecisionIs.Impossible = 3 ∷ []

-- 1 and the wait, or 0 for none
abbrev pub reservation_values : Option Delay → List ℕ
reservation_values (Some d) = 1 ∷ delay_values d
reservation_values None = 0 ∷ []

-- ---- `is_acquired` and `retry_after` of decision.rs

abbrev pub is_acquired : Decision → Bool
is_acquired DecisionIs.Acquired = true
is_acquired (DecisionIs.Retry d) = false
is_acquired DecisionIs.Impossible = false

abbrev pub retry_after : Decision → Option Delay
retry_after DecisionIs.Acquired = None
retry_after (DecisionIs.Retry d) = Some d
retry_after DecisionIs.Impossible = None

-- ---- the answers

-- "breaker sheds (`CircuitOpen`) | 6 | delay ms"
abbrev pub shed_told : Delay → Told
shed_told d = tell 6 (delay_values d)

abbrev pub not_admitted : NotAdmitted → Told
not_admitted (NotAdmittedIs.Shed d) = shed_told d
not_admitted (NotAdmittedIs.Refused r) = refused r

abbrev pub granted_told : Ticket → Told
granted_told t = tell 0 (ticket_values t)

abbrev pub admission_told : Result Ticket NotAdmitted → Told
admission_told = told_or granted_told not_admitted

abbrev pub finished_told : Result (Unit {0}) Refusal → Told
finished_told = told_by (λ _. nothing)

-- "inner says retry (`Ok(None)`) | 7", "inner impossible (`CostExceedsCapacity`) | 8 | cost 1, capacity"
abbrev pub inner_told : Tried → Told
inner_told (TriedIs.Granted t) = granted_told t
inner_told TriedIs.Retry = tell 7 []
inner_told (TriedIs.Impossible cost capacity) = tell 8 (cost ∷ capacity ∷ [])

abbrev pub tried_told : Result Tried NotAdmitted → Told
tried_told = told_or inner_told not_admitted

abbrev pub standing_told : Result (Unit {0}) NotAdmitted → Told
standing_told = told_or (λ _. nothing) not_admitted

-- a notice to refund so much to the inner limiter
abbrev pub notice_told : Result ℕ Refusal → Told
notice_told = told_by (λ cost. tell 0 (cost ∷ []))

abbrev pub decided_told : Result Decision Refusal → Told
decided_told = told_by (λ d. tell 0 (decision_values d))

abbrev pub reserved_told : Result (Option Delay) Refusal → Told
reserved_told = told_by (λ w. tell 0 (reservation_values w))

abbrev pub counted_told : Result ℕ Refusal → Told
counted_told = told_by (λ n. tell 0 (n ∷ []))
