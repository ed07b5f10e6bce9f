-- An answer of a wait before a breaker is known by what it tells. Assumes nothing.
use Rattle.std.proofs.Common.{ℕ, ◌≡◌, refl, ap, List, [], ◌∷◌, if◌then◌else◌, Option, Some, None, Result, Ok, Err, Continue, Break, eqb}
use Rattle.error.specs.Told.{Told}
use Rattle.error.specs.declared.Refusal.{Refusal}
use Rattle.error.proofs.OneToOne.{one, read, read-refused, at}
use Rattle.breaker.specs.declared.Ticket.{Ticket}
use Rattle.breaker.specs.declared.NotAdmitted.{NotAdmitted}
use Rattle.breaker.specs.Answers.{delay_of}
use Rattle.breaker.proofs.OneToOne.{ticket_in, ticket-back, standing-one}
use Rattle.wait.specs.declared.Act.TheVariants as ActIs
use Rattle.wait.proofs.OneToOne.{act_in}
use Rattle.waiting.specs.declared.Completed.{Completed}
use Rattle.waiting.specs.declared.Completed.TheVariants as CompletedIs
use Rattle.waiting.specs.Answers.{begun_told, completed_told, Awaited, awaited_told, course_told}

-- a start tells no more than a verdict does
pub begun-one : (a b : Result (Unit {0}) NotAdmitted) → begun_told a ≡ begun_told b → a ≡ b
begun-one = standing-one

-- how a wait ended: 0 and its ticket, or by the number
abbrev admitted : List ℕ → Completed
admitted vs = CompletedIs.Admitted (ticket_in (at vs 1 ∷ at vs 2 ∷ []))

abbrev more : ℕ → List ℕ → Completed
more n vs =
    if eqb n 6 then CompletedIs.Shed (delay_of (at vs 0)) (at vs 1)
    else if eqb n 8 then CompletedIs.Impossible (at vs 0) (at vs 1)
    else CompletedIs.Deadline (at vs 0)

abbrev completed_in : Told → Completed
completed_in t = if eqb t.number 0 then admitted t.values else more t.number t.values

completed-back : (a : Completed) → completed_in (completed_told a) ≡ a
completed-back (CompletedIs.Admitted t) = ap (λ (x : Ticket). CompletedIs.Admitted x) (ticket-back t)
completed-back (CompletedIs.Shed d refund) = refl
completed-back (CompletedIs.Impossible cost capacity) = refl
completed-back (CompletedIs.Deadline n) = refl

pub completed-one : (a b : Completed) → completed_told a ≡ completed_told b → a ≡ b
completed-one = one completed_told completed_in completed-back

abbrev good_awaited : List ℕ → Result Awaited Refusal
good_awaited vs = Ok (if eqb (at vs 0) 0 then Break (admitted vs) else Continue (act_in vs))

abbrev more_awaited : ℕ → List ℕ → Result Awaited Refusal
more_awaited n vs = Ok (Break (more n vs))

pub awaited-one : (a b : Result Awaited Refusal) → awaited_told a ≡ awaited_told b → a ≡ b
awaited-one = one awaited_told (read good_awaited more_awaited Err) back
  where
    back : (a : Result Awaited Refusal) → read good_awaited more_awaited Err (awaited_told a) ≡ a
    back (Ok (Continue (ActIs.Sleep n))) = refl
    back (Ok (Continue (ActIs.SleepUnlessResumed n e))) = refl
    back (Ok (Continue ActIs.Yield)) = refl
    back (Ok (Continue ActIs.LookAgain)) = refl
    back (Ok (Break (CompletedIs.Admitted t))) = ap (λ (x : Completed). Ok (Break x)) (completed-back (CompletedIs.Admitted t))
    back (Ok (Break (CompletedIs.Shed d refund))) = refl
    back (Ok (Break (CompletedIs.Impossible cost capacity))) = refl
    back (Ok (Break (CompletedIs.Deadline n))) = refl
    back (Err r) = read-refused good_awaited more_awaited Err r

abbrev good_course : List ℕ → Result (Option Completed) Refusal
good_course vs = Ok (Some (admitted vs))

abbrev more_course : ℕ → List ℕ → Result (Option Completed) Refusal
more_course n vs = Ok (if eqb n 10 then None else Some (more n vs))

pub course-one : (a b : Result (Option Completed) Refusal) → course_told a ≡ course_told b → a ≡ b
course-one = one course_told (read good_course more_course Err) back
  where
    back : (a : Result (Option Completed) Refusal) → read good_course more_course Err (course_told a) ≡ a
    back (Ok (Some (CompletedIs.Admitted t))) = ap (λ (x : Completed). Ok (Some x)) (completed-back (CompletedIs.Admitted t))
    back (Ok (Some (CompletedIs.Shed d refund))) = refl
    back (Ok (Some (CompletedIs.Impossible cost capacity))) = refl
    back (Ok (Some (CompletedIs.Deadline n))) = refl
    back (Ok None) = refl
    back (Err r) = read-refused good_course more_course Err r
