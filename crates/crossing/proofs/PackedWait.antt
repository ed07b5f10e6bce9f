-- Nothing is lost where a wait's answer is packed: what was told, and the turns taken, are read back from the six numbers. Assumes nothing.
use Rattle.std.proofs.Common.{◌≡◌, ℕ, [], ◌∷◌, refl, sym, ap, ◌∙◌, eqb, take, if◌then◌else◌, Option, Some, None, Result, Ok, Err, Continue, Break}
use Rattle.error.specs.Told.{Told as Answer, tell, told_by}
use Rattle.error.specs.declared.Refusal.{Refusal}
use Rattle.breaker.specs.declared.NotAdmitted.{NotAdmitted}
use Rattle.breaker.specs.declared.NotAdmitted.TheVariants as NotAdmittedIs
use Rattle.wait.specs.declared.Act.TheVariants.{Sleep, SleepUnlessResumed, Yield, LookAgain}
use Rattle.wait.specs.Answers.{dropped_told}
use Rattle.waiting.specs.declared.Completed.{Completed}
use Rattle.waiting.specs.declared.Completed.TheVariants as CompletedIs
use Rattle.waiting.specs.Answers.{begun_told, completed_told, Awaited, awaited_is, awaited_told, course_is, course_told}
use Rattle.crossing.specs.declared.Waited.{Waited}
use Rattle.crossing.specs.Waits.{packed_wait}
use Rattle.crossing.proofs.Packed.{Bare, bare-back}

-- an answer, read back: `width` says how many values it has, by its number and its first value
abbrev pub restored : (ℕ → ℕ → ℕ) → Waited → Answer
restored width t = tell t.number (take (width t.number t.v1) (t.v1 ∷ t.v2 ∷ t.v3 ∷ t.v4 ∷ []))

-- what is read back is known by the six numbers, and so are the turns taken
pub known_by : (width : ℕ → ℕ → ℕ) (s t : Answer) (m n : ℕ) → restored width (packed_wait s m) ≡ s → restored width (packed_wait t n) ≡ t → packed_wait s m ≡ packed_wait t n → (s ≡ t) × (m ≡ n)
known_by width s t m n p q e = (sym p ∙ ap (restored width) e ∙ q, ap (λ (w : Waited). w.taken) e)

-- ---- the widths

abbrev pub begun_width : ℕ → ℕ → ℕ
begun_width n v = if eqb n 6 then 1 else 0

-- of what the host is to do, a sleep has its time, and one unless resumed its epoch too; an admission has its ticket
abbrev pub act_width : ℕ → ℕ
act_width v =
    if eqb v 0 then 3
    else if eqb v 1 then 2
    else if eqb v 2 then 3
    else 1

abbrev pub wait_width : ℕ → ℕ → ℕ
wait_width n v =
    if eqb n 0 then act_width v
    else if eqb n 6 then 2
    else if eqb n 8 then 2
    else if eqb n 9 then 1
    else 0

abbrev pub dropped_width : ℕ → ℕ → ℕ
dropped_width n v = if eqb n 0 then 1 else 0

-- ---- the answers of a wait, whatever was taken

-- an answer is read back where what it tells is
by-back : (width : ℕ → ℕ → ℕ) {A : Type 0} (answer : A → Answer) (n : ℕ) → Bare width → ((a : A) → restored width (packed_wait (answer a) n) ≡ answer a)
    → (x : Result A Refusal) → restored width (packed_wait (told_by answer x) n) ≡ told_by answer x
by-back width answer n bare f (Ok a) = f a
by-back width answer n bare f (Err r) = bare-back width bare r (0 ∷ 0 ∷ 0 ∷ 0 ∷ [])

pub begun-back : (a : Result (Unit {0}) NotAdmitted) (n : ℕ) → restored begun_width (packed_wait (begun_told a) n) ≡ begun_told a
begun-back (Ok u) n = refl
begun-back (Err (NotAdmittedIs.Shed d)) n = refl
begun-back (Err (NotAdmittedIs.Refused r)) n = bare-back begun_width refl r (0 ∷ 0 ∷ 0 ∷ 0 ∷ [])

pub completed-back : (e : Completed) (n : ℕ) → restored wait_width (packed_wait (completed_told e) n) ≡ completed_told e
completed-back (CompletedIs.Admitted t) n = refl
completed-back (CompletedIs.Shed d refund) n = refl
completed-back (CompletedIs.Impossible cost capacity) n = refl
completed-back (CompletedIs.Deadline back) n = refl

pub awaited-back : (a : Result Awaited Refusal) (n : ℕ) → restored wait_width (packed_wait (awaited_told a) n) ≡ awaited_told a
awaited-back a n = by-back wait_width awaited_is n refl back a
  where
    back : (x : Awaited) → restored wait_width (packed_wait (awaited_is x) n) ≡ awaited_is x
    back (Continue (Sleep nanos)) = refl
    back (Continue (SleepUnlessResumed nanos epoch)) = refl
    back (Continue Yield) = refl
    back (Continue LookAgain) = refl
    back (Break e) = completed-back e n

pub course-back : (a : Result (Option Completed) Refusal) (n : ℕ) → restored wait_width (packed_wait (course_told a) n) ≡ course_told a
course-back a n = by-back wait_width course_is n refl back a
  where
    back : (x : Option Completed) → restored wait_width (packed_wait (course_is x) n) ≡ course_is x
    back (Some e) = completed-back e n
    back None = refl

-- a run's course and its count, both: what two runs are told is equal only if these are
pub run-known : (a b : Result (Option Completed) Refusal) (m n : ℕ) → packed_wait (course_told a) m ≡ packed_wait (course_told b) n → (course_told a ≡ course_told b) × (m ≡ n)
run-known a b m n = known_by wait_width (course_told a) (course_told b) m n (course-back a m) (course-back b n)

pub dropped-back : (a : Result ℕ Refusal) (n : ℕ) → restored dropped_width (packed_wait (dropped_told a) n) ≡ dropped_told a
dropped-back a n = by-back dropped_width (λ back. tell 0 (back ∷ [])) n refl (λ back. refl) a
