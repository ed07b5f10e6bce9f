-- "What a caller is told": for each answer of a wait before a breaker, the table's number and values of each case.
use Rattle.std.specs.Prelude.{[], ◌∷◌, ◌++◌, Option, Some, None, Result}
use Rattle.std.specs.declared.ops.ControlFlow.{ControlFlow}
use Rattle.std.specs.declared.ops.ControlFlow.TheVariants.{Continue, Break}
use Rattle.error.specs.Told.{Told, tell, nothing, told_by, told_or}
use Rattle.error.specs.declared.Refusal.{Refusal}
use Rattle.breaker.specs.declared.NotAdmitted.{NotAdmitted}
use Rattle.breaker.specs.Answers.{ticket_values, delay_values, not_admitted}
use Rattle.wait.specs.declared.Act.{Act}
use Rattle.wait.specs.Answers.{act_values}
use Rattle.waiting.specs.declared.Completed.{Completed}
use Rattle.waiting.specs.declared.Completed.TheVariants as CompletedIs

abbrev pub begun_told : Result (Unit {0}) NotAdmitted → Told
begun_told = told_or (λ _. nothing) not_admitted

-- done is 0, then the ticket (1 to 4 are what the host is to do); a shed has what to refund after its delay;
-- "inner impossible … | 8 | cost 1, capacity", "deadline | 9 | give-back 0 or 1"
abbrev pub completed_told : Completed → Told
completed_told (CompletedIs.Admitted t) = tell 0 (0 ∷ ticket_values t)
completed_told (CompletedIs.Shed d refund) = tell 6 (delay_values d ++ (refund ∷ []))
completed_told (CompletedIs.Impossible cost capacity) = tell 8 (cost ∷ capacity ∷ [])
completed_told (CompletedIs.Deadline back) = tell 9 (back ∷ [])

-- what a turn comes to: something to do before the next, or the end
abbrev pub Awaited : Type 0
Awaited = ControlFlow Completed Act

abbrev pub awaited_is : Awaited → Told
awaited_is (Continue act) = tell 0 (act_values act)
awaited_is (Break e) = completed_told e

abbrev pub awaited_told : Result Awaited Refusal → Told
awaited_told = told_by awaited_is

-- "run's limit or its turns used up, wait not ended | 10"
abbrev pub course_is : Option Completed → Told
course_is (Some e) = completed_told e
course_is None = tell 10 []

abbrev pub course_told : Result (Option Completed) Refusal → Told
course_told = told_by course_is
