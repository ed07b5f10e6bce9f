-- What `Tell` says of each answer is what the specs of breaker, checkpoints, wait and waiting say is told of it. Assumes nothing.
use Rattle.std.proofs.Common.{◌≡◌, ℕ, refl, Option, Result, Ok, Err, Continue, Break}
use denote.RattleType.{RattleType}
use Rattle.std.specs.declared.ops.ControlFlow.{ControlFlow}
use mir.Syntax.{Dict}
use Rattle.error.specs.Told.{told_or}
use Rattle.error.specs.declared.Refusal.{Refusal}
use Rattle.breaker.specs.declared.Ticket.{Ticket}
use Rattle.breaker.specs.declared.Delay.{Delay}
use Rattle.breaker.specs.declared.NotAdmitted.{NotAdmitted}
use Rattle.breaker.specs.declared.Tried.{Tried}
use Rattle.breaker.specs.declared.Decision.{Decision}
use Rattle.breaker.specs.Answers.{admission_told, finished_told, tried_told, standing_told, notice_told, decided_told, reserved_told, counted_told}
use Rattle.checkpoints.specs.Calls.{saving_told}
use Rattle.wait.specs.Answers.{dropped_told}
use Rattle.waiting.specs.declared.Completed.{Completed}
use Rattle.waiting.specs.Answers.{begun_told, Awaited, awaited_told, course_told}
use Rattle.crossing.specs.Waits.{flow_told}
use Rattle.crossing.specs.declared.tell.Tell as Tell
use Rattle.crossing.specs.contracts.tell.ResultTell.TheImpl as ResultTell
use Rattle.crossing.specs.contracts.tell.RefusalTell.TheImpl as RefusalTell
use Rattle.crossing.specs.contracts.tell.NotAdmittedTell.TheImpl as NotAdmittedTell
use Rattle.crossing.specs.contracts.tell.UnitTell.TheImpl as UnitTell
use Rattle.crossing.specs.contracts.tell.U32Tell.TheImpl as U32Tell
use Rattle.crossing.specs.contracts.tell.U64Tell.TheImpl as U64Tell
use Rattle.crossing.specs.contracts.tell.UsizeTell.TheImpl as UsizeTell
use Rattle.crossing.specs.contracts.tell.TicketTell.TheImpl as TicketTell
use Rattle.crossing.specs.contracts.tell.TriedTell.TheImpl as TriedTell
use Rattle.crossing.specs.contracts.tell.DecisionTell.TheImpl as DecisionTell
use Rattle.crossing.specs.contracts.tell.OptionDelayTell.TheImpl as OptionDelayTell
use Rattle.crossing.specs.contracts.waits.CompletedTell.TheImpl as CompletedTell
use Rattle.crossing.specs.contracts.waits.ActTell.TheImpl as ActTell
use Rattle.crossing.specs.contracts.waits.ControlFlowTell.TheImpl as ControlFlowTell
use Rattle.crossing.specs.contracts.waits.OptionCompletedTell.TheImpl as OptionCompletedTell

-- of a result, what is told of its answer, or of what stands in its place
pub result : (A E : RattleType) (answer : Tell.Ghosts A.Denot) (d : Dict) (instead : Tell.Ghosts E.Denot) (e : Dict) (r : Result A.Denot E.Denot)
    → (ResultTell.ghosts A E answer d instead e).told r ≡ told_or answer.told instead.told r
result A E answer d instead e r = refl

-- of a turn, what is told of how the wait ends, or of what the host is to do
pub flow : (E A : RattleType) (ends : Tell.Ghosts E.Denot) (e : Dict) (goes : Tell.Ghosts A.Denot) (d : Dict) (x : ControlFlow E.Denot A.Denot)
    → (ControlFlowTell.ghosts E A ends e goes d).told x ≡ flow_told ends.told goes.told x
flow E A ends e goes d x = refl

-- ---- the breaker's calls

pub admission : (r : Result Ticket NotAdmitted) → told_or TicketTell.ghosts.told NotAdmittedTell.ghosts.told r ≡ admission_told r
admission r = refl

pub tried : (r : Result Tried NotAdmitted) → told_or TriedTell.ghosts.told NotAdmittedTell.ghosts.told r ≡ tried_told r
tried r = refl

pub standing : (r : Result (Unit {0}) NotAdmitted) → told_or UnitTell.ghosts.told NotAdmittedTell.ghosts.told r ≡ standing_told r
standing r = refl

pub finished : (r : Result (Unit {0}) Refusal) → told_or UnitTell.ghosts.told RefusalTell.ghosts.told r ≡ finished_told r
finished r = refl

pub notice : (r : Result ℕ Refusal) → told_or U32Tell.ghosts.told RefusalTell.ghosts.told r ≡ notice_told r
notice r = refl

pub decided : (r : Result Decision Refusal) → told_or DecisionTell.ghosts.told RefusalTell.ghosts.told r ≡ decided_told r
decided r = refl

pub reserved : (r : Result (Option Delay) Refusal) → told_or OptionDelayTell.ghosts.told RefusalTell.ghosts.told r ≡ reserved_told r
reserved r = refl

pub counted : (r : Result ℕ Refusal) → told_or U64Tell.ghosts.told RefusalTell.ghosts.told r ≡ counted_told r
counted r = refl

pub saving : (r : Result ℕ Refusal) → told_or UsizeTell.ghosts.told RefusalTell.ghosts.told r ≡ saving_told r
saving r = refl

-- ---- a wait's

pub begun : (r : Result (Unit {0}) NotAdmitted) → told_or UnitTell.ghosts.told NotAdmittedTell.ghosts.told r ≡ begun_told r
begun r = refl

pub awaited : (r : Result Awaited Refusal) → told_or (flow_told CompletedTell.ghosts.told ActTell.ghosts.told) RefusalTell.ghosts.told r ≡ awaited_told r
awaited (Ok (Continue act)) = refl
awaited (Ok (Break e)) = refl
awaited (Err r) = refl

pub course : (r : Result (Option Completed) Refusal) → told_or OptionCompletedTell.ghosts.told RefusalTell.ghosts.told r ≡ course_told r
course r = refl

pub dropped : (r : Result ℕ Refusal) → told_or U64Tell.ghosts.told RefusalTell.ghosts.told r ≡ dropped_told r
dropped r = refl
