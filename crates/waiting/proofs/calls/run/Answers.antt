-- `waiting::calls::run` meets its contract: the run that ends the wait. Assumes nothing.
use Rattle.std.proofs.Common.{sym, ap, ◌∙◌, Option, Ok}
use Rattle.wait.specs.declared.Ending.{Ending}
use Rattle.waiting.proofs.Steps.{run-ends}
use Rattle.waiting.proofs.calls.run.Goals as goal

pub returns-in-Ok-Some : goal.returns-in-Ok-Some
returns-in-Ok-Some c =
    rw c.proceeding-in-Ok-Some.ensures
    (run-ends c.args.breaker c.args.list.now (sym c.in_default.is ∙ c.test.ensures) c.args.pending c.in-Ok-Some.ending c.args.now_ms c.args.capacity _ _ c.complete-done.ensures
    c.args.turns.now c.args.limit c.run-ran.result c.if-turns-ne0.false c.run-ran.ensures (c.in-Ok-Some.is ∙ ap (λ (x : Option Ending). Ok x) (rw c.in-Ok-Some.is at c.in-Ok-Some.field-0-is)))
