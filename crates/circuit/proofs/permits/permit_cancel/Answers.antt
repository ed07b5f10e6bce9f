-- `circuit::permits::permit_cancel` meets its contract: the abort of a tested breaker, with its notice. Assumes nothing.
use Rattle.std.proofs.Common.{sym, ◌∙◌, refl, Ok, false}
use Rattle.breaker.specs.Answers.{notice_told}
use Rattle.breaker.specs.Rules.{aborted}
use Rattle.breaker.specs.Calls as Calls
use Rattle.breaker.proofs.Finishes.{aborted-list}
use Rattle.steps.proofs.Holding.{by-change}
use Rattle.circuit.proofs.permits.permit_cancel.Goals as goal

pub returns : goal.returns
returns c =
    by-change (Calls.cancel c.args.ticket) c.args.breaker c.args.list.now (sym c.in_ok-test.was ∙ c.test.ensures)
    (notice_told (Ok 1)) (aborted c.args.ticket false) c.abort_locked.result c.abort_locked.ensures (aborted-list c.args.ticket false) (λ st. refl)
