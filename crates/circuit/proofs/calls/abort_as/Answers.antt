-- `circuit::calls::abort_as` meets its contract: the step of a tested breaker. Assumes nothing.
use Rattle.std.proofs.Common.{sym, ◌∙◌, refl}
use Rattle.error.specs.Told.{nothing}
use Rattle.breaker.specs.Rules.{aborted}
use Rattle.breaker.specs.Calls as Calls
use Rattle.breaker.proofs.Finishes.{aborted-list}
use Rattle.steps.proofs.Holding.{by-change}
use Rattle.circuit.proofs.calls.abort_as.Goals as goal

pub returns : goal.returns
returns c =
    by-change (Calls.abort_as c.args.ticket c.args.via_trait) c.args.breaker c.args.list.now (sym c.in_ok-test.was ∙ c.test.ensures)
    nothing (aborted c.args.ticket c.args.via_trait) c.abort_locked.result c.abort_locked.ensures (aborted-list c.args.ticket c.args.via_trait) (λ st. refl)
