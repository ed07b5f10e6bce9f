-- `circuit::calls::settle` meets its contract: the step of a tested breaker. Assumes nothing.
use Rattle.std.proofs.Common.{sym, ◌∙◌}
use Rattle.breaker.specs.Calls as Calls
use Rattle.steps.proofs.Holding.{by-step}
use Rattle.circuit.proofs.calls.settle.Goals as goal

pub returns : goal.returns
returns c = by-step (Calls.settle c.args.now_ms c.args.ticket c.args.success) c.args.breaker c.args.list.now (sym c.in_ok-test.was ∙ c.test.ensures) _ c.settle_locked.ensures
