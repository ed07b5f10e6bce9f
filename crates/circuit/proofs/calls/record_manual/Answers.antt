-- `circuit::calls::record_manual` meets its contract: the step of a tested breaker. Assumes nothing.
use Rattle.std.proofs.Common.{sym, ◌∙◌}
use Rattle.breaker.specs.Rules as Rules
use Rattle.steps.proofs.Holding.{by-step}
use Rattle.circuit.proofs.calls.record_manual.Goals as goal

pub returns : goal.returns
returns c = by-step (λ p st. Rules.manual p c.args.now_ms c.args.success st) c.args.breaker c.args.list.now (sym c.in_ok-test.was ∙ c.test.ensures) _ c.manual_locked.ensures
