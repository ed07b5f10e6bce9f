-- `circuit::calls::reset` meets its contract: the closing of a tested breaker. Assumes nothing.
use Rattle.std.proofs.Common.{sym, ◌∙◌}
use Rattle.breaker.specs.Rules as Rules
use Rattle.steps.proofs.Holding.{by-step, kept-done}
use Rattle.circuit.proofs.calls.reset.Goals as goal

pub returns : goal.returns
returns c =
    by-step (λ p st. Rules.reset st) c.args.breaker c.args.list.now (sym c.in_ok-test.was ∙ c.test.ensures) _
    (λ ok cfg st h. kept-done cfg (Rules.closing st) c.close.result c.close.new.list (c.close.ensures ok cfg st h.0))
