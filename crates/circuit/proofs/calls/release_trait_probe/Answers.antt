-- `circuit::calls::release_trait_probe` meets its contract: the step of a tested breaker. Assumes nothing.
use Rattle.std.proofs.Common.{sym, ◌∙◌, refl}
use Rattle.error.specs.Told.{nothing}
use Rattle.breaker.specs.Rules as Rules
use Rattle.steps.proofs.Holding.{by-change}
use Rattle.steps.proofs.Aborting.{released-list}
use Rattle.circuit.proofs.calls.release_trait_probe.Goals as goal

pub returns : goal.returns
returns c =
    by-change (λ p st. Rules.done (Rules.released st)) c.args.breaker c.args.list.now (sym c.in_ok-test.was ∙ c.test.ensures)
    nothing Rules.released c.release_locked.result c.release_locked.ensures released-list (λ st. refl)
