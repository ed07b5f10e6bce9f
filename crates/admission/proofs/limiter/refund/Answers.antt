-- `admission::limiter::refund` meets its contract: the step, once the breaker is tested. Assumes nothing.
use Rattle.std.proofs.Common.{refl, sym, ◌∙◌}
use Rattle.breaker.specs.Rules.{released}
use Rattle.breaker.specs.Calls as Calls
use Rattle.steps.proofs.Aborting.{released-list}
use Rattle.steps.proofs.Holding.{by-change}
use Rattle.admission.proofs.limiter.refund.Goals as goal

pub returns : goal.returns
returns c = by-change (Calls.refund c.args.cost) c.args.breaker c.args.list.now (sym c.in_ok-test.was ∙ c.test.ensures) _ released c.release_locked.result c.release_locked.ensures released-list (λ st. refl)
