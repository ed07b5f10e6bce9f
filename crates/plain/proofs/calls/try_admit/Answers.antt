-- `plain::calls::try_admit` meets its contract: of a known reply the call by value, told. Assumes nothing.
use mathlib.Core.Path.{ap, ◌∙◌}
use Rattle.breaker.specs.Calls as Calls
use Rattle.crossing.specs.Crossing.{crossed}
use Rattle.plain.proofs.Known.{known}
use Rattle.plain.proofs.calls.try_admit.Goals as goal

pub returns : goal.returns
returns c = c.told.ensures _ ∙ ap crossed (c.try_admit.ensures ∙ known _ _ _ _ (λ d. Calls.try_admit d c.args.capacity c.args.now_ms) _ _ c.known_decision.ensures c.in-Some.is)
