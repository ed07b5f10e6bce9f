-- `outcomes::decide::decide_settle` meets its contract: in Closed, by what was decided. Assumes nothing.
use Rattle.breaker.specs.Record.{settings}
use Rattle.breaker.proofs.Finishes.{settled-closed}
use Rattle.outcomes.proofs.decide.decide_settle.Goals as goal

pub returns : goal.returns
returns c =
    λ ok cfg st h. rw (settled-closed (settings cfg) c.args.now_ms c.args.t c.args.success st (rw h.0 at c.if-t-b.false) (rw h.0 at c.if-b-ne-CLOSED.false))
    (c.concluded.ensures cfg st h.0 c.args.success (rw c.in_ok-decide_closed.was at (c.decide_closed.ensures ok cfg st h)))
