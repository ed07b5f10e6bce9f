-- `outcomes::settle::settle_locked` meets its contract: in Closed, by what was decided. Assumes nothing.
use Rattle.outcomes.proofs.Settling.{settle-closed}
use Rattle.outcomes.proofs.settle.settle_locked.Goals as goal

pub returns : goal.returns
returns c =
    λ ok cfg st h.
    let d = rw c.in_ok-settle_closed.was at (c.settle_closed.ensures ok cfg st h) in
    settle-closed c.args.b c.args.list.now cfg st c.args.now_ms c.args.t c.args.success h c.if-t-b.false c.if-b-ne-CLOSED.false c.settle_closed.new.list _ d.0 d.1 c.concluded.result
    (c.concluded.ensures cfg st h.0 c.args.success d.0)
