-- `history::drop_oldest` meets its contract: the refusals, and the items that stay. Assumes nothing.
use Rattle.history.proofs.Change.{dropped}
use Rattle.history.proofs.drop_oldest.Goals as goal

pub returns : goal.returns
returns c =
    let h = c.in_ok-n.ensures.held in
    rw (← h.0) (dropped c.args.gone c.in_ok-n.n c.min-k.result c.args.list.now h.2 h.1 c.min-k.ensures _ c.remove.ensures)
