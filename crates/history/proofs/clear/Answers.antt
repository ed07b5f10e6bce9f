-- `history::clear` meets its contract: all items are the oldest, and go. Assumes nothing.
use Rattle.history.proofs.Change.{emptied}
use Rattle.history.proofs.clear.Goals as goal

pub returns : goal.returns
returns c =
    let h = c.in_ok-n.ensures.held in
    rw (← h.0) (emptied c.in_ok-n.n c.args.list.now h.2 h.1 _ c.remove.ensures)
