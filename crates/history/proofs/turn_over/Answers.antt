-- `history::turn_over` meets its contract: the refusals, the items that stay, and one more. Assumes nothing.
use Rattle.history.proofs.Change.{turned-full, turned-over}
use Rattle.history.proofs.turn_over.Goals as goal

pub returns-then-kept-eq-PLACES : goal.returns-then-kept-eq-PLACES
returns-then-kept-eq-PLACES c =
    let h = c.in_ok-n.ensures.held in
    rw (← h.0) (turned-full c.args.gone c.in_ok-n.n c.min-k.result c.args.list.now h.2 h.1 c.min-k.ensures c.if-kept-eq-PLACES.true c.args.item)

pub returns : goal.returns
returns c =
    let h = c.in_ok-n.ensures.held in
    rw (← h.0) (turned-over c.args.gone c.in_ok-n.n c.min-k.result c.args.list.now h.2 h.1 c.min-k.ensures c.if-kept-eq-PLACES.false c.args.item _ c.remove.ensures)
