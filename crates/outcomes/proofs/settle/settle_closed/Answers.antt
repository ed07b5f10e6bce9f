-- `outcomes::settle::settle_closed` meets its contract: what was decided, and its list stored. Assumes nothing.
use Rattle.std.proofs.Common.{ap}
use Rattle.history.specs.Change.{Left}
use Rattle.outcomes.proofs.Settling.{at-state, decided-fits}
use Rattle.outcomes.proofs.settle.settle_closed.Goals as goal

pub returns : goal.returns
returns c =
    λ ok cfg st h.
    let d = rw c.in_ok-decided.was at (c.decide_closed.ensures ok cfg st h) in
    let f = decided-fits cfg st (at-state c.args.b c.args.list.now cfg st h ok) c.args.now_ms c.args.success c.in_ok-decided.decided d in
    (d, ap (λ (l : Left). l.places) ((rw c.change.ensures at (c.store-length.ensures ok cfg st h)) f))
