-- `outcomes::settle::close` meets its contract: the list is emptied, and the record closed. Assumes nothing.
use Rattle.outcomes.proofs.settle.close.Goals as goal

pub returns : goal.returns
returns c = λ ok cfg st e. (c.closed.ensures cfg st e, c.emptied.ensures ok)
