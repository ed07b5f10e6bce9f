-- `trip::board_figure` meets its contract: each `return` is what the test on its way makes of the definition. Assumes nothing.
use borrow.Author.Tests.{eq-eqb, ne_eqb}
use Rattle.trip.proofs.board_figure.Goals as goal

pub returns-then-calls-eq0 : goal.returns-then-calls-eq0
returns-then-calls-eq0 c = simp (eq-eqb _ _ c.if-calls-eq0.true)

pub returns : goal.returns
returns c = rw (c.from.ensures, c.from-2.ensures) (simp (ne_eqb _ _ c.if-calls-eq0.false))
