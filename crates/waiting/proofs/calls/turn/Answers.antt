-- `waiting::calls::turn` meets its contract: the turn that ends the wait. Assumes nothing.
use Rattle.std.proofs.Common.{sym, ◌∙◌}
use Rattle.waiting.proofs.Steps.{turn-ends}
use Rattle.waiting.proofs.calls.turn.Goals as goal

pub returns-in-Break : goal.returns-in-Break
returns-in-Break c =
    turn-ends c.args.breaker c.args.list.now (sym c.in_ok-test.was ∙ c.test.ensures) c.args.pending c.in-Break.ending c.args.now_ms c.args.capacity _ _ c.complete-done.ensures
    c.args.turn c.in_ok-turned.turned (sym c.in_ok-turned.was ∙ c.turn.ensures) c.in-Break.is
