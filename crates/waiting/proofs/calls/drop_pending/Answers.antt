-- `waiting::calls::drop_pending` meets its contract: the wait's own drop, and the abort. Assumes nothing.
use Rattle.std.proofs.Common.{sym, ◌∙◌}
use Rattle.waiting.proofs.Steps.{drop-gives}
use Rattle.waiting.proofs.calls.drop_pending.Goals as goal

pub returns : goal.returns
returns c =
    drop-gives c.args.breaker c.args.list.now (sym c.in_ok-test.was ∙ c.test.ensures) c.args.pending c.in_ok-dropped.dropped c.abort_locked.result (sym c.in_ok-dropped.was ∙ c.drop_wait.ensures) c.abort_locked.ensures
