-- `waiting::calls::start` meets its contract: the admission of a wait that was made. Assumes nothing.
use Rattle.std.proofs.Common.{sym, ◌∙◌}
use Rattle.admission.proofs.Admitting.{passed-shed}
use Rattle.waiting.proofs.Steps.{start-granted, start-shed}
use Rattle.waiting.proofs.calls.start.Goals as goal

pub returns-in_err-admitted : goal.returns-in_err-admitted
returns-in_err-admitted c p =
    rw (passed-shed c.from_residual-in_err-admitted.result c.in_err-admitted.field-0.0 c.from_residual-in_err-admitted.ensures)
    (start-shed c.args.breaker c.args.list.now (sym c.in_ok-test.was ∙ c.test.ensures) p c.args.now_ms c.args.clock c.args.limited c.args.timeout c.in_ok-wait.wait (sym c.in_ok-wait.was ∙ c.start.ensures)
    c.admit_as_locked.result c.admit_as_locked.ensures c.in_err-admitted.field-0.0 c.in_err-admitted.was)

pub returns : goal.returns
returns c p =
    start-granted c.args.breaker c.args.list.now (sym c.in_ok-test.was ∙ c.test.ensures) p c.args.now_ms c.args.clock c.args.limited c.args.timeout c.in_ok-wait.wait (sym c.in_ok-wait.was ∙ c.start.ensures)
    c.admit_as_locked.result c.admit_as_locked.ensures c.in_ok-admitted.admitted c.in_ok-admitted.was
