-- `admission::calls::still_admits` meets its contract: what the step answers, told. Assumes nothing.
use Rattle.std.proofs.Common.{sym, ◌∙◌}
use Rattle.admission.proofs.Admitting.{passed-shed, stands}
use Rattle.admission.proofs.calls.still_admits.Goals as goal

pub returns-in_err-still_admits_locked : goal.returns-in_err-still_admits_locked
returns-in_err-still_admits_locked c =
    rw (passed-shed c.from_residual-in_err-still_admits_locked.result c.in_err-still_admits_locked.field-0.0 c.from_residual-in_err-still_admits_locked.ensures)
    (stands c.args.breaker c.args.list.now (sym c.in_ok-test.was ∙ c.test.ensures) c.args.now_ms c.args.ticket _ (λ cfg st e. sym c.in_err-still_admits_locked.was ∙ c.still_admits_locked.ensures cfg st e))

pub returns : goal.returns
returns c = stands c.args.breaker c.args.list.now (sym c.in_ok-test.was ∙ c.test.ensures) c.args.now_ms c.args.ticket _ (λ cfg st e. sym c.in_ok-still_admits_locked.was ∙ c.still_admits_locked.ensures cfg st e)
