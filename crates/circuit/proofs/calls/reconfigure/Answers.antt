-- `circuit::calls::reconfigure` meets its contract: what the builder made of a tested breaker, in the next generation. Assumes nothing.
use Rattle.std.proofs.Common.{sym, ◌∙◌}
use Rattle.error.proofs.Passed.{passed}
use Rattle.breaker.proofs.Guard.{tested-sound}
use Rattle.circuit.proofs.Renewing.{renew-refused, renew-done}
use Rattle.circuit.proofs.calls.reconfigure.Goals as goal

pub returns-in_err-fresh : goal.returns-in_err-fresh
returns-in_err-fresh c =
    let b = c.args.breaker in
    let s = c.args.list.now in
    rw (passed c.from_residual-in_err-fresh.result c.in_err-fresh.field-0.0 c.from_residual-in_err-fresh.ensures)
    (renew-refused c.args.builder b s (tested-sound b s (sym c.in_ok-test.was ∙ c.test.ensures)) c.build.result c.build.new.list (c.build.ensures b) c.in_err-fresh.field-0.0 c.in_err-fresh.was)

pub returns : goal.returns
returns c =
    let b = c.args.breaker in
    let s = c.args.list.now in
    renew-done c.args.builder b s (tested-sound b s (sym c.in_ok-test.was ∙ c.test.ensures)) c.build.result c.build.new.list (c.build.ensures b) c.in_ok-fresh.fresh c.renewed.result c.in_ok-fresh.was c.renewed.ensures
