-- `journal::step::made` meets its contract: each call is its step's. Assumes nothing.
use Rattle.std.proofs.Common.{sym, false, ◌∙◌}
use Rattle.error.specs.Told.{nothing}
use Rattle.breaker.specs.Record.{state}
use Rattle.breaker.specs.Rules.{closing}
use Rattle.steps.proofs.Holding.{holds, kept-done}
use Rattle.steps.proofs.Aborting.{given_back}
use Rattle.admission.proofs.Admitting.{passed-shed, admitted-shed, admitted-granted}
use Rattle.lines.specs.declared.Order.TheVariants.{Admit, Success, Failure, Abort, Reset}
use Rattle.journal.specs.Replay.{ordered}
use Rattle.journal.proofs.Stepping.{step_kept}
use Rattle.journal.proofs.step.made.Goals as goal

pub returns-in_err-entered-in-Admit : goal.returns-in_err-entered-in-Admit
returns-in_err-entered-in-Admit c =
    let b = c.args.breaker in
    let s = c.args.list.now in
    let t = c.args.call.reading in
    let d = c.in_err-entered-in-Admit.field-0.0 in
    rw (c.in-Admit.is, passed-shed c.from_residual.result d c.from_residual.ensures)
    (step_kept (ordered Admit t) b s _ c.requires (admitted-shed t b s c.requires false d (sym c.in_err-entered-in-Admit.was ∙ c.admit_as_locked.ensures b.config (state b s) (holds b s c.requires).0)))

pub returns-in_ok-entered-in-Admit : goal.returns-in_ok-entered-in-Admit
returns-in_ok-entered-in-Admit c =
    let b = c.args.breaker in
    let s = c.args.list.now in
    let t = c.args.call.reading in
    let a = c.in_ok-entered-in-Admit.entered in
    rw c.in-Admit.is
    (step_kept (ordered Admit t) b s _ c.requires (admitted-granted t b s c.requires false a.answer a.breaker (sym c.in_ok-entered-in-Admit.was ∙ c.admit_as_locked.ensures b.config (state b s) (holds b s c.requires).0)))

pub returns-in-Success : goal.returns-in-Success
returns-in-Success c =
    let b = c.args.breaker in
    let s = c.args.list.now in
    let k = c.in-Success in
    rw k.is (step_kept (ordered (Success k.ticket) c.args.call.reading) b s _ c.requires (c.finished.ensures b c.settle_locked.new.list ∙ c.settle_locked.ensures c.requires b.config (state b s) (holds b s c.requires)))

pub returns-in-Failure : goal.returns-in-Failure
returns-in-Failure c =
    let b = c.args.breaker in
    let s = c.args.list.now in
    let k = c.in-Failure in
    rw k.is (step_kept (ordered (Failure k.ticket) c.args.call.reading) b s _ c.requires
    (c.finished-in-Failure.ensures b c.settle_locked-in-Failure.new.list ∙ c.settle_locked-in-Failure.ensures c.requires b.config (state b s) (holds b s c.requires)))

pub returns-in-Abort : goal.returns-in-Abort
returns-in-Abort c =
    let b = c.args.breaker in
    let s = c.args.list.now in
    let k = c.in-Abort in
    let h = holds b s c.requires in
    rw k.is (step_kept (ordered (Abort k.ticket) c.args.call.reading) b s _ c.requires
    (c.finished-in-Abort.ensures b s ∙ given_back nothing b.config k.ticket false (state b s) c.abort_locked.result s (c.abort_locked.ensures b.config (state b s) h.0) h.1))

pub returns-in-Reset : goal.returns-in-Reset
returns-in-Reset c =
    let b = c.args.breaker in
    let s = c.args.list.now in
    rw c.in-Reset.is (step_kept (ordered Reset c.args.call.reading) b s _ c.requires
    (c.finished-in-Reset.ensures b c.close.new.list ∙ kept-done b.config (closing (state b s)) c.close.result c.close.new.list (c.close.ensures c.requires b.config (state b s) (holds b s c.requires).0)))
