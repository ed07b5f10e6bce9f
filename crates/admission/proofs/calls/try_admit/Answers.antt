-- `admission::calls::try_admit` meets its contract: each answer of the admission with the inner reply. Assumes nothing.
use Rattle.std.proofs.Common.{sym, ◌∙◌, false, refl}
use Rattle.breaker.specs.Rules.{admit, aborted}
use Rattle.breaker.specs.Calls.{try_inner}
use Rattle.breaker.proofs.Finishes.{aborted-list}
use Rattle.admission.proofs.Admitting.{call-shed, call-granted, passed-shed, admit-keeps, tried-shed}
use Rattle.admission.proofs.calls.try_admit.Goals.{in-Retry, in-Impossible}
use Rattle.admission.proofs.calls.try_admit.Goals as goal

pub returns-in_err-admitted : goal.returns-in_err-admitted
returns-in_err-admitted c =
    rw (passed-shed c.from_residual-in_err-admitted.result c.in_err-admitted.field-0.0 c.from_residual-in_err-admitted.ensures)
    (call-shed c.args.breaker c.args.list.now (sym c.in_ok-test.was ∙ c.test.ensures) (λ p st. admit p c.args.now_ms st) (λ p st. admit-keeps p c.args.now_ms st)
    c.admit_locked.result c.admit_locked.ensures (try_inner c.args.inner c.args.capacity) _ c.in_err-admitted.field-0.0 c.in_err-admitted.was (tried-shed c.args.inner c.args.capacity c.in_err-admitted.field-0.0 _))

pub returns-in-Acquired : goal.returns-in-Acquired
returns-in-Acquired c =
    call-granted c.args.breaker c.args.list.now (sym c.in_ok-test.was ∙ c.test.ensures) (λ p st. admit p c.args.now_ms st) (λ p st. admit-keeps p c.args.now_ms st)
    c.admit_locked.result c.admit_locked.ensures (try_inner c.args.inner c.args.capacity) _ c.in_ok-admitted.admitted c.in_ok-admitted.was c.in_ok-admitted.admitted.breaker (λ st. st) (λ c st q. q) (λ st. refl)
    (λ st. rw c.in-Acquired.is)

pub returns : goal.returns
returns c =
    call-granted c.args.breaker c.args.list.now (sym c.in_ok-test.was ∙ c.test.ensures) (λ p st. admit p c.args.now_ms st) (λ p st. admit-keeps p c.args.now_ms st)
    c.admit_locked.result c.admit_locked.ensures (try_inner c.args.inner c.args.capacity) _ c.in_ok-admitted.admitted c.in_ok-admitted.was c.abort_locked.result (aborted c.in_ok-admitted.admitted.answer false)
    c.abort_locked.ensures (aborted-list c.in_ok-admitted.admitted.answer false)
    (λ st. elim c.match-inner.branch [ in-Retry w ↦ rw (w.in-Retry.is, w.answer-is) | in-Impossible w ↦ rw (w.in-Impossible.is, w.answer-is) ])
