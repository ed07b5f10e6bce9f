-- `admission::limiter::reserve` meets its contract: each answer of the admission with the inner reply. Assumes nothing.
use Rattle.std.proofs.Common.{refl, sym, ◌∙◌, true, if◌then◌else◌}
use Rattle.std.specs.Option.{is_some}
use Rattle.breaker.specs.Rules.{admit_as, aborted}
use Rattle.breaker.specs.Calls.{reserve_inner}
use Rattle.admission.proofs.Admitting.{call-shed, call-granted, admit_as-keeps, handed-list}
use Rattle.admission.proofs.limiter.reserve.Goals as goal

pub returns-in-Err : goal.returns-in-Err
returns-in-Err c =
    call-shed c.args.breaker c.args.list.now (sym c.in_ok-test.was ∙ c.test.ensures) (λ p st. admit_as true p c.args.now_ms st) (λ p st. admit_as-keeps true p c.args.now_ms st)
    c.admit_as_locked.result c.admit_as_locked.ensures (reserve_inner c.args.inner) _ c.in-Err.field-0 c.in-Err.is refl

pub returns-in-Ok : goal.returns-in-Ok
returns-in-Ok c =
    call-granted c.args.breaker c.args.list.now (sym c.in_ok-test.was ∙ c.test.ensures) (λ p st. admit_as true p c.args.now_ms st) (λ p st. admit_as-keeps true p c.args.now_ms st)
    c.admit_as_locked.result c.admit_as_locked.ensures (reserve_inner c.args.inner) _ c.in-Ok.admitted c.in-Ok.is c.handed_on.result (λ st. if is_some c.args.inner then st else aborted c.in-Ok.admitted.answer true st)
    (rw c.is_some.ensures at c.handed_on.ensures) (handed-list (is_some c.args.inner) c.in-Ok.admitted.answer) (λ st. refl)
