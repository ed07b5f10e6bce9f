-- `admission::limiter::peek` meets its contract: each answer of the admission. Assumes nothing.
use Rattle.std.proofs.Common.{refl, sym, ◌∙◌}
use Rattle.breaker.specs.Rules.{admit}
use Rattle.breaker.specs.Calls.{decided, peeked}
use Rattle.admission.proofs.Admitting.{read-shed, read-granted}
use Rattle.admission.proofs.limiter.peek.Goals as goal

pub returns-in-Ok : goal.returns-in-Ok
returns-in-Ok c =
    read-granted c.args.breaker c.args.list.now (sym c.in_ok-test.was ∙ c.test.ensures) (λ p st. admit p c.args.now_ms st) c.admit_locked.result c.admit_locked.ensures
    (λ a. decided (peeked c.args.inner a)) c.in-Ok.field-0 c.in-Ok.is _ (λ st. refl)

pub returns-in-Err : goal.returns-in-Err
returns-in-Err c =
    read-shed c.args.breaker c.args.list.now (sym c.in_ok-test.was ∙ c.test.ensures) (λ p st. admit p c.args.now_ms st) c.admit_locked.result c.admit_locked.ensures
    (λ a. decided (peeked c.args.inner a)) c.in-Err.delay c.in-Err.is
