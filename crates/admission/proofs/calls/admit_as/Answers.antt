-- `admission::calls::admit_as` meets its contract: each answer of the step, once the breaker is tested. Assumes nothing.
use Rattle.std.proofs.Common.{refl, sym, ◌∙◌}
use Rattle.breaker.specs.Rules.{admit_as}
use Rattle.breaker.specs.Calls.{answered}
use Rattle.admission.proofs.Admitting.{call-shed, call-granted, passed-shed, admit_as-keeps}
use Rattle.admission.proofs.calls.admit_as.Goals as goal

pub returns-in_err-admit_as_locked : goal.returns-in_err-admit_as_locked
returns-in_err-admit_as_locked c =
    rw (passed-shed c.from_residual-in_err-admit_as_locked.result c.in_err-admit_as_locked.field-0.0 c.from_residual-in_err-admit_as_locked.ensures)
    (call-shed c.args.breaker c.args.list.now (sym c.in_ok-test.was ∙ c.test.ensures) (λ p st. admit_as c.args.via_trait p c.args.now_ms st) (λ p st. admit_as-keeps c.args.via_trait p c.args.now_ms st)
    c.admit_as_locked.result c.admit_as_locked.ensures answered _ c.in_err-admit_as_locked.field-0.0 c.in_err-admit_as_locked.was refl)

pub returns : goal.returns
returns c =
    call-granted c.args.breaker c.args.list.now (sym c.in_ok-test.was ∙ c.test.ensures) (λ p st. admit_as c.args.via_trait p c.args.now_ms st) (λ p st. admit_as-keeps c.args.via_trait p c.args.now_ms st)
    c.admit_as_locked.result c.admit_as_locked.ensures answered _ c.in_ok-admit_as_locked.field-0 c.in_ok-admit_as_locked.was c.in_ok-admit_as_locked.field-0.breaker (λ st. st) (λ c st q. q) (λ st. refl) (λ st. refl)
