-- `steps::admit::still_admits_locked` meets its contract: each answer from the tests on its way. Assumes nothing.
use Rattle.std.proofs.Common.{ℕ, ap, ◌∙◌, Err}
use Rattle.breaker.specs.declared.Delay.{Delay}
use Rattle.breaker.specs.Answers.{delay_of}
use Rattle.steps.proofs.Entering.{still-goes, still_open, still-half}
use Rattle.steps.proofs.admit.still_admits_locked.Goals as goal

pub returns-then-ticket-h : goal.returns-then-ticket-h
returns-then-ticket-h c = λ cfg st e. still-goes c.args.b cfg st c.args.now_ms e c.args.ticket c.then-ticket-h.either

pub returns-then-h-eq-OPEN : goal.returns-then-h-eq-OPEN
returns-then-h-eq-OPEN c =
    λ cfg st e. ap (λ (d : Delay). Err d) (c.delayed.ensures ∙ ap (λ (n : ℕ). delay_of n) c.saturating_sub.ensures) ∙ still_open c.args.b cfg st c.args.now_ms e c.args.ticket c.if-ticket-h.false c.if-h-eq-CLOSED.false c.if-h-eq-OPEN.true

pub returns : goal.returns
returns c =
    λ cfg st e. ap (λ (d : Delay). Err d) c.delayed-2.ensures ∙ still-half c.args.b cfg st c.args.now_ms e c.args.ticket c.if-ticket-h.false c.if-h-eq-CLOSED.false c.if-h-eq-OPEN.false
