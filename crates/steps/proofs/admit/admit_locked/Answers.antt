-- `steps::admit::admit_locked` meets its contract: each answer from the tests on its way. Assumes nothing.
use Rattle.std.proofs.Common.{ap, ◌∙◌, Ok, Err}
use Rattle.breaker.specs.declared.Answered.{Answered}
use Rattle.breaker.specs.declared.Breaker.{Breaker}
use Rattle.breaker.specs.declared.Counts.{Counts}
use Rattle.breaker.specs.declared.Delay.{Delay}
use Rattle.breaker.specs.declared.Ticket.{Ticket}
use Rattle.breaker.specs.Record.{stored}
use Rattle.breaker.specs.Rules.{no_counts, one_more_trial, moved, with_counts}
use Rattle.steps.proofs.Entering.{enter-closed, enter-early, enter-half, enter-trial, enter-full}
use Rattle.steps.proofs.admit.admit_locked.Goals as goal

pub returns-then-h-eq-CLOSED : goal.returns-then-h-eq-CLOSED
returns-then-h-eq-CLOSED c = λ cfg st e. ap (λ (x : Answered Ticket). Ok x) c.granted.ensures ∙ enter-closed c.args.b cfg st c.args.now_ms e c.if-h-eq-CLOSED.true

pub returns-then-now_ms-h : goal.returns-then-now_ms-h
returns-then-now_ms-h c =
    λ cfg st e. ap (λ (d : Delay). Err d) c.delayed.ensures ∙ enter-early c.args.b cfg st c.args.now_ms e c.if-h-eq-CLOSED.false c.if-h-eq-OPEN.true c.if-now_ms-h.true

pub returns-then-h-eq-OPEN : goal.returns-then-h-eq-OPEN
returns-then-h-eq-OPEN c =
    λ cfg st e. ap (λ (x : Answered Ticket). Ok x) c.granted-then-h-eq-OPEN.ensures ∙ enter-half c.args.b cfg st c.args.now_ms e c.if-h-eq-CLOSED.false c.if-h-eq-OPEN.true c.if-now_ms-h.false c.transition.result
    (c.transition.ensures cfg (with_counts (one_more_trial no_counts) st) (c.with_counts.ensures cfg st e ∙ ap (λ (x : Counts). stored cfg (with_counts (record { inflight = 1; trait_probes = x.trait_probes; successes = x.successes }) st)) c.no_counts.ensures)
    ∙ ap (λ (x : Breaker). stored cfg (moved 1 x.shared.open_until (with_counts (one_more_trial no_counts) st))) e)

pub returns : goal.returns
returns c =
    λ cfg st e. ap (λ (x : Answered Ticket). Ok x) c.granted-2.ensures ∙ enter-trial c.args.b cfg st c.args.now_ms e c.if-h-eq-CLOSED.false c.if-h-eq-OPEN.false c.if-h-b.false c.with_counts-2.result (c.with_counts-2.ensures cfg st e)

pub returns-then-h-b : goal.returns-then-h-b
returns-then-h-b c =
    λ cfg st e. ap (λ (d : Delay). Err d) c.delayed-then-h-b.ensures ∙ enter-full c.args.b cfg st c.args.now_ms e c.if-h-eq-CLOSED.false c.if-h-eq-OPEN.false c.if-h-b.true
