-- `outcomes::settle::settle_unclosed` meets its contract: the list is emptied where it closes. Assumes nothing.
use Rattle.std.proofs.Common.{ap, sym, ◌∙◌}
use Rattle.breaker.specs.declared.Breaker.{Breaker}
use Rattle.breaker.specs.Record.{settings}
use Rattle.outcomes.proofs.Settling.{settled-emptied}
use Rattle.outcomes.proofs.settle.settle_unclosed.Goals as goal

pub returns-then-next-eq-CLOSED : goal.returns-then-next-eq-CLOSED
returns-then-next-eq-CLOSED c =
    λ m ok cfg st h.
    let made = c.decide_unclosed-next.ensures m cfg st h.0 in
    let k = sym (ap (λ (x : Breaker). x.shared.state) made.1) ∙ c.if-next-eq-CLOSED.true in
    rw (made.0, made.1, c.emptied.ensures ok, settled-emptied (settings cfg) c.args.now_ms c.args.t c.args.success st (rw h.0 at m) k)
