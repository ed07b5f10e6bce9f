-- `outcomes::settle::manual_locked` meets its contract: a settle, with a trait probe used up or not. Assumes nothing.
use Rattle.std.proofs.Common.{◌≡◌, ◌-◌, ap, ◌∙◌, arith, add-zero}
use Rattle.std.proofs.Math.Nat.{sub-zero}
use Rattle.breaker.specs.declared.Breaker.{Breaker}
use Rattle.breaker.specs.declared.Counts.{Counts}
use Rattle.breaker.specs.Rules.{less_counts, with_counts}
use Rattle.outcomes.proofs.Settling.{manual-idle, manual-one, used_sound}
use Rattle.outcomes.proofs.settle.manual_locked.Goals as goal

pub returns-then-b-ne-HALF_OPEN : goal.returns-then-b-ne-HALF_OPEN
returns-then-b-ne-HALF_OPEN c =
    λ ok cfg st h. c.settle_locked.ensures ok cfg st h ∙ manual-idle c.args.b c.args.list.now cfg st c.args.now_ms c.args.success h c.then-b-ne-HALF_OPEN.either

pub returns : goal.returns
returns c =
    λ ok cfg st h.
    let used : Counts = record { inflight = c.args.b.shared.counts.inflight; trait_probes = c.args.b.shared.counts.trait_probes - 1; successes = c.args.b.shared.counts.successes } in
    let q : used ≡ less_counts 0 1 0 c.args.b.shared.counts = rw (sub-zero, add-zero) in
    let next = c.with_counts.ensures cfg st h.0 in
    let half : c.with_counts.result.shared.state ≡ 1 = ap (λ (x : Breaker). x.shared.state) next ∙ (rw h.0 at c.if-b-ne-HALF_OPEN.false) in
    c.settle_unclosed-next.ensures (λ k. omega arith) (used_sound c.args.b c.args.list.now cfg st c.args.now_ms c.args.success h c.if-b-ne-HALF_OPEN.false c.if-counts-eq0.false used q ok c.with_counts.result next) cfg (with_counts used st) (next, h.1)
    ∙ manual-one c.args.b c.args.list.now cfg st c.args.now_ms c.args.success h c.if-b-ne-HALF_OPEN.false c.if-counts-eq0.false used q
