-- `outcomes::decide::decide_half_open` meets its contract: a success closes or is counted. Assumes nothing.
use Rattle.std.proofs.Common.{◌≡◌, ℕ, ◌+◌, ◌-◌, ◌≤◌, ◌<◌, true, rules, ap, ap₂, ◌∙◌, arith, le-leb}
use native.Mathlib.Nat.{sub-zero}
use borrow.Author.Tests.{lt-leb}
use Rattle.error.proofs.Choice.{byte-bit}
use Rattle.breaker.specs.declared.Counts.{Counts}
use Rattle.breaker.specs.declared.Breaker.{Breaker}
use Rattle.breaker.specs.Record.{stored}
use Rattle.breaker.specs.Rules.{probes, less_counts, with_counts}
use Rattle.outcomes.proofs.decide.decide_half_open.Goals as goal

pub returns-then-b-successes : goal.returns-then-b-successes
returns-then-b-successes c =
    λ cfg st e.
    let ok : c.args.success ≡ true = search rules in
    let l : c.args.b.config.required ≤ c.args.b.shared.counts.successes + 1 = omega arith in
    rw (ok, le-leb _ _ (rw e at l)) (c.closed.ensures cfg st e)

-- the capped number of successes is the number itself where it is tested
pub returns : goal.returns
returns c =
    λ cfg st e.
    let ok : c.args.success ≡ true = search rules in
    let n : c.saturating_add-successes.result ≡ c.args.b.shared.counts.successes + 1 = omega (arith, c.well_formed.0) in
    let l : c.args.b.shared.counts.successes + 1 < c.args.b.config.required = omega arith in
    let i : c.saturating_sub.result ≡ c.args.b.shared.counts.inflight - probes c.args.t =
    c.saturating_sub.ensures ∙ ap (λ (p : ℕ). c.args.b.shared.counts.inflight - p) (c.from.ensures ∙ byte-bit c.args.t.probe) in
    let z : record { inflight = c.saturating_sub.result; trait_probes = c.args.b.shared.counts.trait_probes; successes = c.saturating_add-successes.result } ≡ less_counts (probes c.args.t) 0 1 c.args.b.shared.counts =
    rw sub-zero (ap₂ (λ (x y : ℕ). record { inflight = x; trait_probes = c.args.b.shared.counts.trait_probes; successes = y }) i n) in
    rw (ok, lt-leb _ _ (rw e at l)) (c.with_counts.ensures cfg st e ∙ ap (λ (x : Counts). stored cfg (with_counts x st)) z ∙ ap (λ (x : Breaker). stored cfg (with_counts (less_counts (probes c.args.t) 0 1 x.shared.counts) st)) e)
