-- `steps::admit::admit_as_locked` meets its contract: the plain admission, and a trait probe noted. Assumes nothing.
use Rattle.std.proofs.Common.{ℕ, Bool, sym, ap, ◌∙◌}
use borrow.Author.Tests.{not-false}
use Rattle.breaker.specs.Record.{settings}
use Rattle.breaker.specs.Rules.{admit, via_trait}
use Rattle.steps.specs.Steps.{entry}
use Rattle.steps.proofs.Entering.{via-probe}
use Rattle.steps.proofs.admit.admit_as_locked.Goals as goal

pub returns : goal.returns
returns c =
    λ cfg st e.
    via-probe cfg (admit (settings cfg) c.args.now_ms st) c.in_ok-admitted.admitted _ c.with_counts.result (sym c.in_ok-admitted.was ∙ c.admit_locked.ensures cfg st e)
    (not-false c.in_ok-admitted.admitted.answer.probe c.if-not-admitted.false)
    (ap (λ (n : ℕ). record { inflight = c.in_ok-admitted.admitted.breaker.shared.counts.inflight; trait_probes = n; successes = c.in_ok-admitted.admitted.breaker.shared.counts.successes }) c.saturating_add.ensures)
    (c.with_counts.ensures cfg)
    ∙ ap (λ (v : Bool). entry cfg (via_trait v (admit (settings cfg) c.args.now_ms st))) (sym (not-false c.args.via_trait c.if-not-via_trait.false-raw))
