-- `steps::back::abort_locked` meets its contract: each answer from the tests on its way. Assumes nothing.
use Rattle.std.proofs.Common.{ℕ, ◌-◌, ◌∙◌, ap, ap₂}
use borrow.Author.Tests.{not-false}
use Rattle.steps.proofs.Aborting.{abort-probe, less-counts}
use Rattle.error.proofs.Choice.{byte-bit}
use Rattle.steps.proofs.back.abort_locked.Goals as goal

pub returns : goal.returns
returns c =
    λ cfg st e.
    abort-probe c.args.b cfg st c.args.t c.args.via_trait e (not-false c.args.t.probe c.if-not-t.false) c.if-t-b.false c.if-b-ne-HALF_OPEN.false _
    (ap₂ (λ (i j : ℕ). record { inflight = i; trait_probes = j; successes = c.args.b.shared.counts.successes }) c.saturating_sub.ensures (c.saturating_sub-2.ensures ∙ ap (λ (n : ℕ). c.args.b.shared.counts.trait_probes - n) (c.from.ensures ∙ byte-bit c.args.via_trait))
    ∙ less-counts 1 _ c.args.b.shared.counts)
    c.with_counts.result (c.with_counts.ensures cfg st e)
