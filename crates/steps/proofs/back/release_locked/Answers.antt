-- `steps::back::release_locked` meets its contract: each answer from the tests on its way. Assumes nothing.
use Rattle.std.proofs.Common.{ℕ, ◌-◌, ap, ◌∙◌}
use Rattle.steps.proofs.Aborting.{release-idle, release-one, less-counts}
use Rattle.steps.proofs.back.release_locked.Goals as goal

pub returns-then-b-ne-HALF_OPEN : goal.returns-then-b-ne-HALF_OPEN
returns-then-b-ne-HALF_OPEN c = λ cfg st e. release-idle c.args.b cfg st e c.then-b-ne-HALF_OPEN.either

pub returns : goal.returns
returns c =
    λ cfg st e.
    release-one c.args.b cfg st e c.if-b-ne-HALF_OPEN.false c.if-counts-eq0.false _
    (ap (λ (i : ℕ). record { inflight = i; trait_probes = c.args.b.shared.counts.trait_probes - 1; successes = c.args.b.shared.counts.successes }) c.saturating_sub.ensures ∙ less-counts 1 1 c.args.b.shared.counts)
    c.with_counts.result (c.with_counts.ensures cfg st e)
