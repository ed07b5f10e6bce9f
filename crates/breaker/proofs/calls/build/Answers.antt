-- `breaker::calls::build` meets its contract: what the builder made, in cleared storage. Assumes nothing.
use Rattle.std.proofs.Common.{◌≡◌, ℕ, Ok, [], replicate, sym, ap, ap₂, ◌∙◌, eq-eqb, rules}
use Rattle.history.specs.Items.{padded}
use Rattle.trip.specs.Settings.{built_of}
use Rattle.breaker.specs.declared.Counts.{Counts}
use Rattle.breaker.specs.Calls.{built}
use Rattle.breaker.specs.Rules.{no_counts}
use Rattle.breaker.proofs.calls.build.Goals as goal

idle : (x : Counts) → (x.inflight ≡ 0) × ((x.trait_probes ≡ 0) × (x.successes ≡ 0)) → x ≡ no_counts
idle x p =
    ap (λ (i : ℕ). record { inflight = i; trait_probes = x.trait_probes; successes = x.successes }) p.0
    ∙ ap₂ (λ (i j : ℕ). record { inflight = 0; trait_probes = i; successes = j }) p.1.0 p.1.1

pub returns : goal.returns
unfolding built
returns c b =
    let made : built_of c.args.builder ≡ Ok c.in_ok-config.config = sym c.config.ensures ∙ c.in_ok-config.was in
    let places : c.fill.new.self ≡ padded [] = c.fill.ensures.after (search rules) ∙ ap (λ (n : ℕ). replicate n 0) c.if-list-ne-PLACES.false in
    let z = c.default.ensures in
    simp (eq-eqb _ _ c.if-list-ne-PLACES.false, made, places, z.1.0, z.1.1.0, idle _ z.1.1.1.0, z.1.1.1.1.0, z.1.1.1.1.1)
