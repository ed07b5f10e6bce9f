-- Each answer of an abort and of a release, from the tests that led to it. Assumes nothing.
use Rattle.std.proofs.Common.{◌≡◌, ℕ, Bool, true, false, ◌&&◌, ◌⊎◌, inl, inr, eqb, ltb, List, sym, refl, ap, ◌∙◌, add-zero, arith, le-ltb, lt-ltb, eq-eqb, ne_eqb, if◌then◌else◌}
use Rattle.error.specs.Told.{Told}
use Rattle.error.specs.Choice.{bit}
use Rattle.history.specs.Items.{padded}
use Rattle.trip.specs.declared.Config.{Config}
use Rattle.breaker.specs.declared.Counts.{Counts}
use Rattle.breaker.specs.declared.Ticket.{Ticket}
use Rattle.breaker.specs.declared.Breaker.{Breaker}
use Rattle.breaker.specs.Record.{State, HalfOpen, stored}
use Rattle.breaker.specs.Rules.{outcome, less_counts, counting, with_counts, aborted, released}
use Rattle.breaker.specs.Calls.{after, kept}
use Rattle.breaker.proofs.Finishes.{aborted-bare, aborted-stale, aborted-off, aborted-probe, aborted-list}

-- fewer trials and trait probes, with no success more
pub less-counts : (trials traits : ℕ) (x : Counts) → record { inflight = (less_counts trials traits 0 x).inflight; trait_probes = (less_counts trials traits 0 x).trait_probes; successes = x.successes } ≡ less_counts trials traits 0 x
less-counts trials traits x = simp add-zero

-- ---- abort
module _ (b : Breaker) (c : Config) (st : State) (t : Ticket) (via : Bool) (e : b ≡ stored c st) where
  idle : aborted t via st ≡ st → b ≡ stored c (aborted t via st)
  idle q = e ∙ ap (stored c) (sym q)

  pub abort-bare : t.probe ≡ false → b ≡ stored c (aborted t via st)
  abort-bare p = idle (aborted-bare t via st p)

  pub abort-stale : (t.generation ≡ b.shared.generation → ⊥) → b ≡ stored c (aborted t via st)
  abort-stale n = idle (aborted-stale t via st (rw e at n))

  pub abort-off : (b.shared.state ≡ HalfOpen → ⊥) → b ≡ stored c (aborted t via st)
  abort-off n = idle (aborted-off t via st (rw e at n))

  pub abort-probe : t.probe ≡ true → t.generation ≡ b.shared.generation → b.shared.state ≡ HalfOpen → (x : Counts) → x ≡ less_counts 1 (bit via) 0 b.shared.counts
      → (next : Breaker) → next ≡ stored c (with_counts x st) → next ≡ stored c (aborted t via st)
  abort-probe p g k x q next r =
      let m : x ≡ less_counts 1 (bit via) 0 st.counts = rw e at q in
      r ∙ ap (λ (y : Counts). stored c (with_counts y st)) m ∙ ap (stored c) (sym (aborted-probe t via st p (rw e at g) (rw e at k)))

-- what an abort leaves, beside whatever is told, over the places s
pub given_back : (told : Told) (c : Config) (t : Ticket) (via : Bool) (st : State) (next : Breaker) (s : List ℕ) → next ≡ stored c (aborted t via st) → s ≡ padded st.list
    → after told next s ≡ kept c (outcome told (aborted t via st))
given_back told c t via st next s e l = rw (e, l, aborted-list t via st)

-- ---- release
module _ (b : Breaker) (c : Config) (st : State) (e : b ≡ stored c st) where
  pub release-idle : (b.shared.state ≡ HalfOpen → ⊥) ⊎ ((b.shared.state ≡ HalfOpen) × (b.shared.counts.trait_probes ≡ 0)) → b ≡ stored c (released st)
  unfolding released
  release-idle (inl n) = rw (ne_eqb _ _ (rw e at n)) e
  release-idle (inr k) = rw (eq-eqb _ _ (rw e at k.0), le-ltb 0 st.counts.trait_probes (omega (arith, rw e at k.1))) e

  pub release-one : b.shared.state ≡ HalfOpen → (b.shared.counts.trait_probes ≡ 0 → ⊥) → (x : Counts) → x ≡ less_counts 1 1 0 b.shared.counts → (next : Breaker)
      → next ≡ stored c (with_counts x st) → next ≡ stored c (released st)
  unfolding released
  release-one k z x q next r =
      let m : st.counts.trait_probes ≡ 0 → ⊥ = rw e at z in
      let n : x ≡ less_counts 1 1 0 st.counts = rw e at q in
      rw (eq-eqb _ _ (rw e at k), lt-ltb 0 st.counts.trait_probes (omega arith)) (r ∙ ap (λ (y : Counts). stored c (with_counts y st)) n)

-- a release keeps the list
pub released-list : (st : State) → (released st).list ≡ st.list
unfolding released
released-list st = go (eqb st.state HalfOpen && ltb 0 st.counts.trait_probes)
  where
    go : (b : Bool) → (if b then counting 1 1 0 st else st).list ≡ st.list
    go true = refl
    go false = refl
