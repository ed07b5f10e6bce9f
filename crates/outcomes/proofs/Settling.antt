-- Each answer of settle and of a manual outcome, from the tests that led to it, over any record and places that hold a state. Assumes nothing.
use Rattle.std.proofs.Common.{◌≡◌, ℕ, ◌+◌, ◌-◌, ◌≤◌, ◌⊎◌, inl, inr, Bool, true, false, not, List, [], length, sym, refl, ap, ap₂, ◌∙◌, arith, eq-eqb, ne_eqb, lt-ltb, le-ltb, Ok, Err, Result}
use Rattle.error.specs.Told.{nothing, refused}
use Rattle.error.specs.declared.Refusal.{Refusal}
use Rattle.history.specs.Items.{padded}
use Rattle.history.proofs.Sound as List·
use Rattle.trip.specs.declared.Config.{Config}
use Rattle.breaker.specs.declared.Counts.{Counts}
use Rattle.breaker.specs.declared.Ticket.{Ticket}
use Rattle.breaker.specs.declared.Breaker.{Breaker}
use Rattle.breaker.specs.Record.{Settings, State, HalfOpen, Closed, settings, stored, items_of, sound}
use Rattle.breaker.specs.Rules.{less_counts, with_counts, with_history, opening, in_closed, settled, manual}
use Rattle.breaker.specs.Calls.{after, kept}
use Rattle.breaker.proofs.Keeps.{SoundAt, whole, sound-counts, sound-closed}
use Rattle.breaker.proofs.Record.{sound→, shared→}
use Rattle.breaker.proofs.Finishes.{settled-stale, settled-closed}
use Rattle.outcomes.specs.declared.Change.{Change}
use Rattle.outcomes.specs.declared.Recorded.{Recorded}
use Rattle.outcomes.specs.declared.Recorded.TheVariants.{Counted, Tripped}
use Rattle.steps.specs.Steps.{Holds}
use Rattle.steps.proofs.Holding.{kept-done}
use Rattle.outcomes.specs.Decide.{change_of, changed, Decides, Makes, places_after}

-- ---- a state, stored
pub at-state : (b : Breaker) (s : List ℕ) (c : Config) (st : State) → Holds c st b s → sound b s ≡ true → SoundAt c st
at-state b s c st h ok = sym (ap₂ sound h.0 h.1) ∙ ok

-- ---- the list that what is decided leaves
module _ (s : Settings) (reading : ℕ) (good : Bool) (st : State) where
  pub places-decided : (r : Result Recorded Refusal) → Decides s reading good st r → places_after s reading good st r ≡ padded (in_closed s reading good st).after.list
  places-decided (Err r) d = rw d
  places-decided (Ok (Counted x)) d = rw d.1
  places-decided (Ok (Tripped x)) d = rw d.1

-- it is of at most 4,096 items
module _ (c : Config) (st : State) (ok : SoundAt c st) (reading : ℕ) (good : Bool) where
  short : (u : State) → SoundAt c u → length u.list ≤ 4096
  short u k = (List·.sound→ (items_of c) (length u.list) (padded u.list) (whole c u k).list).le

  pub decided-fits : (r : Recorded) → Decides (settings c) reading good st (Ok r) → length (changed (settings c).policy (not good) reading (change_of r).gone st.list) ≤ 4096
  decided-fits (Counted x) d = short _ (rw d.1 at (sound-closed c st ok reading good))
  decided-fits (Tripped x) d = short _ (rw d.1 at (sound-closed c st ok reading good))

-- ---- a settle outside Closed that closes empties the list
module _ (s : Settings) (reading : ℕ) (t : Ticket) where
  pub settled-emptied : (good : Bool) (st : State) → (st.state ≡ Closed → ⊥) → (settled s reading t good st).after.state ≡ Closed → (settled s reading t good st).after.list ≡ []
  unfolding settled
  settled-emptied true st m k = grind arith
  settled-emptied false st m k = grind arith

-- ---- settle
module _ (b : Breaker) (s : List ℕ) (c : Config) (st : State) (reading : ℕ) (t : Ticket) (good : Bool) (h : Holds c st b s) where
  pub settle-stale : (t.generation ≡ b.shared.generation → ⊥) → after nothing b s ≡ kept c (settled (settings c) reading t good st)
  settle-stale n = kept-done c st b s h ∙ ap (kept c) (sym (settled-stale (settings c) reading t good st (rw h.0 at n)))

  -- Closed: what was decided, and the places s' that it left
  module _ (g : t.generation ≡ b.shared.generation) (k : b.shared.state ≡ Closed) (s' : List ℕ) where
    in-closed : kept c (in_closed (settings c) reading good st) ≡ kept c (settled (settings c) reading t good st)
    in-closed = ap (kept c) (sym (settled-closed (settings c) reading t good st (rw h.0 at g) (rw h.0 at k)))

    pub settle-closed : (r : Recorded) → Decides (settings c) reading good st (Ok r) → s' ≡ places_after (settings c) reading good st (Ok r) → (next : Breaker)
        → Makes c (in_closed (settings c) reading good st) (Ok next) b → after nothing next s' ≡ kept c (settled (settings c) reading t good st)
    settle-closed r d l next m = rw (m.0, m.1, l, places-decided (settings c) reading good st (Ok r) d) in-closed

    pub settle-refused : (r : Refusal) → Decides (settings c) reading good st (Err r) → s' ≡ places_after (settings c) reading good st (Err r)
        → after (refused r) b s' ≡ kept c (settled (settings c) reading t good st)
    settle-refused r d l = ap₂ (after (refused r)) h.0 l ∙ ap (kept c) (sym d) ∙ in-closed

    pub settle-counted : (x : Change) → Decides (settings c) reading good st (Ok (Counted x)) → s' ≡ places_after (settings c) reading good st (Ok (Counted x)) → (next : Breaker)
        → ((xs : List ℕ) → x.len ≡ length xs → next ≡ stored c (with_history x.run xs st)) → after nothing next s' ≡ kept c (settled (settings c) reading t good st)
    settle-counted x d l next f = settle-closed (Counted x) d l next (rw d.1 (refl, f _ d.0))

    pub settle-tripped : (x : Change) → Decides (settings c) reading good st (Ok (Tripped x)) → s' ≡ places_after (settings c) reading good st (Ok (Tripped x)) → (next final : Breaker)
        → ((xs : List ℕ) → x.len ≡ length xs → next ≡ stored c (with_history x.run xs st))
        → ((u : State) → next ≡ stored c u → final ≡ stored c (opening (settings c) reading u)) → after nothing final s' ≡ kept c (settled (settings c) reading t good st)
    settle-tripped x d l next final f q = settle-closed (Tripped x) d l final (rw d.1 (refl, q _ (f _ d.0)))

-- ---- a manual outcome
module _ (b : Breaker) (s : List ℕ) (c : Config) (st : State) (reading : ℕ) (good : Bool) (h : Holds c st b s) where
  abbrev own : Bool → Ticket
  own p = record { generation = b.shared.generation; probe = p }

  pub manual-idle : (b.shared.state ≡ HalfOpen → ⊥) ⊎ ((b.shared.state ≡ HalfOpen) × (b.shared.counts.trait_probes ≡ 0))
      → kept c (settled (settings c) reading (own false) good st) ≡ kept c (manual (settings c) reading good st)
  unfolding manual
  manual-idle (inl n) = rw (h.0, ne_eqb _ _ (rw h.0 at n))
  manual-idle (inr k) = rw (h.0, eq-eqb _ _ (rw h.0 at k.0), le-ltb 0 st.counts.trait_probes (omega (arith, rw h.0 at k.1)))

  -- one trait probe is used up
  module _ (k : b.shared.state ≡ HalfOpen) (z : b.shared.counts.trait_probes ≡ 0 → ⊥) (x : Counts) (q : x ≡ less_counts 0 1 0 b.shared.counts) where
    pub manual-one : kept c (settled (settings c) reading (own true) good (with_counts x st)) ≡ kept c (manual (settings c) reading good st)
    unfolding manual
    manual-one =
        let m : st.counts.trait_probes ≡ 0 → ⊥ = rw h.0 at z in
        let used : x ≡ less_counts 0 1 0 st.counts = rw h.0 at q in
        rw (used, h.0, eq-eqb _ _ (rw h.0 at k), lt-ltb 0 st.counts.trait_probes (omega arith))

    pub used_sound : sound b s ≡ true → (next : Breaker) → next ≡ stored c (with_counts x st) → sound next s ≡ true
    used_sound ok next r =
        let f = shared→ b.config b.shared (sound→ b s ok).shared in
        let trials : b.config.trials ≡ c.trials = ap (λ (y : Breaker). y.config.trials) h.0 in
        let required : b.config.required ≡ c.required = ap (λ (y : Breaker). y.config.required) h.0 in
        let i : x.inflight ≡ b.shared.counts.inflight - 0 = ap (λ (y : Counts). y.inflight) q in
        let g : x.successes ≡ b.shared.counts.successes + 0 = ap (λ (y : Counts). y.successes) q in
        rw (r, h.1)
        (sound-counts c st (at-state b s c st h ok) x (rw h.0 at k) (omega (arith, f.inflight)) (omega (arith, f.successes)))
