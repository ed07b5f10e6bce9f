-- Each answer of an admission and of still_admits, from the tests that led to it, over any record that stores a state. Assumes nothing.
use Rattle.std.proofs.Common.{◌≡◌, ℕ, ◌-◌, ◌<◌, ◌≤◌, ◌⊎◌, inl, inr, Bool, true, false, ap, arith, le-ltb, lt-ltb, eq-eqb, ne_eqb, le-leb, Result, Ok, Err}
use Rattle.std.proofs.Math.Bool.{or-true}
use borrow.Author.Tests.{lt-leb}
use Rattle.trip.specs.declared.Config.{Config}
use Rattle.breaker.specs.declared.Counts.{Counts}
use Rattle.breaker.specs.declared.Ticket.{Ticket}
use Rattle.breaker.specs.declared.Breaker.{Breaker}
use Rattle.breaker.specs.declared.Delay.{Delay}
use Rattle.breaker.specs.declared.Answered.{Answered}
use Rattle.breaker.specs.Record.{State, settings, stored}
use Rattle.breaker.specs.Answers.{delay_of}
use Rattle.breaker.specs.Rules.{Admitted, granted, shed, admit, via_trait, with_counts, one_more_trial, one_more_trait_probe, half_opening, still_admits}
use Rattle.steps.specs.Steps.{entry, verdict}

abbrev ticket : ℕ → Bool → Ticket
ticket g p = record { generation = g; probe = p }

abbrev grant : Ticket → Breaker → Result (Answered Ticket) Delay
grant t b = Ok (record { answer = t; breaker = b })

module _ (b : Breaker) (c : Config) (st : State) (reading : ℕ) (e : b ≡ stored c st) where
  pub enter-closed : b.shared.state ≡ 0 → grant (ticket b.shared.generation false) b ≡ entry c (admit (settings c) reading st)
  unfolding admit
  enter-closed k = rw e (simp (eq-eqb _ _ (rw e at k)))

  pub enter-early : (b.shared.state ≡ 0 → ⊥) → b.shared.state ≡ 2 → reading < b.shared.open_until
      → Err (delay_of (b.shared.open_until - reading)) ≡ entry c (admit (settings c) reading st)
  unfolding admit
  enter-early n k h = rw e (simp (ne_eqb _ _ (rw e at n), eq-eqb _ _ (rw e at k), lt-leb _ _ (rw e at h)))

  pub enter-half : (b.shared.state ≡ 0 → ⊥) → b.shared.state ≡ 2 → b.shared.open_until ≤ reading → (next : Breaker) → next ≡ stored c (half_opening st)
      → grant (ticket next.shared.generation true) next ≡ entry c (admit (settings c) reading st)
  unfolding admit
  enter-half n k h next q = rw q (simp (ne_eqb _ _ (rw e at n), eq-eqb _ _ (rw e at k), le-leb _ _ (rw e at h)))

  pub enter-trial : (b.shared.state ≡ 0 → ⊥) → (b.shared.state ≡ 2 → ⊥) → b.shared.counts.inflight < b.config.trials → (next : Breaker)
      → next ≡ stored c (with_counts (one_more_trial b.shared.counts) st)
      → grant (ticket next.shared.generation true) next ≡ entry c (admit (settings c) reading st)
  unfolding admit
  enter-trial n m h next q = rw (q, e) (simp (ne_eqb _ _ (rw e at n), ne_eqb _ _ (rw e at m), lt-ltb _ _ (rw e at h)))

  pub enter-full : (b.shared.state ≡ 0 → ⊥) → (b.shared.state ≡ 2 → ⊥) → b.config.trials ≤ b.shared.counts.inflight
      → Err (delay_of 0) ≡ entry c (admit (settings c) reading st)
  unfolding admit
  enter-full n m h = simp (ne_eqb _ _ (rw e at n), ne_eqb _ _ (rw e at m), le-ltb _ _ (rw e at h))

  -- ---- still_admits
  module _ (t : Ticket) where
    pub still-goes : (t.generation ≡ b.shared.generation) ⊎ ((t.generation ≡ b.shared.generation → ⊥) × (b.shared.state ≡ 0)) → Ok (tt {0}) ≡ verdict (still_admits reading t st)
    unfolding still_admits
    still-goes (inl g) = simp (eq-eqb _ _ (rw e at g))
    still-goes (inr k) = simp (eq-eqb _ _ (rw e at k.1), or-true)

    module _ (n : t.generation ≡ b.shared.generation → ⊥) where
      pub still_open : (b.shared.state ≡ 0 → ⊥) → b.shared.state ≡ 2 → Err (delay_of (b.shared.open_until - reading)) ≡ verdict (still_admits reading t st)
      unfolding still_admits
      still_open m k = rw e (simp (ne_eqb _ _ (rw e at n), ne_eqb _ _ (rw e at m), eq-eqb _ _ (rw e at k)))

      pub still-half : (b.shared.state ≡ 0 → ⊥) → (b.shared.state ≡ 2 → ⊥) → Err (delay_of 0) ≡ verdict (still_admits reading t st)
      unfolding still_admits
      still-half m k = simp (ne_eqb _ _ (rw e at n), ne_eqb _ _ (rw e at m), ne_eqb _ _ (rw e at k))

-- ---- through the trait side

module _ (c : Config) where
  pub via-probe : (a : Admitted) (x : Answered Ticket) (y : Counts) (next : Breaker) → Ok x ≡ entry c a → x.answer.probe ≡ true → y ≡ one_more_trait_probe x.breaker.shared.counts
      → ((st : State) → x.breaker ≡ stored c st → next ≡ stored c (with_counts y st)) → grant x.answer next ≡ entry c (via_trait true a)
  via-probe (granted t st) x y next e p k f =
      let q : ◌≡◌ {A = Answered Ticket} x (record { answer = t; breaker = stored c st }) = cc in
      let answer : x.answer ≡ t = ap (λ (z : Answered Ticket). z.answer) q in
      let held : x.breaker ≡ stored c st = ap (λ (z : Answered Ticket). z.breaker) q in
      let probe : t.probe ≡ true = rw answer at p in
      let noted : y ≡ one_more_trait_probe st.counts = rw held at k in
      rw (f st held, answer, noted) (simp probe)
  via-probe (shed ms) x y next e p k f = let z : ◌≡◌ {A = ℕ} 0 1 = cc in absurd (omega arith)
