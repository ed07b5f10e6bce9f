-- New settings in force: what a build made, in the next generation. Assumes nothing.
use Rattle.std.proofs.Common.{◌≡◌, ℕ, true, List, length, Result, Ok, Err, sym, ap, ◌∙◌, eq-eqb}
use Rattle.error.specs.Told.{nothing, refused}
use Rattle.error.specs.declared.Refusal.{Refusal}
use Rattle.error.proofs.OneToOne.{no-refusal}
use Rattle.trip.specs.declared.Config.{Config}
use Rattle.trip.specs.declared.CircuitBreakerBuilder.{CircuitBreakerBuilder}
use Rattle.trip.specs.Settings.{built_of}
use Rattle.breaker.specs.declared.Breaker.{Breaker}
use Rattle.breaker.specs.Record.{State, stored, sound}
use Rattle.breaker.specs.Rules.{next, in_generation}
use Rattle.breaker.specs.Calls.{After, after, done_by_value, fresh, put, built, renewed, reconfigured}
use Rattle.breaker.proofs.Guard.{guarded-done}
use Rattle.breaker.proofs.Record.{sound-places}

-- a build in a storage of 4,096 places: the builder alone decides
pub built_in : (builder : CircuitBreakerBuilder) (b : Breaker) (s : List ℕ) → length s ≡ 4096 → built builder b s ≡ put (built_of builder) b s
unfolding built
built_in builder b s l = simp (eq-eqb (length s) 4096 l)

module _ (builder : CircuitBreakerBuilder) (b : Breaker) (s : List ℕ) (ok : sound b s ≡ true) where
  done : renewed (built_of builder) b s ≡ reconfigured builder b s
  unfolding reconfigured
  done = guarded-done (λ r. after (refused r) b s) _ b s ok

  module _ (x : Result Breaker Refusal) (places : List ℕ) (e : done_by_value x b places ≡ built builder b s) where
    pub renew-refused : (r : Refusal) → x ≡ Err r → after (refused r) b places ≡ reconfigured builder b s
    renew-refused r q = go (built_of builder) (ap (λ (y : Result Breaker Refusal). done_by_value y b places) (sym q) ∙ e ∙ built_in builder b s (sound-places b s ok)) ∙ done
      where
        go : (y : Result Config Refusal) → after (refused r) b places ≡ put y b s → after (refused r) b places ≡ renewed y b s
        go (Ok c) p = no-refusal r _ (sym (ap (λ (a : After). a.told) p))
        go (Err q) p = p

    pub renew-done : (made m : Breaker) → x ≡ Ok made → ((c : Config) (st : State) → made ≡ stored c st → m ≡ stored c (in_generation (next b.shared.generation) st))
        → after nothing m places ≡ reconfigured builder b s
    renew-done made m q f = go (built_of builder) (ap (λ (y : Result Breaker Refusal). done_by_value y b places) (sym q) ∙ e ∙ built_in builder b s (sound-places b s ok)) ∙ done
      where
        go : (y : Result Config Refusal) → after nothing made places ≡ put y b s → after nothing m places ≡ renewed y b s
        go (Ok c) p =
            let new = f c fresh (ap (λ (a : After). a.breaker) p) in
            let list = ap (λ (a : After). a.places) p in
            simp (new, list)
        go (Err r) p = no-refusal r _ (ap (λ (a : After). a.told) p)
