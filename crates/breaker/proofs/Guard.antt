-- The entry points: refusals 3 and 4, and what is left after the test. Assumes nothing.
use mathlib.Core.Path.{◌≡◌, refl, sym, ap, ap₂, ◌∙◌}
use mathlib.Core.Bool.{Bool, true, false, not, false≢true}
use mathlib.Core.List.{List}
use Prim.Native.Nat.{ℕ}
use lib.Dec.{eqb}
use lib.ListN.{length}
use borrow.Author.Tests.{eq-eqb, ne_eqb}
use Rattle.std.proofs.Common.{if◌then◌else◌, Result, Ok, Err}
use Rattle.error.specs.Told.{Told, refused}
use Rattle.error.specs.declared.Refusal.{Refusal}
use Rattle.error.specs.declared.Refusal.TheVariants.{Storage, Unsound}
use Rattle.history.specs.Items.{padded}
use Rattle.breaker.specs.declared.Breaker.{Breaker}
use Rattle.breaker.specs.Record.{Settings, State, settings, state, stored, sound}
use Rattle.breaker.specs.Rules.{Outcome, outcome}
use Rattle.breaker.specs.Calls.{after, guarded, kept, on_sound, asked}
use Rattle.breaker.proofs.Record.{stored-state, padded-state, state-stored, sound-places}
use Rattle.breaker.proofs.Keeps.{Keeps, sound-state}

-- ---- the tests, for whatever a call answers

module _ {A : Type 0} (refusal : Refusal → A) (answer : A) (b : Breaker) (s : List ℕ) where
  pub guarded-storage : (length s ≡ 4096 → ⊥) → refusal Storage ≡ guarded refusal answer b s
  guarded-storage n = simp (ne_eqb (length s) 4096 n)

  pub guarded-unsound : length s ≡ 4096 → sound b s ≡ false → refusal Unsound ≡ guarded refusal answer b s
  guarded-unsound p e = simp (eq-eqb (length s) 4096 p, e)

  pub guarded-done : sound b s ≡ true → answer ≡ guarded refusal answer b s
  guarded-done ok = simp (eq-eqb (length s) 4096 (sound-places b s ok), ok)

  -- what the tests come to, told in the call's own answer
  abbrev meant : Result (Unit {0}) Refusal → A
  meant (Ok u) = answer
  meant (Err r) = refusal r

  pub guarded-refused : (r : Refusal) → Err r ≡ guarded Err (Ok (tt {0})) b s → refusal r ≡ guarded refusal answer b s
  guarded-refused r e = ap meant e ∙ go (eqb (length s) 4096) (sound b s)
    where
      go : (x y : Bool)
          → meant (if not x then Err Storage else if not y then Err Unsound else Ok (tt {0})) ≡ (if not x then refusal Storage else if not y then refusal Unsound else answer)
      go false y = refl
      go true false = refl
      go true true = refl

pub tested-sound : (b : Breaker) (s : List ℕ) → Ok (tt {0}) ≡ guarded Err (Ok (tt {0})) b s → sound b s ≡ true
tested-sound b s e = go (eqb (length s) 4096) (sound b s) (ap (meant (λ r. false) true b s) e)
  where
    go : (x y : Bool) → true ≡ meant (λ r. false) true b s (if not x then Err Storage else if not y then Err Unsound else Ok (tt {0})) → y ≡ true
    go false y e = absurd (false≢true (sym e))
    go true false e = sym e
    go true true e = refl

-- an outcome that leaves the state as it was
pub unchanged : (told : Told) (b : Breaker) (s : List ℕ) → sound b s ≡ true → after told b s ≡ kept b.config (outcome told (state b s))
unchanged told b s ok = ap₂ (after told) (stored-state b s ok) (padded-state b s ok)

-- ---- a call that may change the breaker, and one that only reads it

module _ (rule : Settings → State → Outcome) (b : Breaker) (s : List ℕ) where
  pub sound-refused : (r : Refusal) → Err r ≡ guarded Err (Ok (tt {0})) b s → after (refused r) b s ≡ on_sound rule b s
  unfolding on_sound
  sound-refused r e = guarded-refused (λ r. after (refused r) b s) _ b s r e

  pub sound-done : sound b s ≡ true → kept b.config (rule (settings b.config) (state b s)) ≡ on_sound rule b s
  unfolding on_sound
  sound-done ok = guarded-done (λ r. after (refused r) b s) _ b s ok

  -- what it leaves is sound again, and the state that the rule says
  pub sound-called : Keeps rule → sound b s ≡ true
      → let o = rule (settings b.config) (state b s) in let left = on_sound rule b s in
      (left.told ≡ o.told) × (sound left.breaker left.places ≡ true) × (state left.breaker left.places ≡ o.after) × (left.breaker.config ≡ b.config)
  sound-called k ok =
      let c = b.config in
      let o = rule (settings c) (state b s) in
      rw (← sound-done ok) (refl, k c (state b s) (sound-state b s ok), state-stored c o.after, refl)

  -- a rule that keeps the list: the record after it, with the places as they were
  pub sound-fields : sound b s ≡ true → (t : Told) (st : State) (next : Breaker) → rule (settings b.config) (state b s) ≡ outcome t st → next ≡ stored b.config st
      → st.list ≡ (state b s).list → after t next s ≡ on_sound rule b s
  sound-fields ok t st next r q l =
      ap (after t next) (padded-state b s ok ∙ ap padded (sym l)) ∙ ap (λ (x : Breaker). after t x (padded st.list)) q ∙ ap (kept b.config) (sym r) ∙ sound-done ok

module _ (rule : Settings → State → Told) (b : Breaker) (s : List ℕ) where
  pub asked-refused : (r : Refusal) → Err r ≡ guarded Err (Ok (tt {0})) b s → refused r ≡ asked rule b s
  unfolding asked
  asked-refused r e = guarded-refused refused _ b s r e

  pub asked-done : sound b s ≡ true → rule (settings b.config) (state b s) ≡ asked rule b s
  unfolding asked
  asked-done ok = guarded-done refused _ b s ok
