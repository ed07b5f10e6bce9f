-- A state, held by a record and its storage, and the calls that test the breaker and then make one step. Assumes nothing.
use Rattle.std.proofs.Common.{◌≡◌, ℕ, true, List, ap₂, ◌∙◌, Ok, Err}
use Rattle.error.specs.Told.{Told, nothing}
use Rattle.trip.specs.declared.Config.{Config}
use Rattle.breaker.specs.declared.Breaker.{Breaker}
use Rattle.breaker.specs.Record.{Settings, State, settings, state, sound}
use Rattle.breaker.specs.Rules.{Outcome, outcome, done}
use Rattle.breaker.specs.Calls.{After, after, kept, guarded, on_sound}
use Rattle.breaker.proofs.Record.{stored-state, padded-state}
use Rattle.breaker.proofs.Guard.{tested-sound, sound-done, sound-fields}
use Rattle.steps.specs.Steps.{Applies, Holds, OnHeld}

-- a sound record and its storage hold their state
pub holds : (b : Breaker) (s : List ℕ) → sound b s ≡ true → Holds b.config (state b s) b s
holds b s ok = (stored-state b s ok, padded-state b s ok)

-- what holds a state is what a call leaves that makes it
pub kept-done : (c : Config) (st : State) (b : Breaker) (s : List ℕ) → Holds c st b s → after nothing b s ≡ kept c (done st)
kept-done c st b s h = ap₂ (λ (x : Breaker) (y : List ℕ). after nothing x y) h.0 h.1

-- ---- a call that tests the breaker and then makes one step
module _ (rule : Settings → State → Outcome) (b : Breaker) (s : List ℕ) (tested : Ok (tt {0}) ≡ guarded Err (Ok (tt {0})) b s) where
  pub by-step : (x : After) → OnHeld b s (λ c st. x ≡ kept c (rule (settings c) st)) → x ≡ on_sound rule b s
  by-step x step = let ok = tested-sound b s tested in step ok b.config (state b s) (holds b s ok) ∙ sound-done rule b s ok

  -- a step that keeps the list
  pub by-change : (t : Told) (change : State → State) (next : Breaker) → Applies (λ c st. change st) b next → ((st : State) → (change st).list ≡ st.list)
      → ((st : State) → rule (settings b.config) st ≡ outcome t (change st)) → after t next s ≡ on_sound rule b s
  by-change t change next step list q =
      let ok = tested-sound b s tested in
      sound-fields rule b s ok t (change (state b s)) next (q (state b s)) (step b.config (state b s) (holds b s ok).0) (list (state b s))
