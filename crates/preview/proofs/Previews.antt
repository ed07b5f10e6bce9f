-- What a preview tells, from what is decided or from the call itself. Assumes nothing.
use Rattle.std.proofs.Common.{◌≡◌, ℕ, true, List, length, refl, sym, ap, ap₂, ◌∙◌, Result, Ok, Err}
use Rattle.error.specs.Told.{Told}
use Rattle.error.specs.declared.Refusal.{Refusal}
use Rattle.breaker.specs.declared.Breaker.{Breaker}
use Rattle.breaker.specs.Record.{Settings, State, settings, state, sound}
use Rattle.breaker.specs.Rules.{Outcome}
use Rattle.breaker.specs.Calls.{After, done_by_value, kept, guarded, on_sound}
use Rattle.breaker.proofs.Guard.{tested-sound, sound-done}
use Rattle.steps.specs.Steps.{OnHeld}
use Rattle.steps.proofs.Holding.{holds}
use Rattle.outcomes.specs.Decide.{Makes}
use Rattle.preview.specs.Preview.{preview, preview_of, previewed}

module _ (rule : Settings → State → Outcome) (b : Breaker) (s : List ℕ) where
  pub preview-done : Ok (tt {0}) ≡ guarded Err (Ok (tt {0})) b s → (r : Result Breaker Refusal) → OnHeld b s (λ c st. Makes c (rule (settings c) st) r b)
      → previewed r b ≡ preview_of (on_sound rule b s)
  preview-done tested r step =
      let ok = tested-sound b s tested in
      go r (step ok b.config (state b s) (holds b s ok)) ∙ ap preview_of (sound-done rule b s ok)
    where
      go : (x : Result Breaker Refusal) → Makes b.config (rule (settings b.config) (state b s)) x b → previewed x b ≡ preview_of (kept b.config (rule (settings b.config) (state b s)))
      go (Ok next) m = ap₂ (λ (t : Told) (x : Breaker). preview t x x.shared.len) m.0 m.1
      go (Err r) m = ap₂ (λ (t : Told) (x : Breaker). preview t x x.shared.len) m.0 m.1

  -- the length that is told is that of the list that the call leaves
  pub left-length : sound b s ≡ true → (preview_of (on_sound rule b s)).len ≡ length (rule (settings b.config) (state b s)).after.list
  left-length ok = ap (λ (x : After). x.breaker.shared.len) (sym (sound-done rule b s ok))

-- the preview of what a call answered and left
pub preview-left : (r : Result Breaker Refusal) (b : Breaker) (s : List ℕ) → previewed r b ≡ preview_of (done_by_value r b s)
preview-left (Ok next) b s = refl
preview-left (Err r) b s = refl
