-- Where a kind is known, a call by it is the call: of a reply, and of the policy in new settings, where an unknown kind is refused. And a save, told in plain
-- numbers, leaves what the rule of the save says. Assumes nothing.
use Rattle.std.proofs.Common.{◌≡◌, ℕ, List, Bool, true, false, arith, if◌then◌else◌, Option, Some, None}
use mathlib.Core.Path.{ap, ◌∙◌}
use Rattle.error.specs.Told.{Told as Answer}
use Rattle.breaker.specs.declared.Breaker.{Breaker}
use Rattle.breaker.specs.Record.{Settings, State}
use Rattle.breaker.specs.Rules.{Outcome}
use Rattle.breaker.specs.Calls.{after, on_sound, reconfigured}
use Rattle.checkpoints.specs.Calls.{SaveAfter, save_after}
use Rattle.crossing.specs.declared.Told.{Told}
use Rattle.crossing.specs.declared.Setting.{Setting}
use Rattle.crossing.specs.Crossing.{packed, crossing_save, crossed_save, is_policy, on_reply, builder_by, unknown_policy, reconfigured_by}

pub known : {A : Type 0} (ok : Bool) (x y : A) (r : Option A) (rule : A → Settings → State → Outcome) (b : Breaker) (s : List ℕ)
    → r ≡ (if ok then Some x else None) → r ≡ Some y → on_sound (rule y) b s ≡ on_reply ok (rule x) b s
unfolding on_reply
known true x y r rule b s p q = grind (arith, p, q)
known false x y r rule b s p q = grind (arith, p, q)

module _ (x : Setting) (b : Breaker) (s : List ℕ) where
  -- new settings of a known policy kind: what the builder that they stand for puts in force
  pub known-reconfigured : is_policy x.kind ≡ true → reconfigured (builder_by x) b s ≡ reconfigured_by x b s
  unfolding reconfigured_by
  known-reconfigured e = simp e

  -- of an unknown kind: 3 or else 4 is told, and record and storage are left as they were
  pub unknown-reconfigured : is_policy x.kind ≡ false → after (unknown_policy s) b s ≡ reconfigured_by x b s
  unfolding reconfigured_by
  unknown-reconfigured e = simp e

-- a save leaves what its rule says: what it told, as plain numbers, and every byte of the buffer
pub cross-save : (r : Told) (t : Answer) (buffer : List ℕ) → r ≡ packed t → (a : SaveAfter) → save_after t buffer ≡ a → crossing_save r buffer ≡ crossed_save a
unfolding crossed_save
cross-save r t buffer e a q = ap (λ (x : Told). crossing_save x buffer) e ∙ ap crossed_save q
