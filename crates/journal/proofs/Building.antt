-- Laws of the breaker that a header makes. Assumes nothing.
use Rattle.std.proofs.Common.{if◌then◌else◌, Result, Ok, Err}
use Prim.Native.Nat.{ℕ, min, max}
use native.Mathlib.Omega.{arith}
use mathlib.Core.Path.{◌≡◌, refl, sym, ap, ap₂, ◌∙◌}
use mathlib.Core.Bool.{Bool, true, false}
use mathlib.Core.List.{List, []}
use lib.ListN.{length}
use lib.Ieee.{binary64}
use lib.Ieee.Bits.{of_bits-fits}
use lib.Dec.{ltb}
use borrow.Author.Tests.{eq-eqb}
use Rattle.error.specs.declared.Refusal.TheVariants.{Limit}
use Rattle.error.specs.Told.{tell, refused}
use Rattle.error.specs.declared.Refusal.{Refusal}
use Rattle.error.proofs.OneToOne.{no-refusal, refused-one}
use Rattle.history.specs.Items.{padded}
use Rattle.trip.specs.declared.Config.{Config}
use Rattle.trip.specs.Settings.{built_of, settings_of, millis, of_millis}
use Rattle.trip.proofs.Settings.{of-millis-time}
use Rattle.breaker.specs.declared.Breaker.{Breaker}
use Rattle.breaker.specs.Record.{state, stored, sound}
use Rattle.breaker.specs.Calls.{After, after, fresh, put, built}
use Rattle.breaker.proofs.Record.{state-stored}
use Rattle.breaker.proofs.Built.{RatioFits, sound-built}
use Rattle.lines.specs.declared.Header.{Header}
use Rattle.lines.specs.declared.HeaderPolicy.{HeaderPolicy}
use Rattle.lines.specs.declared.HeaderPolicy.TheVariants.{Consecutive, Ratio, Windowed}
use Rattle.journal.specs.Replay.{trip_of, builder_of}

-- ---- a header is refused by number 2 alone: its times are whole milliseconds
limit-alone : (x : Bool) (c : Config) (r : Refusal) → (if x then Err Limit else Ok c) ≡ Err r → r ≡ Limit
limit-alone true c r e = cc
limit-alone false c r e = let z : ◌≡◌ {A = ℕ} 0 1 = cc in absurd (omega arith)

pub refused-limit : (h : Header) (r : Refusal) → built_of (builder_of h) ≡ Err r → r ≡ Limit
unfolding built_of
refused-limit h r e = go h.policy (rw (of-millis-time h.cooldown_ms) at e)
  where
    go : (p : HeaderPolicy) → (let trials = max h.trials 1 in settings_of (trip_of p) (millis (of_millis h.cooldown_ms)) trials (min (max h.required 1) trials)) ≡ Err r → r ≡ Limit
    go (Consecutive n) e = limit-alone false _ r e
    go (Ratio w b m) e = limit-alone (ltb 4096 (max w 1)) _ r e
    go (Windowed f p) e = limit-alone (ltb 4096 (max f 1)) _ r (rw (of-millis-time p) at e)

-- ---- a header's breaker is sound
ratio-fits : (p : HeaderPolicy) → RatioFits (trip_of p)
ratio-fits (Consecutive n) = tt
ratio-fits (Ratio w b m) = of_bits-fits binary64 b
ratio-fits (Windowed f p) = tt

-- a breaker, where one is asked for and none is there
pub some_breaker : Breaker
some_breaker = stored (record { kind = 0; limit = 0; ratio_bits = 0; min_calls = 0; period_ms = 0; cooldown_ms = 0; trials = 0; required = 0 }) fresh

-- what is left by building: a fresh breaker, or all as it was
abbrev pub IsMade : Header → Breaker → List ℕ → Type 0
IsMade h b s = (c : Config) × (built_of (builder_of h) ≡ Ok c) × (b.config ≡ c) × (state b s ≡ fresh) × (sound b s ≡ true)

module _ (h : Header) (b b' : Breaker) (s s' : List ℕ) (n : length s ≡ 4096) where
  put_is : (left : After) → left ≡ built (builder_of h) b s → left ≡ put (built_of (builder_of h)) b s
  unfolding built
  put_is left e = rw (eq-eqb (length s) 4096 n) at e

  pub build-made : after (tell 0 []) b' s' ≡ built (builder_of h) b s → IsMade h b' s'
  build-made e = go (built_of (builder_of h)) refl (put_is (after (tell 0 []) b' s') e)
    where
      go : (x : Result Config Refusal) → built_of (builder_of h) ≡ x → after (tell 0 []) b' s' ≡ put x b s → IsMade h b' s'
      go (Ok c) m e =
          let p : b' ≡ stored c fresh = ap (λ (a : After). a.breaker) e in
          let q : s' ≡ padded [] = ap (λ (a : After). a.places) e in
          (c, m, rw p refl, ap₂ state p q ∙ state-stored c fresh, ap₂ sound p q ∙ sound-built (builder_of h) c (ratio-fits h.policy) m)
      go (Err r) m e = no-refusal r [] (ap (λ (a : After). a.told) e)

  pub build-refused : (r : Refusal) → after (refused r) b' s' ≡ built (builder_of h) b s → (built_of (builder_of h) ≡ Err r) × (s' ≡ s)
  build-refused r e = go (built_of (builder_of h)) refl (put_is (after (refused r) b' s') e)
    where
      go : (x : Result Config Refusal) → built_of (builder_of h) ≡ x → after (refused r) b' s' ≡ put x b s → (built_of (builder_of h) ≡ Err r) × (s' ≡ s)
      go (Ok c) m e = no-refusal r [] (sym (ap (λ (a : After). a.told) e))
      go (Err w) m e = let q : r ≡ w = refused-one r w (ap (λ (a : After). a.told) e) in (rw q m, ap (λ (a : After). a.places) e)
