-- The last answer of each soundness test, where all tests before it have passed. Assumes nothing.
use mathlib.Core.Path.{◌≡◌, refl, sym}
use mathlib.Core.Bool.{Bool, true, false, ◌&&◌, false≢true}
use mathlib.Core.List.{List}
use Prim.Native.Nat.{ℕ, ◌≤◌, ◌<◌}
use lib.Dec.{eqb}
use borrow.Author.Tests.{eq-eqb, ne_eqb, le-leb, lt-ltb}
use Rattle.error.proofs.Choice.{and_split}
use Rattle.history.specs.Items.{sound_list}
use Rattle.trip.specs.declared.Config.{Config}
use Rattle.breaker.specs.declared.Counts.{Counts}
use Rattle.breaker.specs.declared.Shared.{Shared}
use Rattle.breaker.specs.declared.Breaker.{Breaker}
use Rattle.breaker.specs.Record.{HalfOpen, sound_ratio, sound_policy, sound_config, is_idle, sound_shared, items_of, sound_record, sound}

module _ (c : Config) where
  pub consecutive-last : c.kind ≡ 1 → 1 ≤ c.limit → c.ratio_bits ≡ 0 → c.min_calls ≡ 0 → eqb c.period_ms 0 ≡ sound_policy c
  unfolding sound_policy
  consecutive-last k l r m = simp (eq-eqb _ _ k, le-leb _ _ l, eq-eqb _ _ r, eq-eqb _ _ m)

  pub ratio-last : (c.kind ≡ 1 → ⊥) → c.kind ≡ 2 → 1 ≤ c.limit → c.limit ≤ 4096 → sound_ratio c.ratio_bits ≡ true → c.min_calls ≤ c.limit
      → eqb c.period_ms 0 ≡ sound_policy c
  unfolding sound_policy
  ratio-last n k l u r m = simp (ne_eqb _ _ n, eq-eqb _ _ k, le-leb _ _ l, le-leb _ _ u, r, le-leb _ _ m)

  pub windowed-last : (c.kind ≡ 1 → ⊥) → (c.kind ≡ 2 → ⊥) → c.kind ≡ 3 → 1 ≤ c.limit → c.limit ≤ 4096 → c.ratio_bits ≡ 0
      → eqb c.min_calls 0 ≡ sound_policy c
  unfolding sound_policy
  windowed-last n m k l u r = simp (ne_eqb _ _ n, ne_eqb _ _ m, eq-eqb _ _ k, le-leb _ _ l, le-leb _ _ u, eq-eqb _ _ r)

  pub shared_last : (h : Shared) → h.state ≤ 2 → h.counts.inflight ≤ c.trials → h.counts.successes < c.required → (h.state ≡ HalfOpen → ⊥)
      → is_idle h.counts ≡ sound_shared c h
  unfolding sound_shared
  shared_last h s i g n = simp (le-leb _ _ s, le-leb _ _ i, lt-ltb _ _ g, ne_eqb _ _ n)

pub idle-last : (x : Counts) → x.inflight ≡ 0 → x.trait_probes ≡ 0 → eqb x.successes 0 ≡ is_idle x
idle-last x z t = simp (eq-eqb _ _ z, eq-eqb _ _ t)

pub record-last : (b : Breaker) → sound_policy b.config ≡ true → 1 ≤ b.config.required → b.config.required ≤ b.config.trials
    → sound_shared b.config b.shared ≡ sound_record b
unfolding sound_config
record-last b p r t = simp (p, le-leb _ _ r, le-leb _ _ t)

pub sound-not : (b : Breaker) (s : List ℕ) → sound_record b ≡ false → false ≡ sound b s
unfolding sound
sound-not b s e = go (sound_config b.config) (sound_shared b.config b.shared) (sound_list (items_of b.config) b.shared.len s) e
  where
    go : (x y z : Bool) → (x && y) ≡ false → false ≡ (x && (y && z))
    go true true z e = absurd (false≢true (sym e))
    go true false z e = refl
    go false y z e = refl

pub sound-last : (b : Breaker) (s : List ℕ) → sound_record b ≡ true → sound_list (items_of b.config) b.shared.len s ≡ sound b s
unfolding sound
sound-last b s e = let p = and_split (sound_config b.config) (sound_shared b.config b.shared) e in simp (p.0, p.1)
