-- Laws on the record: what is stored and what it means, and what a sound one has. Assumes nothing.
--     sound→         the test passes: the facts of a sound breaker
--     →sound         and back, for a state
--     same-values    a record is the numbers that document 01 lists
--     stored-state   a sound record is its state, stored; state-stored: a stored state is the state of what was stored
use mathlib.Core.Path.{◌≡◌, refl, sym, ap, ◌∙◌}
use mathlib.Core.Bool.{Bool, true, false, not, ◌&&◌, ◌||◌}
use mathlib.Core.Logic.{◌⊎◌, inl, inr}
use mathlib.Core.List.{List, map}
use Prim.Native.Nat.{ℕ, ◌%◌, ◌^◌, ◌≤◌, ◌<◌}
use native.Mathlib.Omega.{arith}
use lib.Dec.{leb, ltb, eqb}
use lib.ListN.{length, get_or}
use lib.Seq.{length-take-le}
use borrow.Author.Tests.{leb-true, leb-false, ltb-true, ltb-false, eqb-true, le-leb, lt-leb, lt-ltb, le-ltb, eq-eqb}
use Rattle.history.specs.Items.{view, padded, sound_list}
use Rattle.error.proofs.Choice.{and_split}
use Rattle.history.proofs.Sound as List·
use lib.Ieee.{binary64, nan_bits, of_bits, is_nan, le}
use lib.Ieee.Bits.{nan_bits_is, nan_bits_above}
use Rattle.trip.proofs.Ratios.{sign_bit, one_bits, at_least, bits_below, bits_above}
use Rattle.trip.specs.declared.Config.{Config}
use Rattle.trip.specs.Settings.{zero_ratio, one_ratio}
use Rattle.breaker.specs.declared.Counts.{Counts}
use Rattle.breaker.specs.declared.Shared.{Shared}
use Rattle.breaker.specs.declared.Breaker.{Breaker}
use Rattle.breaker.specs.Record.{Field, record_fields, State, HalfOpen, state, stored, sound_ratio, sound_policy, sound_config, is_idle, sound_shared, items_of, sound}

-- ---- the numbers of a record

abbrev values : Breaker → List ℕ
values b = map (λ (f : Field). f.value b) record_fields

of_values : List ℕ → Breaker
of_values vs =
    let at : ℕ → ℕ = λ i. get_or vs i 0 in
    record {
      config = record { kind = at 0; limit = at 1; ratio_bits = at 2; min_calls = at 3; period_ms = at 4; cooldown_ms = at 5; trials = at 6; required = at 7 };
      shared =
          record {
            state = at 8;
            generation = at 9;
            run = at 10;
            counts = record { inflight = at 11; trait_probes = at 12; successes = at 13 };
            open_until = at 14;
            len = at 15;
          };
    }

-- they are all of it
pub same-values : (b b' : Breaker) → values b ≡ values b' → b ≡ b'
unfolding of_values
same-values b b' e = ap of_values e

-- ---- the settings
pub record SoundConfig (c : Config) : Type 0 where
  pub policy : sound_policy c ≡ true
  pub some : 1 ≤ c.required
  pub most : c.required ≤ c.trials

pub config→ : (c : Config) → sound_config c ≡ true → SoundConfig c
unfolding sound_config
config→ c e =
    let p = and_split (sound_policy c) (leb 1 c.required && leb c.required c.trials) e in
    let q = and_split (leb 1 c.required) (leb c.required c.trials) p.1 in
    record { policy = p.0; some = leb-true 1 c.required q.0; most = leb-true c.required c.trials q.1 }

-- ---- the changing fields

-- nothing is counted
abbrev pub Idle : Counts → Type 0
Idle x = (x.inflight ≡ 0) × (x.trait_probes ≡ 0) × (x.successes ≡ 0)

pub record SoundShared (c : Config) (h : Shared) : Type 0 where
  pub code : h.state ≤ 2
  pub inflight : h.counts.inflight ≤ c.trials
  pub successes : h.counts.successes < c.required
  pub idle : (h.state ≡ HalfOpen) ⊎ Idle h.counts

idle→ : (x : Counts) → is_idle x ≡ true → Idle x
idle→ x e =
    let p = and_split (eqb x.inflight 0) (eqb x.trait_probes 0 && eqb x.successes 0) e in
    let q = and_split (eqb x.trait_probes 0) (eqb x.successes 0) p.1 in
    (eqb-true x.inflight 0 p.0, eqb-true x.trait_probes 0 q.0, eqb-true x.successes 0 q.1)

→idle : (x : Counts) → Idle x → is_idle x ≡ true
→idle x z = simp (z.0, z.1, z.2)

half-or : (n : ℕ) (x : Counts) → (eqb n HalfOpen || is_idle x) ≡ true → (n ≡ HalfOpen) ⊎ Idle x
half-or n x e = go (eqb n HalfOpen) refl e
  where
    go : (b : Bool) → eqb n HalfOpen ≡ b → (b || is_idle x) ≡ true → (n ≡ HalfOpen) ⊎ Idle x
    go true i e = inl (eqb-true n HalfOpen i)
    go false i e = inr (idle→ x e)

pub shared→ : (c : Config) (h : Shared) → sound_shared c h ≡ true → SoundShared c h
unfolding sound_shared
shared→ c h e =
    let x = h.counts in
    let i = eqb h.state HalfOpen || is_idle x in
    let p = and_split (leb h.state 2) (leb x.inflight c.trials && (ltb x.successes c.required && i)) e in
    let q = and_split (leb x.inflight c.trials) (ltb x.successes c.required && i) p.1 in
    let r = and_split (ltb x.successes c.required) i q.1 in
    record {
      code = leb-true h.state 2 p.0;
      inflight = leb-true x.inflight c.trials q.0;
      successes = ltb-true x.successes c.required r.0;
      idle = half-or h.state x r.1;
    }

pub →shared : (c : Config) (h : Shared) → SoundShared c h → sound_shared c h ≡ true
unfolding sound_shared
→shared c h f =
    simp (le-leb h.state 2 f.code, le-leb h.counts.inflight c.trials f.inflight, lt-ltb h.counts.successes c.required f.successes)
    (go f.idle)
  where
    either : (b : Bool) → Idle h.counts → (b || is_idle h.counts) ≡ true
    either true z = refl
    either false z = →idle h.counts z

    go : (h.state ≡ HalfOpen) ⊎ Idle h.counts → (eqb h.state HalfOpen || is_idle h.counts) ≡ true
    go (inl e) = simp (eq-eqb h.state HalfOpen e)
    go (inr z) = either (eqb h.state HalfOpen) z

-- ---- the whole
pub record Sound (b : Breaker) (s : List ℕ) : Type 0 where
  pub config : sound_config b.config ≡ true
  pub shared : sound_shared b.config b.shared ≡ true
  pub list : sound_list (items_of b.config) b.shared.len s ≡ true

pub sound→ : (b : Breaker) (s : List ℕ) → sound b s ≡ true → Sound b s
unfolding sound
sound→ b s e =
    let l = sound_list (items_of b.config) b.shared.len s in
    let p = and_split (sound_config b.config) (sound_shared b.config b.shared && l) e in
    let q = and_split (sound_shared b.config b.shared) l p.1 in
    record { config = p.0; shared = q.0; list = q.1 }

pub →sound : (b : Breaker) (s : List ℕ) → Sound b s → sound b s ≡ true
unfolding sound
→sound b s f = simp (f.config, f.shared, f.list)

-- ---- stored and meant
module _ (b : Breaker) (s : List ℕ) (ok : sound b s ≡ true) where
  facts : List·.Sound (items_of b.config) b.shared.len s
  facts = List·.sound→ (items_of b.config) b.shared.len s (sound→ b s ok).list

  pub sound-places : length s ≡ 4096
  sound-places = facts.places

  pub stored-state : b ≡ stored b.config (state b s)
  stored-state =
      let n : b.shared.len ≡ length (view b.shared.len s) = sym (length-take-le b.shared.len s (omega (arith, facts.le, facts.places))) in
      ap (λ (n : ℕ). record { config = b.config; shared = record { state = b.shared.state; generation = b.shared.generation; run = b.shared.run; counts = b.shared.counts; open_until = b.shared.open_until; len = n } }) n

  pub padded-state : s ≡ padded (state b s).list
  padded-state = facts.is_padded

pub state-stored : (c : Config) (st : State) → state (stored c st) (padded st.list) ≡ st
state-stored c st =
    ap (λ (xs : List ℕ). record { state = st.state; generation = st.generation; run = st.run; counts = st.counts; open_until = st.open_until; list = xs })
    (List·.view-padded st.list)

-- ---- a ratio's bits
pub sound-negative-zero : (b : ℕ) → b ≡ sign_bit → true ≡ sound_ratio b
unfolding nan_bits of_bits le
sound-negative-zero b e = rw e

-- of any other
module _ (b : ℕ) (W : b < 2 ^ 64) (Z : b ≡ sign_bit → ⊥) where
  within : (p : Bool) → leb b one_bits ≡ p → (q : Bool) → ltb sign_bit b ≡ q
      → p ≡ (not q && not (ltb b sign_bit && ltb one_bits b))
  within true e true f = let z : ◌≡◌ {A = ℕ} 0 1 = omega (arith, leb-true b one_bits e, ltb-true sign_bit b f) in absurd (omega arith)
  within true e false f = let l = leb-true b one_bits e in simp (lt-ltb b sign_bit (omega arith), le-ltb one_bits b l)
  within false e true f = refl
  within false e false f = let l = ltb-false sign_bit b f in simp (lt-ltb b sign_bit (omega arith), lt-ltb one_bits b (leb-false b one_bits e))

  pub sound-bits : leb b one_bits ≡ sound_ratio b
  unfolding is_nan
  sound-bits = go (nan_bits binary64 b) refl
    where
      go : (n : Bool) → nan_bits binary64 b ≡ n → leb b one_bits ≡ (not n && (le zero_ratio (of_bits binary64 b) && le (of_bits binary64 b) one_ratio))
      go true e = lt-leb b one_bits (omega (arith, ltb-true 0x7ff0_0000_0000_0000 (b % sign_bit) (sym (nan_bits_above binary64 b) ∙ e)))
      go false e =
          let n : is_nan (of_bits binary64 b) ≡ false = sym (nan_bits_is binary64 b) ∙ e in
          rw (at_least (of_bits binary64 b) zero_ratio n refl, at_least one_ratio (of_bits binary64 b) refl n, bits_below b e W, bits_above b e)
          (within (leb b one_bits) refl (ltb sign_bit b) refl)
