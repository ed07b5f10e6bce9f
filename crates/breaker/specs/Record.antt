-- "The breaker record": what the caller stores, what it means, and when it is sound. Definitions only.
use Rattle.std.specs.Prelude.{ℕ, Bool, false, not, ◌&&◌, ◌||◌, List, [], ◌∷◌, leb, ltb, eqb, length, if◌then◌else◌}
use Rattle.std.specs.Float.{binary64}
use Rattle.std.specs.Float.Ieee.{of_bits, nan_bits, le}
use Rattle.history.specs.declared.Items.{Items}
use Rattle.history.specs.declared.Items.TheVariants.{Nothing, Outcomes, Times}
use Rattle.history.specs.Items.{view, sound_list}
use Rattle.trip.specs.declared.Config.{Config}
use Rattle.trip.specs.Settings.{zero_ratio, one_ratio}
use Rattle.trip.specs.Policy.{Policy, Consecutive, Ratio, Windowed, policy_of}
use Rattle.breaker.specs.declared.Counts.{Counts}
use Rattle.breaker.specs.declared.Shared.{Shared}
use Rattle.breaker.specs.declared.Breaker.{Breaker}

-- ---- "The breaker record. In this order, with width in bytes"

-- a number of the record: its width, and where it stands
pub record Field : Type 0 where
  pub width : ℕ
  pub value : Breaker → ℕ

abbrev pub field : ℕ → (Breaker → ℕ) → Field
field width value = record { width = width; value = value }

-- "policy kind 1 …, n or window or failures 4, ratio bits 8, min calls 4, period ms 8, cooldown ms 8, trials 4, required 4, state 1 …,
-- generation 8, run 4, inflight 4, trait probes 4, successes 4, open-until 8, list length 4" (`same-values`: a record is these numbers)
abbrev pub record_fields : List Field
record_fields =
    field 1 (λ b. b.config.kind)
    ∷ field 4 (λ b. b.config.limit)
    ∷ field 8 (λ b. b.config.ratio_bits)
    ∷ field 4 (λ b. b.config.min_calls)
    ∷ field 8 (λ b. b.config.period_ms)
    ∷ field 8 (λ b. b.config.cooldown_ms)
    ∷ field 4 (λ b. b.config.trials)
    ∷ field 4 (λ b. b.config.required)
    ∷ field 1 (λ b. b.shared.state)
    ∷ field 8 (λ b. b.shared.generation)
    ∷ field 4 (λ b. b.shared.run)
    ∷ field 4 (λ b. b.shared.counts.inflight)
    ∷ field 4 (λ b. b.shared.counts.trait_probes)
    ∷ field 4 (λ b. b.shared.counts.successes)
    ∷ field 8 (λ b. b.shared.open_until)
    ∷ field 4 (λ b. b.shared.len)
    ∷ []

-- "state 1 (0 Closed, 1 HalfOpen, 2 Open)"
abbrev pub Closed : ℕ
Closed = 0

abbrev pub HalfOpen : ℕ
HalfOpen = 1

abbrev pub Open : ℕ
Open = 2

-- ---- what the rules speak of: the settings, and the state that calls change, with its list and no places

pub record Settings : Type 0 where
  pub policy : Policy
  pub cooldown : ℕ
  pub trials : ℕ
  pub required : ℕ

pub record State : Type 0 where
  pub state : ℕ
  pub generation : ℕ
  pub run : ℕ
  pub counts : Counts
  pub open_until : ℕ
  pub list : List ℕ

abbrev pub settings : Config → Settings
settings c = record { policy = policy_of c; cooldown = c.cooldown_ms; trials = c.trials; required = c.required }

-- the state of a record and its storage
abbrev pub state : Breaker → List ℕ → State
state b s =
    let h = b.shared in
    record {
      state = h.state;
      generation = h.generation;
      run = h.run;
      counts = h.counts;
      open_until = h.open_until;
      list = view h.len s;
    }

-- the record's changing fields for a state
abbrev pub fields : State → Shared
fields st =
    record {
      state = st.state;
      generation = st.generation;
      run = st.run;
      counts = st.counts;
      open_until = st.open_until;
      len = length st.list;
    }

abbrev pub stored : Config → State → Breaker
stored c st = record { config = c; shared = fields st }

-- ---- "Sound means"

-- "normalised settings": a number from 0.0 to 1.0
abbrev pub sound_ratio : ℕ → Bool
sound_ratio bits = not (nan_bits binary64 bits) && (le zero_ratio (of_bits binary64 bits) && le (of_bits binary64 bits) one_ratio)

-- "known codes and normalised settings within number 2's limits"; "Fields of another policy are 0."
unfoldable pub sound_policy : Config → Bool
sound_policy c =
    if eqb c.kind 1 then leb 1 c.limit && (eqb c.ratio_bits 0 && (eqb c.min_calls 0 && eqb c.period_ms 0))
    else if eqb c.kind 2 then leb 1 c.limit && (leb c.limit 4096 && (sound_ratio c.ratio_bits && (leb c.min_calls c.limit && eqb c.period_ms 0)))
    else if eqb c.kind 3 then leb 1 c.limit && (leb c.limit 4096 && (eqb c.ratio_bits 0 && eqb c.min_calls 0))
    else false

-- "Trials at least 1; required 1 to trials."
unfoldable pub sound_config : Config → Bool
sound_config c = sound_policy c && (leb 1 c.required && leb c.required c.trials)

-- nothing is counted
abbrev pub is_idle : Counts → Bool
is_idle x = eqb x.inflight 0 && (eqb x.trait_probes 0 && eqb x.successes 0)

-- "inflight ≤ trials, successes < required; inflight, trait probes and successes 0 outside HalfOpen"
unfoldable pub sound_shared : Config → Shared → Bool
sound_shared c h =
    leb h.state 2
    && (leb h.counts.inflight c.trials && (ltb h.counts.successes c.required && (eqb h.state HalfOpen || is_idle h.counts)))

-- "outcomes (1 failed, 0 good) for Ratio, readings for Windowed, empty for Consecutive"
abbrev pub items_for : Policy → Items
items_for (Consecutive n) = Nothing
items_for (Ratio window ratio least) = Outcomes window
items_for (Windowed limit period) = Times

abbrev pub items_of : Config → Items
items_of c = items_for (policy_of c)

-- what is sound of the record alone
abbrev pub sound_record : Breaker → Bool
sound_record b = sound_config b.config && sound_shared b.config b.shared

unfoldable pub sound : Breaker → List ℕ → Bool
sound b s = sound_config b.config && (sound_shared b.config b.shared && sound_list (items_of b.config) b.shared.len s)
