-- "Edges to prove": P1 to P12 as one list, over the definitions that the promises cite. Definitions only.
use Rattle.std.specs.Prelude.{ℕ, ◌-◌, ◌^◌, ◌≤◌, ◌≡◌, true, false, List, [], ◌∷◌, pos, Ok}
use Rattle.std.specs.Float.{nan, fin, binary64}
use Rattle.std.specs.Float.Ieee.{to_bits}
use Rattle.error.specs.Told.{Told, tell}
use Rattle.trip.specs.declared.Config.{Config}
use Rattle.trip.specs.declared.Trip.TheVariants as TripIs
use Rattle.trip.specs.Settings.{clamped_ratio, normalised_trip, one_ratio, built_of, default_builder, with_half_open}
use Rattle.trip.specs.Policy.{Policy, Consecutive, Windowed}
use Rattle.breaker.specs.declared.Ticket.{Ticket}
use Rattle.breaker.specs.Record.{Settings, State, Closed, HalfOpen, Open, settings}
use Rattle.breaker.specs.Rules.{done, no_counts, opening, closing, half_opening, granted, shed, ticket_of, admit, Call, success, failure, finish, reset, admits, still_admits}
use Rattle.breaker.specs.Calls.{fresh}
use Rattle.breaker.specs.Orders.{sequence}
use Rattle.wait.specs.declared.Wait.{Wait}
use Rattle.wait.specs.declared.Observed.{Observed}
use Rattle.wait.specs.Turns.{new_wait}
use Rattle.wait.specs.Manner.{turned, tell_turn}
use Rattle.keep.specs.Keep.{keep}

-- "P1 n 0 becomes 1."
abbrev pub P1 : Type 0
P1 = normalised_trip (TripIs.Consecutive 0) ≡ TripIs.Consecutive 1

-- "P2 Ratio 0, NaN, 9 becomes 1, 1.0, 1."
abbrev pub P2 : Type 0
P2 = normalised_trip (TripIs.Ratio 0 nan 9) ≡ TripIs.Ratio 1 one_ratio 1

-- "P3 ratio −0.0 stays −0.0.", and so do its bits
abbrev pub P3 : Type 0
P3 = (clamped_ratio (fin true 0 (pos 0)) ≡ fin true 0 (pos 0)) × (to_bits binary64 (clamped_ratio (fin true 0 (pos 0))) ≡ 0x8000_0000_0000_0000)

-- "P4 half-open 3, 9 becomes 3, 3."
abbrev pub P4 : Type 0
P4 =
    built_of (with_half_open 3 9 default_builder)
    ≡ Ok (record { kind = 1; limit = 5; ratio_bits = 0; min_calls = 0; period_ms = 0; cooldown_ms = 30000; trials = 3; required = 3 })

-- ---- the breaker

abbrev pub set : Policy → ℕ → ℕ → Settings
set p cooldown required = record { policy = p; cooldown = cooldown; trials = 2; required = required }

abbrev pub plain : ℕ → Ticket
plain g = record { generation = g; probe = false }

abbrev pub probe : ℕ → Ticket
probe g = record { generation = g; probe = true }

-- HalfOpen with both trials out
abbrev pub trying : ℕ → State
trying g = record { state = HalfOpen; generation = g; run = 2; counts = record { inflight = 2; trait_probes = 0; successes = 0 }; open_until = 30; list = [] }

abbrev pub open_to : ℕ → State
open_to until = record { state = Open; generation = 7; run = 2; counts = no_counts; open_until = until; list = [] }

-- the states after each call
abbrev pub states : Settings → ℕ → List Call → State → List ℕ
states s reading [] st = []
states s reading (c ∷ cs) st = (finish s reading c st).after.state ∷ states s reading cs (finish s reading c st).after

-- "P5 open-until 1,030: 1,029 delays 1, 1,030 probes."
abbrev pub P5 : Type 0
P5 = (s : Settings) → (admit s 1029 (open_to 1030) ≡ shed 1) × (admit s 1030 (open_to 1030) ≡ granted (probe 8) (half_opening (open_to 1030)))

abbrev pub half : Config
half = record { kind = 2; limit = 4; ratio_bits = 0x3fe0_0000_0000_0000; min_calls = 4; period_ms = 0; cooldown_ms = 1000; trials = 1; required = 1 }

-- "P6 window 4, 0.5, min 4: F S F S S F trips at the sixth only."
abbrev pub P6 : Type 0
P6 =
    states (settings half) 40 (failure (plain 0) ∷ success (plain 0) ∷ failure (plain 0) ∷ success (plain 0) ∷ success (plain 0) ∷ failure (plain 0) ∷ []) fresh
    ≡ Closed ∷ Closed ∷ Closed ∷ Closed ∷ Closed ∷ Open ∷ []

abbrev pub failed_at : ℕ → State → State
failed_at reading st = (finish (set (Windowed 2 100) 1000 1) reading (failure (plain 0)) st).after

-- "P7 failures 2, period 100: 0 and 100 trip; 0 and 101 don't."
abbrev pub P7 : Type 0
P7 = ((failed_at 100 (failed_at 0 fresh)).state ≡ Open) × ((failed_at 101 (failed_at 0 fresh)).state ≡ Closed)

-- "P8 generation 2^64 − 1 moves to 0.", at each transition
abbrev pub P8 : Type 0
P8 =
    (s : Settings) (reading : ℕ) (st : State) → st.generation ≡ 2 ^ 64 - 1
    → ((opening s reading st).generation ≡ 0) × ((closing st).generation ≡ 0) × ((half_opening st).generation ≡ 0)

-- "P9 failure at 2^64 − 1, cooldown 1: open-until 2^64 − 1."
abbrev pub P9 : Type 0
P9 = (finish (set (Consecutive 2) 1 1) (2 ^ 64 - 1) (failure (probe 7)) (trying 7)).after.open_until ≡ 2 ^ 64 - 1

-- "P10 reset when fresh: generation 1, ticket 0 still admitted, its failure ignored."
abbrev pub P10 : Type 0
P10 =
    (s : Settings) (reading : ℕ) →
    let st = (reset fresh).after in
    let t = ticket_of fresh false in
    (st.generation ≡ 1) × (still_admits reading t st ≡ admits) × (finish s reading (failure t) st ≡ done st)

abbrev pub final_state : ℕ → List Call → ℕ
final_state required cs = (sequence (set (Consecutive 2) 1000 required) 40 cs (trying 7)).after.state

-- "P11 trials 2, required 2: success and failure open in either order; required 1: order decides."
abbrev pub P11 : Type 0
P11 =
    (final_state 2 (success (probe 7) ∷ failure (probe 7) ∷ []) ≡ Open)
    × (final_state 2 (failure (probe 7) ∷ success (probe 7) ∷ []) ≡ Open)
    × (final_state 1 (success (probe 7) ∷ failure (probe 7) ∷ []) ≡ Closed)
    × (final_state 1 (failure (probe 7) ∷ success (probe 7) ∷ []) ≡ Open)

-- ---- waiting

-- a retry of 0 with no pause and no resume
abbrev pub retry_now : ℕ → Observed
retry_now clock =
    record { clock = clock; epoch_before = 0; epoch_after = 0; kind = 2; duration = 0; pause = 0; postponed_before = 0; postponed_after = 0 }

-- what each turn tells
abbrev pub tells : List Observed → Wait → List Told
tells [] w = []
tells (t ∷ ts) w = let after = tell_turn w (turned keep w t) in after.told ∷ tells ts after.wait

abbrev pub yields : Told
yields = tell 0 (3 ∷ [])

-- "P12 timeout 0, retries 0: four yields, then 9."
abbrev pub P12 : Type 0
P12 =
    (clock : ℕ) → clock ≤ 2 ^ 62
    → tells (retry_now clock ∷ retry_now clock ∷ retry_now clock ∷ retry_now clock ∷ retry_now clock ∷ []) (new_wait clock true 0)
    ≡ yields ∷ yields ∷ yields ∷ yields ∷ tell 9 (0 ∷ []) ∷ []

-- ---- the list

abbrev pub edges : List (Type 0)
edges = P1 ∷ P2 ∷ P3 ∷ P4 ∷ P5 ∷ P6 ∷ P7 ∷ P8 ∷ P9 ∷ P10 ∷ P11 ∷ P12 ∷ []

abbrev pub All : List (Type 0) → Type 0
All [] = Unit
All (P ∷ Ps) = P × All Ps
