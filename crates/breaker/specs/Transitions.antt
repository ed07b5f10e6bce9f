-- W-201: "no ticket granted fewer than 2^64 transitions earlier (returns and new settings counted, this one too) is of that generation". Over
-- any sequence of the calls that write a record. Definitions only.
use Rattle.std.specs.Prelude.{ℕ, ◌+◌, ◌-◌, ◌^◌, ◌<◌, min, ◌≡◌, ◌≢◌, Bool, true, false, not, ◌&&◌, List, [], ◌∷◌, eqb, leb, if◌then◌else◌}
use Rattle.error.specs.Choice.{bit}
use Rattle.trip.specs.declared.Config.{Config}
use Rattle.trip.specs.Policy.{tripped}
use Rattle.breaker.specs.declared.Ticket.{Ticket}
use Rattle.breaker.specs.Record.{Settings, State, Closed, HalfOpen, Open, settings}
use Rattle.breaker.specs.Rules.{next, Admitted, granted, shed, admit_as, settled, aborted, released, manual, closing, recorded, no_room, returned}
use Rattle.breaker.specs.Calls.{fresh_at}

-- the settings and the state in force
pub record InForce : Type 0 where
  pub config : Config
  pub state : State

abbrev pub in_force : Config → State → InForce
in_force c st = record { config = c; state = st }

-- what may be written: every call is made of these (an admission that the inner limiter refuses is an admission and an abort)
pub data Write : Type 0 where
  admission : Bool → ℕ → Write
  outcome_of : ℕ → Ticket → Bool → Write
  abort : Ticket → Bool → Write
  release : Write
  manual_outcome : ℕ → Bool → Write
  resetting : Write
  returning : Config → State → Write
  new_settings : Config → Write

abbrev pub entered : Admitted → State → State
entered (granted t now) st = now
entered (shed ms) st = st

abbrev pub writes : Write → InForce → InForce
writes (admission trait reading) f = in_force f.config (entered (admit_as trait (settings f.config) reading f.state) f.state)
writes (outcome_of reading t good) f = in_force f.config (settled (settings f.config) reading t good f.state).after
writes (abort t trait) f = in_force f.config (aborted t trait f.state)
writes release f = in_force f.config (released f.state)
writes (manual_outcome reading good) f = in_force f.config (manual (settings f.config) reading good f.state).after
writes resetting f = in_force f.config (closing f.state)
writes (returning c st) f = in_force c (returned f.state.generation st)
writes (new_settings c) f = in_force c (fresh_at (next f.state.generation))

-- ---- the transitions, counted from the calls

-- an outcome of the present generation: it opens, closes or trips, or does none of these
abbrev pub settles : Settings → ℕ → Bool → State → Bool
settles s reading good st =
    if eqb st.state HalfOpen then (if good then leb s.required (st.counts.successes + 1) else true)
    else if eqb st.state Closed then
    (if good then false
    else not (no_room s.policy reading st.list)
    && tripped s.policy reading (min (st.run + 1) (2 ^ 32 - 1)) (recorded s.policy true reading st.list))
    else false

abbrev pub transitions : Write → InForce → ℕ
transitions (admission trait reading) f = bit (eqb f.state.state Open && leb f.state.open_until reading)
transitions (outcome_of reading t good) f = bit (eqb t.generation f.state.generation && settles (settings f.config) reading good f.state)
transitions (abort t trait) f = 0
transitions release f = 0
transitions (manual_outcome reading good) f = bit (settles (settings f.config) reading good f.state)
transitions resetting f = 1
transitions (returning c st) f = 1
transitions (new_settings c) f = 1

-- ---- any sequence

unfoldable pub all_written : List Write → InForce → InForce
all_written [] f = f
all_written (w ∷ ws) f = all_written ws (writes w f)

unfoldable pub all_transitions : List Write → InForce → ℕ
all_transitions [] f = 0
all_transitions (w ∷ ws) f = transitions w f + all_transitions ws (writes w f)

-- a ticket of the generation in force before them is of another one after 1 to 2^64 − 1 transitions
abbrev pub Tickets : Type 0
Tickets =
    (f : InForce) (ws : List Write) → 0 < all_transitions ws f → all_transitions ws f < 2 ^ 64
    → (all_written ws f).state.generation ≢ f.state.generation

-- and after 2^64 it may be of the same one again
abbrev pub TicketsAgain : Type 0
TicketsAgain =
    (f : InForce) → f.state.generation < 2 ^ 64
    → (ws : List Write) × (all_transitions ws f ≡ 2 ^ 64) × ((all_written ws f).state.generation ≡ f.state.generation)
