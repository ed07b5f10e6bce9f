-- "Tickets and delays": what each call does to a state, and what it tells. Every rule is total, on all numbers; the minus of ℕ stops at 0.
-- Definitions only.
use Rattle.std.specs.Prelude.{ℕ, zero, suc, ◌+◌, ◌-◌, ◌%◌, ◌^◌, min, Bool, true, false, not, ◌&&◌, ◌||◌, List, [], leb, ltb, eqb, if◌then◌else◌}
use Rattle.error.specs.Choice.{bit}
use Rattle.error.specs.Told.{Told, nothing, refused}
use Rattle.error.specs.declared.Refusal.TheVariants.{Full}
use Rattle.history.specs.Items.{cutoff_of, with_outcome, with_time, without_expired}
use Rattle.history.specs.Change.{full}
use Rattle.trip.specs.Policy.{Policy, Consecutive, Ratio, Windowed, tripped}
use Rattle.breaker.specs.declared.Counts.{Counts}
use Rattle.breaker.specs.declared.Ticket.{Ticket}
use Rattle.breaker.specs.Record.{Settings, State, Closed, HalfOpen, Open}

-- what a call does: what it tells, and the state after it
pub record Outcome : Type 0 where
  pub told : Told
  pub after : State

abbrev pub outcome : Told → State → Outcome
outcome t st = record { told = t; after = st }

-- nothing to tell
abbrev pub done : State → Outcome
done st = outcome nothing st

-- ---- the three kinds of change to a state

abbrev pub with_counts : Counts → State → State
with_counts x st =
    record {
      state = st.state;
      generation = st.generation;
      run = st.run;
      counts = x;
      open_until = st.open_until;
      list = st.list;
    }

-- the run of failures and the list
abbrev pub with_history : ℕ → List ℕ → State → State
with_history run list st =
    record {
      state = st.state;
      generation = st.generation;
      run = run;
      counts = st.counts;
      open_until = st.open_until;
      list = list;
    }

-- "Every transition adds 1 to the generation, wrapping from 2^64 − 1 to 0."
abbrev pub next : ℕ → ℕ
next g = (g + 1) % 2 ^ 64

-- the generation after so many transitions. Fewer than 2^64 never bring it back, so a ticket of before them is of another generation, and
-- 2^64 do (`another` and `the_same` of proofs/Generations.antt)
unfoldable pub nexts : ℕ → ℕ → ℕ
nexts zero g = g
nexts (suc k) g = next (nexts k g)

abbrev pub moved : ℕ → ℕ → State → State
moved to until st =
    record {
      state = to;
      generation = next st.generation;
      run = st.run;
      counts = st.counts;
      open_until = until;
      list = st.list;
    }

-- ---- what is counted

abbrev pub no_counts : Counts
no_counts = record { inflight = 0; trait_probes = 0; successes = 0 }

-- "inflight +1"
abbrev pub one_more_trial : Counts → Counts
one_more_trial x = record { inflight = x.inflight + 1; trait_probes = x.trait_probes; successes = x.successes }

-- "adds 1 to trait probes, capped"
abbrev pub one_more_trait_probe : Counts → Counts
one_more_trait_probe x = record { inflight = x.inflight; trait_probes = min (x.trait_probes + 1) (2 ^ 32 - 1); successes = x.successes }

-- inflight and trait probes less by so many, "not below 0"; successes more
abbrev pub less_counts : ℕ → ℕ → ℕ → Counts → Counts
less_counts trials traits good x =
    record { inflight = x.inflight - trials; trait_probes = x.trait_probes - traits; successes = x.successes + good }

abbrev pub counting : ℕ → ℕ → ℕ → State → State
counting trials traits good st = with_counts (less_counts trials traits good st.counts) st

-- ---- the transitions

-- "Opening: open-until = reading + cooldown, capped; inflight, trait probes, successes 0; run and lists kept."
abbrev pub opening : Settings → ℕ → State → State
opening s reading st = moved Open (min (reading + s.cooldown) (2 ^ 64 - 1)) (with_counts no_counts st)

-- "the counters and lists are emptied and the state is Closed"; "Open-until is kept."
abbrev pub closing : State → State
closing st = moved Closed st.open_until (with_history 0 [] (with_counts no_counts st))

-- "go HalfOpen, inflight 1, trait probes and successes 0"
abbrev pub half_opening : State → State
half_opening st = moved HalfOpen st.open_until (with_counts (one_more_trial no_counts) st)

-- W-201: "Coming back puts in force all that was saved, except that the generation becomes one past the present one, and inflight and trait
-- probes are 0."
abbrev pub returned : ℕ → State → State
returned present st =
    record {
      state = st.state;
      generation = next present;
      run = st.run;
      counts = record { inflight = 0; trait_probes = 0; successes = st.counts.successes };
      open_until = st.open_until;
      list = st.list;
    }

-- the same state in another generation
abbrev pub in_generation : ℕ → State → State
in_generation g st = record { state = st.state; generation = g; run = st.run; counts = st.counts; open_until = st.open_until; list = st.list }

-- ---- "Admission."

-- what it comes to: a ticket with the state after it, or a delay in milliseconds
pub data Admitted : Type 0 where
  granted : Ticket → State → Admitted
  shed : ℕ → Admitted

abbrev pub ticket_of : State → Bool → Ticket
ticket_of st probe = record { generation = st.generation; probe = probe }

-- "Closed: current generation, no probe. Open, reading ≥ open-until: go HalfOpen …, probe ticket of the new generation. Open earlier:
-- delay = open-until − reading. HalfOpen with inflight < trials: inflight +1, probe ticket. Otherwise delay 0."
unfoldable pub admit : Settings → ℕ → State → Admitted
admit s reading st =
    if eqb st.state Closed then granted (ticket_of st false) st
    else if eqb st.state Open then
    (if leb st.open_until reading then granted (ticket_of (half_opening st) true) (half_opening st) else shed (st.open_until - reading))
    else if ltb st.counts.inflight s.trials then granted (ticket_of st true) (with_counts (one_more_trial st.counts) st)
    else shed 0

-- "A probe admitted through the trait side adds 1 to trait probes, capped."
abbrev pub noted : State → State
noted st = with_counts (one_more_trait_probe st.counts) st

abbrev pub via_trait : Bool → Admitted → Admitted
via_trait true (granted t st) = granted t (if t.probe then noted st else st)
via_trait false (granted t st) = granted t st
via_trait b (shed ms) = shed ms

abbrev pub admit_as : Bool → Settings → ℕ → State → Admitted
admit_as trait s reading st = via_trait trait (admit s reading st)

-- ---- "Settle"

-- "a probe takes 1 from inflight": what a ticket holds
abbrev pub probes : Ticket → ℕ
probes t = bit t.probe

-- "HalfOpen: a probe takes 1 from inflight, not below 0; a success adds 1 to successes, and at the required number the counters and lists
-- are emptied and the state is Closed; a failure opens."
abbrev pub in_half_open : Settings → ℕ → Ticket → Bool → State → State
in_half_open s reading t true st = if leb s.required (st.counts.successes + 1) then closing st else counting (probes t) 0 1 st
in_half_open s reading t false st = opening s reading st

-- "the policy records"
abbrev pub recorded : Policy → Bool → ℕ → List ℕ → List ℕ
recorded (Consecutive n) failed reading xs = xs
recorded (Ratio window ratio least) failed reading xs = with_outcome window (bit failed) xs
recorded (Windowed limit period) true reading xs = with_time reading period xs
recorded (Windowed limit period) false reading xs = without_expired reading period xs

-- number 5's cause
abbrev pub no_room : Policy → ℕ → List ℕ → Bool
no_room (Consecutive n) reading xs = false
no_room (Ratio window ratio least) reading xs = false
no_room (Windowed limit period) reading xs = full (cutoff_of reading period) xs

-- "Closed: success zeroes the run of failures, failure adds 1, capped; the policy records; a failure may trip."
unfoldable pub in_closed : Settings → ℕ → Bool → State → Outcome
in_closed s reading true st = done (with_history 0 (recorded s.policy false reading st.list) st)
in_closed s reading false st =
    let run = min (st.run + 1) (2 ^ 32 - 1) in
    let list = recorded s.policy true reading st.list in
    if no_room s.policy reading st.list then outcome (refused Full) st
    else if tripped s.policy reading run list then done (opening s reading (with_history run list st))
    else done (with_history run list st)

-- "a ticket of another generation changes nothing", then by the state; "Open: nothing."
unfoldable pub settled : Settings → ℕ → Ticket → Bool → State → Outcome
settled s reading t good st =
    if not (eqb t.generation st.generation) then done st
    else if eqb st.state HalfOpen then done (in_half_open s reading t good st)
    else if eqb st.state Closed then in_closed s reading good st
    else done st

-- ---- "Abort: only a probe of the current generation in HalfOpen; inflight −1, through the trait side trait probes −1 too, neither below 0."

unfoldable pub aborted : Ticket → Bool → State → State
aborted t trait st =
    if t.probe && (eqb t.generation st.generation && eqb st.state HalfOpen) then counting 1 (bit trait) 0 st
    else st

-- ---- the calls that finish a permit: "settles with success or failure, aborts and trait aborts, each with a ticket"

pub data Call : Type 0 where
  success failure abort trait_abort : Ticket → Call

abbrev pub ticket : Call → Ticket
ticket (success t) = t
ticket (failure t) = t
ticket (abort t) = t
ticket (trait_abort t) = t

abbrev pub finish : Settings → ℕ → Call → State → Outcome
finish s reading (success t) st = settled s reading t true st
finish s reading (failure t) st = settled s reading t false st
finish s reading (abort t) st = done (aborted t false st)
finish s reading (trait_abort t) st = done (aborted t true st)

-- ---- the other calls

-- "in HalfOpen with trait probes > 0"
abbrev pub has_trait_probe : State → Bool
has_trait_probe st = eqb st.state HalfOpen && ltb 0 st.counts.trait_probes

-- "Trait refund: in HalfOpen with trait probes > 0, both −1, inflight not below 0."
unfoldable pub released : State → State
released st = if has_trait_probe st then counting 1 1 0 st else st

-- "A manual outcome uses up one trait probe if there is one and then acts as a settle of the current generation, as a probe only if it
-- used one up."
unfoldable pub manual : Settings → ℕ → Bool → State → Outcome
manual s reading good st =
    if has_trait_probe st then settled s reading (ticket_of st true) good (counting 0 1 0 st)
    else settled s reading (ticket_of st false) good st

-- "Reset empties all counters and both lists, then goes Closed; from Closed too the generation moves. Open-until is kept."
abbrev pub reset : State → Outcome
reset st = done (closing st)

-- whether a waiter may still go, or the delay in milliseconds
pub data Verdict : Type 0 where
  admits : Verdict
  refuses : ℕ → Verdict

-- "`still_admits`: yes for an equal generation or for Closed; otherwise open-until − reading (not below 0) in Open, 0 in HalfOpen."
unfoldable pub still_admits : ℕ → Ticket → State → Verdict
still_admits reading t st =
    if eqb t.generation st.generation || eqb st.state Closed then admits
    else if eqb st.state Open then refuses (st.open_until - reading)
    else refuses 0
