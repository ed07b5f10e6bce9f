-- The entry points: each tests 3 and 4 (making a breaker: 3, 1, 2), and then does what its rule says. Definitions only.
use Rattle.std.specs.Prelude.{ℕ, Bool, true, false, not, List, [], eqb, length, if◌then◌else◌, Option, None, Result, Ok, Err}
use Rattle.std.specs.Option.{is_some}
use Rattle.error.specs.Told.{Told, nothing, refused}
use Rattle.error.specs.declared.Refusal.{Refusal}
use Rattle.error.specs.declared.Refusal.TheVariants.{Storage, Unsound}
use Rattle.history.specs.Items.{padded, failures}
use Rattle.trip.specs.declared.Config.{Config}
use Rattle.trip.specs.declared.CircuitBreakerBuilder.{CircuitBreakerBuilder}
use Rattle.trip.specs.Settings.{built_of}
use Rattle.trip.specs.Policy.{Policy, Consecutive, Ratio, Windowed, board_figure}
use Rattle.breaker.specs.declared.Ticket.{Ticket}
use Rattle.breaker.specs.declared.Breaker.{Breaker}
use Rattle.breaker.specs.declared.Answered.{Answered}
use Rattle.breaker.specs.declared.Delay.{Delay}
use Rattle.breaker.specs.declared.NotAdmitted.{NotAdmitted}
use Rattle.breaker.specs.declared.NotAdmitted.TheVariants.{Shed}
use Rattle.breaker.specs.declared.Tried.TheVariants as TriedIs
use Rattle.breaker.specs.declared.Decision.{Decision}
use Rattle.breaker.specs.declared.Decision.TheVariants.{Acquired, Retry, Impossible}
use Rattle.breaker.specs.Record.{Settings, State, Closed, settings, state, stored, sound}
use Rattle.breaker.specs.Answers.{delay_of, is_acquired, admission_told, tried_told, standing_told, notice_told, decided_told, reserved_told, counted_told}
use Rattle.breaker.specs.Rules.{Outcome, outcome, done, next, no_counts, Admitted, granted, shed, admit, admit_as, settled, aborted, released, Verdict, admits, refuses, still_admits}

-- ---- what a call leaves: what it told, the record, and every place

pub record After : Type 0 where
  pub told : Told
  pub breaker : Breaker
  pub places : List ℕ

abbrev pub after : Told → Breaker → List ℕ → After
after t b s = record { told = t; breaker = b; places = s }

-- of a call by value: its answer and the record after it; refused or shed, the record as it was
abbrev pub by_value : {A E : Type 0} → (Result A E → Told) → Result (Answered A) E → Breaker → List ℕ → After
by_value told (Ok x) b s = after (told (Ok x.answer)) x.breaker s
by_value told (Err e) b s = after (told (Err e)) b s

-- of one that answers no more than the record after it
abbrev pub done_by_value : Result Breaker Refusal → Breaker → List ℕ → After
done_by_value (Ok next) b s = after nothing next s
done_by_value (Err r) b s = after (refused r) b s

-- "Tested in the order 3, 4": storage of other than 4,096 places, then a record or list that isn't sound
abbrev pub guarded : {A : Type 0} → (Refusal → A) → A → Breaker → List ℕ → A
guarded refusal answer b s =
    if not (eqb (length s) 4096) then refusal Storage
    else if not (sound b s) then refusal Unsound
    else answer

-- a state is stored as its fields, its list and zeros; a sound record and its places are their state, stored (`stored-state` and
-- `padded-state` of proofs/Record.antt)
abbrev pub kept : Config → Outcome → After
kept c o = after o.told (stored c o.after) (padded o.after.list)

-- a call that may change the breaker; refused it leaves all as it was
unfoldable pub on_sound : (Settings → State → Outcome) → Breaker → List ℕ → After
on_sound rule b s = guarded (λ r. after (refused r) b s) (kept b.config (rule (settings b.config) (state b s))) b s

-- a call that only reads it
unfoldable pub asked : (Settings → State → Told) → Breaker → List ℕ → Told
asked rule b s = guarded refused (rule (settings b.config) (state b s)) b s

-- ---- making a breaker: 3, then what the builder refuses; Closed, generation 0, every counter and open-until 0, all places 0

abbrev pub fresh : State
fresh = record { state = Closed; generation = 0; run = 0; counts = no_counts; open_until = 0; list = [] }

-- the same of another generation
abbrev pub fresh_at : ℕ → State
fresh_at generation = record { state = Closed; generation = generation; run = 0; counts = no_counts; open_until = 0; list = [] }

abbrev pub put : Result Config Refusal → Breaker → List ℕ → After
put (Ok c) b s = kept c (done fresh)
put (Err r) b s = after (refused r) b s

unfoldable pub built : CircuitBreakerBuilder → Breaker → List ℕ → After
built builder b s = if not (eqb (length s) 4096) then after (refused Storage) b s else put (built_of builder) b s

-- ---- W-201: "New settings go into force as a fresh record whose generation is one past the present one": 3, 4, then what the builder refuses

abbrev pub renewed : Result Config Refusal → Breaker → List ℕ → After
renewed (Ok c) b s = kept c (done (fresh_at (next b.shared.generation)))
renewed (Err r) b s = after (refused r) b s

unfoldable pub reconfigured : CircuitBreakerBuilder → Breaker → List ℕ → After
reconfigured builder b s = guarded (λ r. after (refused r) b s) (renewed (built_of builder) b s) b s

-- ---- admission

abbrev pub answered : Admitted → State → Outcome
answered (granted t next) st = outcome (admission_told (Ok t)) next
answered (shed ms) st = outcome (admission_told (Err (Shed (delay_of ms)))) st

abbrev pub admission : Bool → ℕ → Settings → State → Outcome
admission trait reading s st = answered (admit_as trait s reading st) st

-- `try_admit`: the inner limiter was asked for 1; "ticket aborted", "a transition made by the admission stays"
abbrev pub try_inner : Decision → ℕ → Admitted → State → Outcome
try_inner Acquired capacity (granted t next) st = outcome (tried_told (Ok (TriedIs.Granted t))) next
try_inner (Retry d) capacity (granted t next) st = outcome (tried_told (Ok TriedIs.Retry)) (aborted t false next)
try_inner Impossible capacity (granted t next) st = outcome (tried_told (Ok (TriedIs.Impossible 1 capacity))) (aborted t false next)
try_inner inner capacity (shed ms) st = outcome (tried_told (Err (Shed (delay_of ms)))) st

abbrev pub try_admit : Decision → ℕ → ℕ → Settings → State → Outcome
try_admit inner capacity reading s st = try_inner inner capacity (admit s reading st) st

-- `still_admits`
abbrev pub verdict_of : Verdict → Result (Unit {0}) NotAdmitted
verdict_of admits = Ok tt
verdict_of (refuses ms) = Err (Shed (delay_of ms))

abbrev pub still_admitted : ℕ → Ticket → Settings → State → Told
still_admitted reading t s st = standing_told (verdict_of (still_admits reading t st))

-- ---- finishing

abbrev pub settle : ℕ → Ticket → Bool → Settings → State → Outcome
settle reading t good s st = settled s reading t good st

abbrev pub abort_as : Ticket → Bool → Settings → State → Outcome
abort_as t trait s st = done (aborted t trait st)

-- "Cancel is an abort plus a notice to refund 1."
abbrev pub cancel : Ticket → Settings → State → Outcome
cancel t s st = outcome (notice_told (Ok 1)) (aborted t false st)

-- ---- the trait side: "a shed is a retry with the delay (`reserve`: none). An inner reply that isn't acquired, or an empty reservation,
-- is handed on after a trait abort."

abbrev pub retry : ℕ → Decision
retry ms = Retry (delay_of ms)

abbrev pub decided : Decision → Told
decided d = decided_told (Ok d)

abbrev pub handed_on : Bool → Told → Ticket → State → Outcome
handed_on acquired told t next = outcome told (if acquired then next else aborted t true next)

abbrev pub acquire_inner : Decision → Admitted → State → Outcome
acquire_inner inner (granted t next) st = handed_on (is_acquired inner) (decided inner) t next
acquire_inner inner (shed ms) st = outcome (decided (retry ms)) st

abbrev pub acquire_cost : Decision → ℕ → Settings → State → Outcome
acquire_cost inner reading s st = acquire_inner inner (admit_as true s reading st) st

abbrev pub reserved : Option Delay → Told
reserved w = reserved_told (Ok w)

abbrev pub reserve_inner : Option Delay → Admitted → State → Outcome
reserve_inner inner (granted t next) st = handed_on (is_some inner) (reserved inner) t next
reserve_inner inner (shed ms) st = outcome (reserved None) st

abbrev pub reserve : Option Delay → ℕ → Settings → State → Outcome
reserve inner reading s st = reserve_inner inner (admit_as true s reading st) st

-- "Peek refuses as an admission would, changes nothing, else hands on the inner limiter's answer."
abbrev pub peeked : Decision → Admitted → Decision
peeked inner (granted t next) = inner
peeked inner (shed ms) = retry ms

abbrev pub peek : Decision → ℕ → Settings → State → Told
peek inner reading s st = decided (peeked inner (admit s reading st))

-- "Available is the inner count if a peek of cost 0 is acquired, else 0."
abbrev pub available : Decision → ℕ → ℕ → Settings → State → Told
available inner count reading s st = counted_told (Ok (if is_acquired (peeked inner (admit s reading st)) then count else 0))

-- the trait refund, with its notice to the inner limiter in every state
abbrev pub refund : ℕ → Settings → State → Outcome
refund cost s st = outcome (notice_told (Ok cost)) (released st)

-- ---- the board figure: "0 for … another policy"

abbrev pub figure : Policy → List ℕ → ℕ
figure (Consecutive n) xs = 0
figure (Ratio window ratio least) xs = board_figure (failures xs) (length xs)
figure (Windowed limit period) xs = 0

abbrev pub board : Settings → State → Told
board s st = counted_told (Ok (figure s.policy st.list))
