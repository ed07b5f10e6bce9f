-- What crosses to C: an answer as plain numbers, and what the plain numbers that come in mean. Definitions only.
use Rattle.std.specs.Prelude.{ℕ, Bool, not, ◌&&◌, List, leb, eqb, length, get_or, if◌then◌else◌, Option, Some, None}
use Rattle.error.specs.Choice.{flag_of}
use Rattle.error.specs.Told.{Told as Answer, refused}
use Rattle.error.specs.declared.Refusal.TheVariants.{Storage, Unsound, Turn}
use Rattle.trip.specs.declared.Trip.{Trip}
use Rattle.trip.specs.declared.Trip.TheVariants.{Consecutive, Ratio, Windowed}
use Rattle.trip.specs.declared.CircuitBreakerBuilder.{CircuitBreakerBuilder}
use Rattle.breaker.specs.declared.Ticket.{Ticket}
use Rattle.breaker.specs.declared.Breaker.{Breaker}
use Rattle.breaker.specs.declared.Decision.{Decision}
use Rattle.breaker.specs.declared.Decision.TheVariants.{Acquired, Retry, Impossible}
use Rattle.breaker.specs.declared.Delay.{Delay}
use Rattle.breaker.specs.Record.{Settings, State}
use Rattle.breaker.specs.Answers.{delay_of}
use Rattle.breaker.specs.Rules.{Outcome}
use Rattle.breaker.specs.Calls.{After, after, guarded, on_sound, asked, built, reconfigured}
use Rattle.breaker.specs.Batch.{Batch}
use Rattle.checkpoints.specs.Calls.{SaveAfter}
use Rattle.crossing.specs.declared.Told.{Told}
use Rattle.preview.specs.Preview.{Preview}
use Rattle.crossing.specs.declared.PlainPreview.{PlainPreview}
use Rattle.crossing.specs.declared.Setting.{Setting}
use Rattle.crossing.specs.declared.PlainTicket.{PlainTicket}

-- ---- what goes out

-- the number, and the values in their order, 0 where there is none; a probe flag is a value of 0 or 1
abbrev pub packed : Answer → Told
packed t = record { number = t.number; v1 = get_or t.values 0 0; v2 = get_or t.values 1 0; v3 = get_or t.values 2 0 }

-- what a call leaves: what it told, the record, and every place
pub record Crossing : Type 0 where
  pub told : Told
  pub breaker : Breaker
  pub places : List ℕ

abbrev pub crossing : Told → Breaker → List ℕ → Crossing
crossing t b s = record { told = t; breaker = b; places = s }

unfoldable pub crossed : After → Crossing
crossed a = crossing (packed a.told) a.breaker a.places

-- what a save leaves: what it told, and every byte of the buffer
pub record CrossingSave : Type 0 where
  pub told : Told
  pub buffer : List ℕ

abbrev pub crossing_save : Told → List ℕ → CrossingSave
crossing_save t buffer = record { told = t; buffer = buffer }

unfoldable pub crossed_save : SaveAfter → CrossingSave
crossed_save a = crossing_save (packed a.told) a.buffer

-- what a batch leaves: as any call, and the number told to each call of the sequence
pub record Crossings : Type 0 where
  pub left : Crossing
  pub answers : List ℕ

abbrev pub crossings : Crossing → List ℕ → Crossings
crossings l a = record { left = l; answers = a }

unfoldable pub crossed_all : Batch → Crossings
crossed_all x = crossings (crossed x.left) x.answers

-- what a preview saw, with what the call would tell as plain numbers
abbrev pub packed_preview : Preview → PlainPreview
packed_preview p = record { told = packed p.told; breaker = p.breaker; len = p.len }

-- ---- a ticket that comes in

-- "A ticket is a generation (64 bits) and a probe flag": the flag crosses as a byte, 0 false and any other number true
abbrev pub ticket_by : PlainTicket → Ticket
ticket_by t = record { generation = t.generation; probe = flag_of t.probe }

-- ---- the kinds that come in: which are known

-- of an inner limiter's reply: 1 acquired, 2 retry, 3 impossible
abbrev pub is_reply : ℕ → Bool
is_reply kind = leb 1 kind && leb kind 3

-- of its reply to a reservation, as of the answer: 0 none, 1 a wait
abbrev pub reservable : ℕ → Bool
reservable kind = leb kind 1

-- of a setting's policy, as of the record: 1 Consecutive, 2 Ratio, 3 Windowed
abbrev pub is_policy : ℕ → Bool
is_policy kind = leb 1 kind && leb kind 3

-- ---- replies of the inner limiter

-- by its kind, and for a retry its milliseconds
abbrev pub decision_by : ℕ → ℕ → Decision
decision_by kind ms =
    if eqb kind 1 then Acquired
    else if eqb kind 2 then Retry (delay_of ms)
    else Impossible

-- 1 a wait of so many milliseconds, 0 none
abbrev pub reservation_by : ℕ → ℕ → Option Delay
reservation_by kind ms = if eqb kind 1 then Some (delay_of ms) else None

-- a call by a reply: "Tested in the order 3, 4, 11"; refused it leaves all as it was
unfoldable pub on_reply : Bool → (Settings → State → Outcome) → Breaker → List ℕ → After
on_reply ok rule b s = if ok then on_sound rule b s else after (guarded refused (refused Turn) b s) b s

unfoldable pub asked_reply : Bool → (Settings → State → Answer) → Breaker → List ℕ → Answer
asked_reply ok rule b s = if ok then asked rule b s else guarded refused (refused Turn) b s

-- ---- a setting that comes in

-- by its kind; the numbers of another policy are not read
abbrev pub trip_by : Setting → Trip
trip_by x =
    if eqb x.kind 1 then Consecutive x.limit
    else if eqb x.kind 2 then Ratio x.limit x.ratio x.min_calls
    else Windowed x.limit (record { secs = x.period_secs; nanos = x.period_nanos })

abbrev pub builder_by : Setting → CircuitBreakerBuilder
builder_by x =
    record {
      trip = trip_by x;
      cooldown = record { secs = x.cooldown_secs; nanos = x.cooldown_nanos };
      half_open_trials = x.trials;
      half_open_required = x.required;
    }

-- what an unknown policy kind is told: 3, then 4
abbrev pub unknown_policy : List ℕ → Answer
unknown_policy s = if not (eqb (length s) 4096) then refused Storage else refused Unsound

-- making a breaker: an unknown kind is refused before what the builder refuses; refused it leaves all as it was
unfoldable pub built_by : Setting → Breaker → List ℕ → After
built_by x b s =
    if is_policy x.kind then built (builder_by x) b s
    else after (unknown_policy s) b s

-- new settings: the same
unfoldable pub reconfigured_by : Setting → Breaker → List ℕ → After
reconfigured_by x b s =
    if is_policy x.kind then reconfigured (builder_by x) b s
    else after (unknown_policy s) b s
