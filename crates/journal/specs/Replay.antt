-- "The archive journal": the answer to a whole journal, by the printing of its lines and the rules of the breaker. Definitions only.
use Rattle.std.specs.Prelude.{ℕ, suc, ◌+◌, ◌*◌, ◌≤◌, ◌<◌, min, ◌≡◌, Bool, true, false, List, [], ◌∷◌, ◌++◌, eqb, ltb, length, take, drop, Result, Ok, Err, if◌then◌else◌}
use Rattle.std.specs.Float.{binary64}
use Rattle.std.specs.Float.Ieee.{of_bits}
use Rattle.error.specs.Told.{Told, number_of}
use Rattle.error.specs.declared.Refusal.{Refusal}
use Rattle.error.specs.declared.Refusal.TheVariants.{Storage}
use Rattle.history.specs.Items.{padded}
use Rattle.trip.specs.declared.CircuitBreakerBuilder.{CircuitBreakerBuilder}
use Rattle.trip.specs.declared.Config.{Config}
use Rattle.trip.specs.declared.Duration.{Duration}
use Rattle.trip.specs.declared.Trip.{Trip}
use Rattle.trip.specs.declared.Trip.TheVariants as TripIs
use Rattle.trip.specs.Settings.{built_of, of_millis}
use Rattle.breaker.specs.Record.{Settings, State, settings}
use Rattle.breaker.specs.Rules.{Outcome, reset}
use Rattle.breaker.specs.Calls.{fresh, admission, settle, abort_as}
use Rattle.lines.specs.declared.Call.{Call}
use Rattle.lines.specs.declared.Order.{Order}
use Rattle.lines.specs.declared.Order.TheVariants.{Admit, Success, Failure, Abort, Reset}
use Rattle.lines.specs.declared.Header.{Header}
use Rattle.lines.specs.declared.HeaderPolicy.{HeaderPolicy}
use Rattle.lines.specs.declared.HeaderPolicy.TheVariants.{Consecutive, Ratio, Windowed}
use Rattle.lines.specs.Print.{print_line, print_header, HeaderFits, print_call, CallFits}
use Rattle.lines.specs.Reads.{NoHeader, NoCall}
use Rattle.journal.specs.declared.NotReplayed.{NotReplayed}
use Rattle.journal.specs.declared.NotReplayed.TheVariants as NotReplayedIs

-- ---- a call of the journal, and the line that answers it

-- "`A` admit, `S`, `F`, `X` (success, failure, abort …) or `Z` reset"
abbrev pub ordered : Order → ℕ → Settings → State → Outcome
ordered Admit t s st = admission false t s st
ordered (Success k) t s st = settle t k true s st
ordered (Failure k) t s st = settle t k false s st
ordered (Abort k) t s st = abort_as k false s st
ordered Reset t s st = reset st

abbrev pub called : Call → Settings → State → Outcome
called c = ordered c.order c.reading

-- "then state, generation, inflight, successes, open-until"
abbrev pub five : State → List ℕ
five st = st.state ∷ st.generation ∷ st.counts.inflight ∷ st.counts.successes ∷ st.open_until ∷ []

-- "`G` generation probe, `B` delay, `E` number for another refusal, or `N`": by what the call was told, 0 with a ticket, 6, another number, or 0 alone
abbrev pub accepted : List ℕ → List ℕ → List ℕ
accepted [] vs = print_line 78 vs
accepted (g ∷ p) vs = print_line 71 ((g ∷ p) ++ vs)

abbrev pub answer_line : Told → State → List ℕ
answer_line t st =
    if eqb t.number 0 then accepted t.values (five st)
    else if eqb t.number 6 then print_line 66 (t.values ++ five st)
    else print_line 69 (t.number ∷ five st)

-- "A malformed line prints `E 12` and its number and ends the run"
abbrev pub malformed_line : ℕ → List ℕ
malformed_line n = print_line 69 (12 ∷ n ∷ [])

-- ---- the settings of a header; times are in milliseconds

abbrev pub trip_of : HeaderPolicy → Trip
trip_of (Consecutive n) = TripIs.Consecutive n
trip_of (Ratio window bits least) = TripIs.Ratio window (of_bits binary64 bits) least
trip_of (Windowed failures period) = TripIs.Windowed failures (of_millis period)

abbrev pub builder : Trip → Duration → ℕ → ℕ → CircuitBreakerBuilder
builder trip cooldown trials required = record { trip = trip; cooldown = cooldown; half_open_trials = trials; half_open_required = required }

abbrev pub builder_of : Header → CircuitBreakerBuilder
builder_of h = builder (trip_of h.policy) (of_millis h.cooldown_ms) h.trials h.required

-- ---- the journal

-- From line n on, in the state st, the bytes `input` are answered by `output`, and `end` is the state after them. `more` says that bytes
-- past the limit follow: the line that holds the first of them is malformed, as it has no feed within the limit.
pub data Replays (more : Bool) (s : Settings) : ℕ → State → List ℕ → List ℕ → State → Type 0 where
  finished : {n : ℕ} {st : State} → more ≡ false → Replays more s n st [] [] st
  call : {n : ℕ} {st end : State} {input output : List ℕ} (c : Call) (rest answers : List ℕ)
      → CallFits c → input ≡ print_call c ++ rest
      → output ≡ answer_line (called c s st).told (called c s st).after ++ answers
      → Replays more s (suc n) (called c s st).after rest answers end → Replays more s n st input output end
  malformed : {n : ℕ} {st : State} {input : List ℕ} → (input ≡ [] → more ≡ true) → NoCall input
      → Replays more s n st input (malformed_line n) st

-- The bytes `input`, the storage before, the answer, and the storage after. "A missing header … is malformed"; "a header refused by 2
-- prints `E 2` and ends it"; both leave the storage as it was.
pub data Answers (more : Bool) (input places : List ℕ) : List ℕ → List ℕ → Type 0 where
  headless : NoHeader input → Answers more input places (malformed_line 1) places
  refused : (h : Header) (rest : List ℕ) (r : Refusal) → HeaderFits h → input ≡ print_header h ++ rest → built_of (builder_of h) ≡ Err r
      → Answers more input places (print_line 69 (number_of r ∷ [])) places
  headed : {output : List ℕ} (h : Header) (rest : List ℕ) (c : Config) (end : State) → HeaderFits h → input ≡ print_header h ++ rest
      → built_of (builder_of h) ≡ Ok c → Replays more (settings c) 2 fresh rest output end
      → Answers more input places output (padded end.list)

-- "reads standard input up to 65,536 bytes"; "Longer input is malformed at the line that passes the limit."
abbrev pub Journal : List ℕ → List ℕ → List ℕ → List ℕ → Type 0
Journal input places output after = Answers (ltb 65536 (length input)) (take 65536 input) places output after

-- ---- the entry points: the room that the answer may need is tested first, then number 3

-- a call's line has at least 4 bytes and its answer at most 91, so 23 for each byte; and 149, what any one line may take
abbrev pub room : List ℕ → ℕ
room input = 23 * min (length input) 65536 + 149

-- an answer of n bytes lies in the buffer, and past it the buffer is as it was
abbrev pub Kept : ℕ → List ℕ → List ℕ → Type 0
Kept n out out' = (n ≤ length out') × (drop n out' ≡ drop n out)

-- input, then storage and buffer before and after
abbrev pub Replaying : List ℕ → List ℕ → List ℕ → List ℕ → List ℕ → Result ℕ NotReplayed → Type 0
Replaying input s s' out out' (Ok n) = (room input ≤ length out) × (length s ≡ 4096) × Journal input s (take n out') s' × Kept n out out'
Replaying input s s' out out' (Err NotReplayedIs.TooSmall) = (length out < room input) × (s' ≡ s) × (out' ≡ out)
Replaying input s s' out out' (Err (NotReplayedIs.Refused r)) =
    (room input ≤ length out) × (length s ≡ 4096 → ⊥) × (r ≡ Storage) × (s' ≡ s) × (out' ≡ out)

-- A journal of any length, `whole`, was read into a buffer: the n bytes that came are its first, all of them or as many as the buffer holds.
abbrev pub ReadInto : List ℕ → ℕ → List ℕ → Type 0
ReadInto buffer n whole = take n buffer ≡ take (length buffer) whole

-- Then the answer is that of the whole journal.
abbrev pub ReplayingRead : List ℕ → ℕ → List ℕ → List ℕ → List ℕ → List ℕ → ℕ → Type 0
ReplayingRead buffer n s s' out out' end = ((whole : List ℕ) → ReadInto buffer n whole → Journal whole s (take end out') s') × Kept end out out'
