-- A batch: a sequence of finishing calls given as slices, and what it leaves. Definitions only.
use Rattle.std.specs.Prelude.{ℕ, zero, suc, Bool, true, false, not, ◌&&◌, List, [], ◌∷◌, ◌++◌, map, eqb, length, get_or, if◌then◌else◌}
use Rattle.error.specs.Choice.{flag_of}
use Rattle.error.specs.Told.{Told, refused}
use Rattle.error.specs.declared.Refusal.TheVariants.{Storage}
use Rattle.breaker.specs.declared.Ticket.{Ticket}
use Rattle.breaker.specs.declared.Breaker.{Breaker}
use Rattle.breaker.specs.Rules.{Call, success, failure, abort, trait_abort, done}
use Rattle.breaker.specs.Calls.{After, after, kept, guarded}
use Rattle.breaker.specs.Orders.{in_turn}

-- a settle with success or failure by the mark, or an abort through the trait side or not
abbrev pub call_by : Ticket → Bool → Bool → Call
call_by t true true = success t
call_by t true false = failure t
call_by t false true = trait_abort t
call_by t false false = abort t

-- the slices of a sequence: its i-th call has the i-th place of each; a probe, a settle and a mark are numbers, read by `flag_of`
pub record Slices : Type 0 where
  pub generations : List ℕ
  pub probes : List ℕ
  pub settles : List ℕ
  pub marks : List ℕ

abbrev pub slices : List ℕ → List ℕ → List ℕ → List ℕ → Slices
slices generations probes settles marks = record { generations = generations; probes = probes; settles = settles; marks = marks }

abbrev pub call_at : Slices → ℕ → Call
call_at x i = call_by (record { generation = get_or x.generations i 0; probe = flag_of (get_or x.probes i 0) }) (flag_of (get_or x.settles i 0)) (flag_of (get_or x.marks i 0))

-- the first n calls
unfoldable pub calls_to : Slices → ℕ → List Call
calls_to x zero = []
calls_to x (suc n) = calls_to x n ++ (call_at x n ∷ [])

abbrev pub calls : Slices → List Call
calls x = calls_to x (length x.generations)

-- what a batch leaves: as any call, and the number told to each call of the sequence
pub record Batch : Type 0 where
  pub left : After
  pub answers : List ℕ

abbrev pub batch : After → List ℕ → Batch
batch l a = record { left = l; answers = a }

abbrev pub numbers : List Told → List ℕ
numbers told = map (λ (t : Told). t.number) told

-- all slices have one length
abbrev pub alike : Slices → List ℕ → Bool
alike x answers =
    let n = length x.generations in
    eqb (length x.probes) n && (eqb (length x.settles) n && (eqb (length x.marks) n && eqb (length answers) n))

-- 3 for slices of unequal length, then as every call; the sequence runs from the record and its storage
unfoldable pub finished_all : ℕ → Slices → Breaker → List ℕ → List ℕ → Batch
finished_all reading x b s answers =
    if not (alike x answers) then batch (after (refused Storage) b s) answers
    else
    guarded (λ r. batch (after (refused r) b s) answers)
    (let ran = in_turn reading b s (calls x) in batch (kept b.config (done ran.after)) (numbers ran.answers))
    b
    s
