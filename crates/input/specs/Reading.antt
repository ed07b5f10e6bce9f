-- How an input is read. Which bytes come is said where the reader says which it has left: of standard input no contract can. Definitions only.
use Rattle.std.specs.Prelude.{ℕ, zero, suc, ◌<◌, ◌≤◌, List, length, take, Option, Some, None, Result, Ok, Err}
use Rattle.std.specs.Io.KnownBytes.{Consumes, IsAtEnd}

-- by what a read answered: an error where it failed, none at the end of the input, else how many bytes it brought
abbrev pub brought : {E : Type 0} → Result ℕ E → Result (Option ℕ) E
brought (Err e) = Err e
brought (Ok zero) = Ok None
brought (Ok (suc k)) = Ok (Some (suc k))

-- The bytes that an input had left and has left, and the buffer after: its first n bytes are those that came, and an input that left room ended.
abbrev pub Came : {E : Type 0} → Option (List ℕ) → Option (List ℕ) → List ℕ → Result ℕ E → Type 0
Came old new buffer (Ok n) = (n ≤ length buffer) × Consumes old new (take n buffer) × (n < length buffer → IsAtEnd new)
Came old new buffer (Err e) = Unit
