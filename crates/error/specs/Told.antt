-- "What a caller is told": how an answer is told, and the refusals 1 to 5, 11 and 13 to 15. Rows 6 to 10 stand in specs/Answers of breaker, wait and waiting.
use Rattle.std.specs.Prelude.{ℕ, List, [], Result, Ok, Err}
use Rattle.error.specs.declared.Refusal.{Refusal}
use Rattle.error.specs.declared.Refusal.TheVariants.{Time, Limit, Storage, Unsound, Full, Turn, Damaged, Version, Name}

-- The number of the table, 0 where the call was not refused, and the values returned with it.
pub record Told : Type 0 where
  pub number : ℕ
  pub values : List ℕ

abbrev pub tell : ℕ → List ℕ → Told
tell n vs = record { number = n; values = vs }

-- nothing refused, and nothing returned
abbrev pub nothing : Told
nothing = tell 0 []

-- "Cause" and "Number"
abbrev pub number_of : Refusal → ℕ
number_of Time = 1
number_of Limit = 2
number_of Storage = 3
number_of Unsound = 4
number_of Full = 5
number_of Turn = 11
number_of Damaged = 13
number_of Version = 14
number_of Name = 15

-- rows 1 to 5, 11 and 13 to 15 return the number alone
abbrev pub refused : Refusal → Told
refused r = tell (number_of r) []

-- what an answer tells, or what is told in its place
abbrev pub told_or : {A E : Type 0} → (A → Told) → (E → Told) → Result A E → Told
told_or answer instead (Ok a) = answer a
told_or answer instead (Err e) = instead e

-- what an answer tells, or its refusal
abbrev pub told_by : {A : Type 0} → (A → Told) → Result A Refusal → Told
told_by answer = told_or answer refused
