-- W-204: "A preview takes the same inputs and reads the list only. Its answer, refusals included, and the record it returns equal those of the
-- real call made on a copy, and it reports the list length that call would leave." Definitions only.
use Rattle.std.specs.Prelude.{ℕ, Result, Ok, Err}
use Rattle.error.specs.Told.{Told, nothing, refused}
use Rattle.error.specs.declared.Refusal.{Refusal}
use Rattle.breaker.specs.declared.Breaker.{Breaker}
use Rattle.breaker.specs.Calls.{After}

pub record Preview : Type 0 where
  pub told : Told
  pub breaker : Breaker
  pub len : ℕ

abbrev pub preview : Told → Breaker → ℕ → Preview
preview t b n = record { told = t; breaker = b; len = n }

-- of a preview's answer: the record after the call, whose list length is the list's; refused, the record that was handed in
abbrev pub previewed : Result Breaker Refusal → Breaker → Preview
previewed (Ok next) b = preview nothing next next.shared.len
previewed (Err r) b = preview (refused r) b b.shared.len

-- of what a call leaves: all but the places, and of these the length of the list in them (`left-length` of proofs/Previews.antt)
abbrev pub preview_of : After → Preview
preview_of a = preview a.told a.breaker a.breaker.shared.len
