-- An answer is known by what it tells. Assumes nothing.
use Rattle.std.proofs.Common.{◌≡◌, ℕ, List, Result, Ok, Err, refl}
use Rattle.error.specs.Told.{Told}
use Rattle.error.specs.declared.Refusal.{Refusal}
use Rattle.error.proofs.OneToOne.{one, read, read-refused, at}
use Rattle.history.specs.Change.{told}

abbrev stored : List ℕ → Result ℕ Refusal
stored vs = Ok (at vs 0)

abbrev meant : Told → Result ℕ Refusal
meant = read stored (λ _ vs. stored vs) Err

meant-told : (a : Result ℕ Refusal) → meant (told a) ≡ a
meant-told (Ok n) = refl
meant-told (Err r) = read-refused stored (λ _ vs. stored vs) Err r

pub told-one : (a b : Result ℕ Refusal) → told a ≡ told b → a ≡ b
told-one = one told meant meant-told
