-- What a save comes to is known by what it tells. Assumes nothing.
use Rattle.std.proofs.Common.{ℕ, ◌≡◌, refl, [], ◌∷◌, Result}
use Rattle.error.specs.declared.Refusal.{Refusal}
use Rattle.error.proofs.OneToOne.{at, told_by-one}
use Rattle.checkpoints.specs.Calls.{saving_told}

pub saving-one : (a b : Result ℕ Refusal) → saving_told a ≡ saving_told b → a ≡ b
saving-one = told_by-one (λ used. used ∷ []) (λ vs. at vs 0) (λ used. refl)
