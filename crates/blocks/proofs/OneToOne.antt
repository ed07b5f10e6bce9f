-- What a check comes to is known by what it tells. Assumes nothing.
use mathlib.Core.Path.{◌≡◌, refl}
use Prim.Native.Nat.{ℕ}
use Rattle.std.proofs.Common.{Result, Ok, Err}
use Rattle.error.specs.declared.Refusal.{Refusal}
use Rattle.error.proofs.OneToOne.{one, read, read-refused, at}
use Rattle.blocks.specs.Block.{judged_told}

pub judged-one : (a b : Result ℕ Refusal) → judged_told a ≡ judged_told b → a ≡ b
judged-one = one judged_told (read (λ vs. Ok (at vs 1)) (λ n vs. Ok (at vs 1)) Err) back
  where
    back : (a : Result ℕ Refusal) → read (λ vs. Ok (at vs 1)) (λ n vs. Ok (at vs 1)) Err (judged_told a) ≡ a
    back (Ok used) = refl
    back (Err r) = read-refused (λ vs. Ok (at vs 1)) (λ n vs. Ok (at vs 1)) Err r
