-- The types that cross, as `thin` takes them. Assumes nothing.
use mathlib.Core.Path.{refl}
use mathlib.Core.List.{[], ◌∷◌}
use denote.Param.Laws.{row_laws}
use Rattle.thin.proofs.Types.{One, of_struct, Fields, of_fields}
use Rattle.breaker.specs.contracts.Answered as Answered
use Rattle.breaker.specs.contracts.Breaker as Breaker
use Rattle.breaker.proofs.Breaker.TheLaws as BreakerLaws
use Rattle.crossing.specs.contracts.Told as Told
use Rattle.crossing.proofs.Told.TheLaws as ToldLaws

abbrev pub breaker : One
breaker = of_struct Breaker.the_type BreakerLaws.the_laws BreakerLaws.the_plain BreakerLaws.the_copy

abbrev pub told : One
told = of_struct Told.the_type ToldLaws.the_laws ToldLaws.the_plain ToldLaws.the_copy

-- `Answered<Told>`
abbrev pub answered : Fields (told ∷ breaker ∷ [])
answered = of_fields (Answered.the_type told.R) (row_laws told.R ToldLaws.the_row_laws record { val = told.val; tells = told.tells }, (BreakerLaws.the_field_laws, tt)) (λ z. (z.answer, (z.breaker, tt))) refl (λ z. refl) (λ z are. are)
