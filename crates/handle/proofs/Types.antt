-- The types of the breaker's calls, as `thin` takes them. Assumes nothing.
use denote.RattleType.{RattleType}
use denote.Enum.Declared.{Declared}
use denote.Enum.Laws.{Laws, pure, drops}
use denote.Param.Laws.{IsCopy, row_laws, enum_copy}
use denote.Struct.Field.{row_field, u64-field, unit-field}
use denote.Struct.Laws.{FLaws, Plain, u64-laws, u64-plain, u64-copy, unit-laws, unit-plain, unit-copy}
use Rattle.std.specs.contracts.result.Result as Result
use Rattle.thin.proofs.Types.{One, of_struct, of_enum}
use Rattle.breaker.specs.contracts.Breaker as Breaker
use Rattle.breaker.proofs.Breaker.TheLaws as BreakerLaws
use Rattle.error.specs.contracts.Refusal as Refusal
use Rattle.error.proofs.Refusal.TheLaws as RefusalLaws

abbrev pub breaker : One
breaker = of_struct Breaker.the_type BreakerLaws.the_laws BreakerLaws.the_plain BreakerLaws.the_copy

abbrev refusal : One
refusal = of_enum Refusal.the_type RefusalLaws.the_laws tt RefusalLaws.the_plain RefusalLaws.the_copy

-- `Result<R, Refusal>`, and what a type takes that has it for a parameter
module _ (R : RattleType) (L : FLaws (row_field R)) (P : Plain (row_field R)) (C : IsCopy R) where
  abbrev T : Declared
  T = Result.the_type R refusal.R

  abbrev laws : Laws T
  laws = ((L, tt), ((row_laws refusal.R RefusalLaws.the_row_laws record { val = refusal.val; tells = refusal.tells }, tt), tt))

  abbrev result : One
  result = of_enum T laws tt ((P, tt), ((pure Refusal.the_type RefusalLaws.the_plain, tt), tt)) ((C, tt), ((enum_copy Refusal.the_type RefusalLaws.the_copy, tt), tt))

  abbrev result-laws : FLaws (row_field result.R)
  result-laws = record { val = result.val; tells = result.tells; low = result.val; low-is = result.tells; lawful = λ {M} {𝓤} 𝓛. result.lawful M 𝓤 𝓛; drops = λ 𝓛. drops T laws 𝓛 }

  abbrev result-plain : Plain (row_field result.R)
  result-plain = pure T ((P, tt), ((pure Refusal.the_type RefusalLaws.the_plain, tt), tt))

-- `Result<u64, Refusal>`
abbrev pub counted : One
counted = result u64-field.row u64-laws u64-plain u64-copy

-- `Result<(), Refusal>`
abbrev pub finished : One
finished = result unit-field.row unit-laws unit-plain unit-copy

abbrev pub finished-laws : FLaws (row_field finished.R)
finished-laws = result-laws unit-field.row unit-laws unit-plain unit-copy

abbrev pub finished-plain : Plain (row_field finished.R)
finished-plain = result-plain unit-field.row unit-laws unit-plain unit-copy
