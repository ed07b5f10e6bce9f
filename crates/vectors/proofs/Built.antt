-- The struct that the lending function returns, as `thin` takes it. Assumes nothing.
use mathlib.Core.Path.{refl}
use mathlib.Core.List.{[], ◌∷◌}
use Rattle.thin.proofs.Loans.{Built, of_built}
use Rattle.handle.proofs.Types.{breaker, finished, finished-laws, finished-plain}
use Rattle.breaker.specs.contracts.Answered as Answered
use Rattle.breaker.proofs.Breaker.TheLaws as BreakerLaws

-- `Answered<Result<(), Refusal>>`
abbrev pub finished-built : Built (finished ∷ breaker ∷ [])
finished-built = of_built (Answered.the_type finished.R) (finished-laws, (BreakerLaws.the_field_laws, tt)) (finished-plain, (BreakerLaws.the_field_plain, tt)) (λ t. record { answer = t.0; breaker = t.1.0 }) refl (λ t. refl) (λ t are. are)
