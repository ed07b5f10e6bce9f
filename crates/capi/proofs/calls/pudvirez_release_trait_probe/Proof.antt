-- `capi::calls::pudvirez_release_trait_probe` is thin over `plain::release_trait_probe`. Assumes nothing.
use mathlib.Core.Path.{refl}
use mathlib.Core.List.{[], ◌∷◌}
use base.Logic.{id⊢}
use Rattle.thin.proofs.Types.{u64, mut_slice, mut_ref}
use Rattle.thin.proofs.Mut.{mut_spec}
use Rattle.capi.proofs.Types.{answered, breaker, told}
use Rattle.plain.specs.contracts.release_trait_probe as g
use Rattle.plain.proofs.release_trait_probe.Symbol as g-def
use Rattle.plain.proofs.release_trait_probe.Met as g-thm
use Rattle.capi.specs.contracts.calls.pudvirez_release_trait_probe as f
use Rattle.capi.specs.contracts.calls.pudvirez_release_trait_probe.Key as key
use Rattle.capi.proofs.calls.pudvirez_release_trait_probe.Statement as stated
use Rattle.capi.proofs.calls.pudvirez_release_trait_probe.Code as code

pub pudvirez_release_trait_probe_spec : {M : Type 1} → stated.statement M
pudvirez_release_trait_probe_spec 𝓤 𝓛 𝓜 𝓡 wired =
    mut_spec told (mut_ref breaker ∷ mut_slice u64 ∷ []) answered 𝓤 𝓛 𝓜 𝓡 (f.clauses 𝓛 𝓜.mem 𝓡.returns) (g.clauses 𝓛 𝓜.mem 𝓡.returns)
    record { gh = λ κs a x. x; req = λ κs a x. id⊢ 𝓤 _; ens = λ κs a x z ws. id⊢ 𝓤 _ }
    𝓡.env key.name g-def.name (code.unfolded 𝓤 𝓛.H 𝓜 𝓡 wired) (𝓡.env g-def.name) refl (g-thm.met 𝓤 𝓛 𝓜 𝓡 (code.calls-plain::release_trait_probe 𝓡.env wired))
