-- `vectors::lent::reset` lends to `handle::reset`. Assumes nothing.
use mathlib.Core.Path.{refl}
use mathlib.Core.List.{[], ◌∷◌}
use base.Logic.{id⊢}
use Rattle.thin.proofs.Types.{u64, mut_slice, mut_ref}
use Rattle.thin.proofs.Lend.{lend_spec}
use Rattle.handle.proofs.Types.{breaker, finished}
use Rattle.vectors.proofs.Built.{finished-built}
use Rattle.handle.specs.contracts.reset as g
use Rattle.handle.proofs.reset.Symbol as g-def
use Rattle.handle.proofs.reset.Met as g-thm
use Rattle.vectors.specs.contracts.lent.reset as f
use Rattle.vectors.specs.contracts.lent.reset.Key as key
use Rattle.vectors.proofs.lent.reset.Statement as stated
use Rattle.vectors.proofs.lent.reset.Code as code

pub reset_spec : {M : Type 1} → stated.statement M
reset_spec 𝓤 𝓛 𝓜 𝓡 wired =
    lend_spec finished (mut_ref breaker ∷ mut_slice u64 ∷ []) finished-built (tt, tt) 𝓛 𝓜 𝓡 (f.clauses 𝓛 𝓜.mem 𝓡.returns) (g.clauses 𝓛 𝓜.mem 𝓡.returns)
    record { gh = λ κs a. tt; asks = λ κs a. id⊢ 𝓤 _; says = λ κs a x z ws. id⊢ 𝓤 _ }
    𝓡.env key.name g-def.name (code.unfolded 𝓤 𝓛.H 𝓜 𝓡 wired) (𝓡.env g-def.name) refl (g-thm.met 𝓤 𝓛 𝓜 𝓡 (code.calls-handle::reset 𝓡.env wired))
