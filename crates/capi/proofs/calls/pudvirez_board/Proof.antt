-- `capi::calls::pudvirez_board` is thin over `plain::board`. Assumes nothing.
use mathlib.Core.Path.{refl}
use mathlib.Core.List.{[], ◌∷◌}
use base.Logic.{id⊢}
use Rattle.thin.proofs.Types.{u64, slice, ref}
use Rattle.thin.proofs.Look.{look_spec}
use Rattle.capi.proofs.Types.{breaker, told}
use Rattle.plain.specs.contracts.board as g
use Rattle.plain.proofs.board.Symbol as g-def
use Rattle.plain.proofs.board.Met as g-thm
use Rattle.capi.specs.contracts.calls.pudvirez_board as f
use Rattle.capi.specs.contracts.calls.pudvirez_board.Key as key
use Rattle.capi.proofs.calls.pudvirez_board.Statement as stated
use Rattle.capi.proofs.calls.pudvirez_board.Code as code

pub pudvirez_board_spec : {M : Type 1} → stated.statement M
pudvirez_board_spec 𝓤 𝓛 𝓜 𝓡 wired =
    look_spec told (ref breaker ∷ slice u64 ∷ []) tt 𝓤 𝓛 𝓜 𝓡 (f.clauses 𝓛 𝓜.mem 𝓡.returns) (g.clauses 𝓛 𝓜.mem 𝓡.returns)
    record { gh = λ κs a x. x; req = λ κs a x. id⊢ 𝓤 _; ens = λ κs a x z ws. id⊢ 𝓤 _ }
    𝓡.env key.name g-def.name (code.unfolded 𝓤 𝓛.H 𝓜 𝓡 wired) (𝓡.env g-def.name) refl (g-thm.met 𝓤 𝓛 𝓜 𝓡 (code.calls-plain::board 𝓡.env wired))
