-- `handle::board` is thin over `circuit::board`. Assumes nothing.
use mathlib.Core.Path.{refl}
use mathlib.Core.List.{[], ◌∷◌}
use base.Logic.{id⊢}
use Rattle.thin.proofs.Types.{u64, slice, ref}
use Rattle.thin.proofs.Look.{look_spec}
use Rattle.handle.proofs.Types.{breaker, counted}
use Rattle.circuit.specs.contracts.board as g
use Rattle.circuit.proofs.board.Symbol as g-def
use Rattle.circuit.proofs.board.Met as g-thm
use Rattle.handle.specs.contracts.board as f
use Rattle.handle.specs.contracts.board.Key as key
use Rattle.handle.proofs.board.Statement as stated
use Rattle.handle.proofs.board.Code as code

pub board_spec : {M : Type 1} → stated.statement M
board_spec 𝓤 𝓛 𝓜 𝓡 wired =
    look_spec counted (ref breaker ∷ slice u64 ∷ []) tt 𝓤 𝓛 𝓜 𝓡 (f.clauses 𝓛 𝓜.mem 𝓡.returns) (g.clauses 𝓛 𝓜.mem 𝓡.returns)
    record { gh = λ κs a x. x; req = λ κs a x. id⊢ 𝓤 _; ens = λ κs a x z ws. id⊢ 𝓤 _ }
    𝓡.env key.name g-def.name (code.unfolded 𝓤 𝓛.H 𝓜 𝓡 wired) (𝓡.env g-def.name) refl (g-thm.met 𝓤 𝓛 𝓜 𝓡 (code.calls-circuit::board 𝓡.env wired))
