-- Thin functions that change no record: `look_spec`. Assumes nothing.
--     pub fn f(b: &B, list: &[u64], x: X) -> Y { step(*b, list, x) }
-- The parameters are any of `Types.antt`'s `Param` but `mut_ref`, in any order, and the step takes them in the same order. It returns the answer.
--
-- The proof of f is as `Mut.antt` says, with
--         look_spec Y (ref B ∷ slice u64 ∷ val X ∷ []) tt 𝓤 𝓛 𝓜 𝓡 ..
-- for `mut_spec ..`, where `tt` says that there is no `mut_ref`.
use mathlib.Core.Path.{refl}
use mathlib.Core.List.{List, []}
use seplogic.Ra.Ura.{Ura}
use mir.Syntax.{place, return}
use base.Fml.{Fml}
use prog.Wp.{Calls, Loops}
use types.Logic.{Logic}
use types.Kit.{‵, ◌$◌, !, rewrite}
use types.Run.{init, stop, from, land}
use denote.Triple.Clauses.{Clauses}
use Rattle.thin.proofs.Types.{One, fine-one, Param}
use Rattle.thin.proofs.Params.{Still, none, still-stored}
use Rattle.thin.proofs.Walk.{Ending, args_of, fn_ended, step_ended, Linked, Rests, ends, Thin, thin}

module _ (Y : One) (Ps : List Param) (still : Still Ps) where
  -- what the step returns is the result
  abbrev returning : Ending Y Ps
  returning = record { S = Y.R; ans = λ r. r; new = λ r. none Ps still; mids = []; outs = []; p = place 0 []; rest = return }

  after_call : {M : Type 1} {𝓤 : Ura M} (𝓛 : Logic 𝓤) (c₂ : Clauses 𝓤 (fn_ended Y Ps returning)) (c₁ : Clauses 𝓤 (step_ended Y Ps returning)) (L : Linked Y Ps returning 𝓤 c₂ c₁) (C : Calls 𝓤 𝓛.H) (Λ : Loops 𝓤 𝓛.H) → Rests Y Ps returning 𝓛 c₂ c₁ L C Λ
  after_call 𝓛 c₂ c₁ L C Λ κs qs a g l bs ms ts es w z ws is =
      land ! (from ! (stop !)) (init ! 3 refl (fine-one Y 𝓛 z w is)) $ rewrite ! 2 (λ (F : Fml). ‵ F) (still-stored Ps still κs qs (args_of Y Ps returning κs a)) refl $
      ends Y Ps returning 𝓛 c₂ c₁ L κs qs a g C Λ l bs ms ts es z w ws [] [] is

  pub look_spec : {M : Type 1} (𝓤 : Ura M) → Thin Y Ps returning 𝓤
  look_spec 𝓤 = thin Y Ps returning 𝓤 (after_call {𝓤 = 𝓤})
