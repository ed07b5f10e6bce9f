-- Thin functions that change their records: `mut_spec`. Assumes nothing.
--     pub fn f(b: &mut B, list: &mut [u64], x: X) -> Y { let s = step(*b, list, x); *b = s.b; s.answer }
-- The parameters are any of `Types.antt`'s `Param`, in any order, and the step takes them in the same order. It returns a struct of the answer and then the record of each `&mut R`, in the parameters' order, which is the order of the stores.
--
-- Rattle proves such a function by itself. A proof of f by hand is what follows. Per function change the names f and step; Y, the parameters, and the struct SETTLED that the step returns; and the step's path, CRATE::STEP.
--     use .. .step as g    (and .Symbol as g-def, .Met as g-thm)
--     use .. .f as f       (and .Key as key, .Statement as stated, .Code as code)
--     pub f_spec : {M : Type 1} → stated.statement M
--     f_spec 𝓤 𝓛 𝓜 𝓡 wired =
--         mut_spec Y (mut_ref B ∷ mut_slice u64 ∷ val X ∷ []) SETTLED 𝓤 𝓛 𝓜 𝓡 (f.clauses 𝓛 𝓜.mem 𝓡.returns) (g.clauses 𝓛 𝓜.mem 𝓡.returns)
--         record { gh = λ κs a x. x; req = λ κs a x. id⊢ 𝓤 _; ens = λ κs a x z ws. id⊢ 𝓤 _ }
--         𝓡.env key.name g-def.name (code.unfolded 𝓤 𝓛.H 𝓜 𝓡 wired) (𝓡.env g-def.name) refl (g-thm.met 𝓤 𝓛 𝓜 𝓡 (code.calls-CRATE::STEP 𝓡.env wired))
-- `id⊢ 𝓤 _` is for a clause that is the step's, with `r` for `r.answer`, `b.old` for `b`, and `b.new` for `r.b`. For one that follows from the step's (of a `requires`: from which the step's follows), `fact_mono 𝓤 _ _ (λ h. ..)`.
-- A refusal at `f.clauses` or `g.clauses` is of the parameters, Y or SETTLED, one at `ens` or `req` of the clauses, and one at `code.unfolded` of f's statements.
use mathlib.Core.Path.{◌≡◌, refl, ◌∙◌}
use Prim.Native.Nat.{ℕ, suc}
use mathlib.Core.List.{List, [], ◌∷◌, ◌++◌}
use lib.ListN.{get_or}
use seplogic.Ra.Ura.{Ura}
use base.Fraction.{full_share}
use mir.Syntax.{Ty, ty_struct, place, field, copy, rv_opd, seq, assign, return}
use mir.Val.{Val, vstruct}
use base.Fml.{fat}
use prog.Wp.{Heap, Calls, Loops, no_local}
use types.Logic.{Logic}
use types.Kit.{‵, ◌$◌, !, move, rewrite, fsplit, fjoin}
use types.Run.{init, stop, from, fld, load, of_opd, assigns, land}
use types.Part.{whole, sub, look_in}
use denote.Triple.Clauses.{Clauses}
use Rattle.thin.proofs.Types.{One, fine-one, tuple_tys, tuple_vals, Fields, fine-fields, Param, records}
use Rattle.thin.proofs.Locals.{Blocks, env, past, past-env, from_at}
use Rattle.thin.proofs.Params.{fn_tys, tys, vals, temps, stores, Spots, stores_run}
use Rattle.thin.proofs.Walk.{Ending, thin_env, fn_ended, step_ended, Linked, Rests, ends, Thin, thin}

module _ (Y : One) (Ps : List Param) (Z : Fields (Y ∷ records Ps)) where
  -- what the step returns stands in the local s, after the parameters
  abbrev τs : Ty
  τs = ty_struct Z.ν (tuple_tys (Y ∷ records Ps))

  abbrev s : ℕ
  s = suc (past (fn_tys 0 Ps) 0)

  -- and what is stored is copied to the locals after what is made for the call
  abbrev e : ℕ → ℕ
  e i = suc (past (fn_tys 0 Ps) (suc (past (temps Ps) i)))

  abbrev storing : Ending Y Ps
  storing = record { S = Z.Z; ans = λ z. (Z.parts z).0; new = λ z. (Z.parts z).1; mids = τs ∷ []; outs = tys (records Ps); p = place s []; rest = stores suc s suc e Ps (seq (assign (place 0 []) (rv_opd (copy (place s (field 0 ∷ []))))) return) }

  at-s : {M : Type 1} (𝓤 : Ura M) (H : Heap 𝓤) (bs : Blocks (fn_tys 0 Ps)) (ms : Blocks (τs ∷ [])) (ts : Blocks (temps Ps)) (es : Blocks (tys (records Ps))) → get_or (env (fn_tys 0 Ps) bs ++ (env (τs ∷ []) ms ++ (env (temps Ps) ts ++ (env (tys (records Ps)) es ++ [])))) (past (fn_tys 0 Ps) 0) (no_local 𝓤 H) ≡ (τs, ms.0)
  at-s 𝓤 H bs ms ts es = past-env (fn_tys 0 Ps) bs _ 0 _

  at_e : {M : Type 1} (𝓤 : Ura M) (H : Heap 𝓤) (l : ℕ) (bs : Blocks (fn_tys 0 Ps)) (ms : Blocks (τs ∷ [])) (ts : Blocks (temps Ps)) (es : Blocks (tys (records Ps))) → Spots 𝓤 H (thin_env Y Ps storing l bs ms ts es) e (env (tys (records Ps)) es ++ [])
  at_e 𝓤 H l bs ms ts es i = past-env (fn_tys 0 Ps) bs _ (suc (past (temps Ps) i)) _ ∙ past-env (temps Ps) ts _ i _

  after_call : {M : Type 1} {𝓤 : Ura M} (𝓛 : Logic 𝓤) (c₂ : Clauses 𝓤 (fn_ended Y Ps storing)) (c₁ : Clauses 𝓤 (step_ended Y Ps storing)) (L : Linked Y Ps storing 𝓤 c₂ c₁) (C : Calls 𝓤 𝓛.H) (Λ : Loops 𝓤 𝓛.H) → Rests Y Ps storing 𝓛 c₂ c₁ L C Λ
  after_call {𝓤 = 𝓤} 𝓛 c₂ c₁ L C Λ κs qs a g l bs ms ts es w z ws is =
      move ! (1 ∷ []) $ fsplit ! $ fsplit ! $ land ! (from_at ! (at-s 𝓤 𝓛.H bs ms ts es) (stop !)) (init ! 0 refl (fine-fields Z 𝓛 z w is)) $ rewrite ! 0 (λ (u : Val). ‵ (fat full_share τs ms.0 0 u)) (Z.is z w is).0 refl $
      -- [s; ..; true; the parameters; what is held; room for _0; ..; what is made; room for the copies]
      move ! (3 ∷ 0 ∷ 4 ∷ 8 ∷ []) $ stores_run ! 0 Ps bs κs qs _ (Z.parts z).1 (Z.is z w is).1.1 suc _ (λ i. refl) s ms.0 Z.ν (tuple_tys (Y ∷ records Ps)) (tuple_vals (Y ∷ records Ps) (Z.parts z)) suc _ es e [] (at_e 𝓤 𝓛.H l bs ms ts es) (at-s 𝓤 𝓛.H bs ms ts es) (λ i. refl) (λ i. refl) _ (
      -- [the parameters; s; what is stored; the copies; ..; true; room for _0; ..; what is made]
      assigns ! (of_opd ! (load ! (from_at ! (at-s 𝓤 𝓛.H bs ms ts es) (fld ! refl (stop !))) (look_in ! 1 (sub ! 0 refl (whole !))))) (from ! (stop !)) (init ! 6 refl (fine-one Y 𝓛 (Z.parts z).0 _ (Z.is z w is).1.0)) $
      move ! (1 ∷ 4 ∷ 5 ∷ []) $ fjoin ! $ fjoin ! $ move ! (1 ∷ 0 ∷ 2 ∷ 4 ∷ 5 ∷ 6 ∷ 3 ∷ []) $ ends Y Ps storing 𝓛 c₂ c₁ L κs qs a g C Λ l bs ms ts es z _ ws (vstruct (tuple_vals (Y ∷ records Ps) (Z.parts z)) ∷ []) (vals (records Ps) (Z.parts z).1) (Z.is z w is).1.0)

  pub mut_spec : {M : Type 1} (𝓤 : Ura M) → Thin Y Ps storing 𝓤
  mut_spec 𝓤 = thin Y Ps storing 𝓤 (after_call {𝓤 = 𝓤})
