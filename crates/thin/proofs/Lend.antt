-- Functions that lend their records: `lend_spec`. Assumes nothing.
--     fn f(mut b: B, list: &mut [u64], x: X) -> S { let answer = step(&mut b, list, x); S { answer, b } }
-- The parameters are any of `Types.antt`'s `Param`, in any order, and the step takes them in the same order: a `ref R` or a `mut_ref R` is a record that f has by value and lends. f returns a struct of the answer and then each of these records, in their order. It promises nothing, and the step asks nothing.
--
-- The proof of f is as `Mut.antt` says, with
--         lend_spec Y (mut_ref B ∷ mut_slice u64 ∷ val X ∷ []) S (tt, tt) 𝓛 𝓜 𝓡 ..
--         record { gh = λ κs a. tt; asks = λ κs a. id⊢ 𝓤 _; says = λ κs a x z ws. id⊢ 𝓤 _ }
-- where S is a `Built`, and `(tt, tt)` has a `tt` for each record and one more.
use mathlib.Core.Path.{◌≡◌, refl, sym, ap, subst, ◌∙◌}
use Prim.Native.Nat.{ℕ, suc}
use mathlib.Core.List.{List, [], ◌∷◌, ◌++◌}
use lib.ListN.{get_or}
use seplogic.Ra.Ura.{Ura}
use base.Fraction.{full_share}
use mir.Syntax.{Callee, Ty, ty_struct, place, copy, aggregate, seq, assign, call, return, local, value_local, memory_slot, Fn}
use mir.Val.{Val, vstruct, Vals}
use base.Logic.{SProp, ent, sep, wand, ex, emp, id⊢, via, comm∗, mono_l, wand_i, apply∗}
use base.Fml.{fat}
use prog.Model.{Model}
use prog.Routine.{Routine, Env as Routines}
use prog.Wp.{Calls, Loops, no_local, WpFn, Tables, Closed}
use types.Logic.{Logic, sem}
use types.Kit.{‵, raw, some, later, ◌⊛◌, ⋆, ◌$◌, ◌∵◌, !, qed, by, move, drop, recast, rewrite, use0, use1, use2, split, join, pick, show, suffices, frame, await, done}
use types.Run.{look, init, stop, from, load, and_then, assigns, land, forget, returns, enter, alloc1, alloc0, params1, free1, free0}
use types.Part.{agg}
use sound.WpLaws.{FmC, fm_of}
use contract.Lifetimes.{Lfts, Shares, toks}
use contract.Running.{Running, tables, tables_of}
use denote.RattleType.{flat, owns}
use denote.Laws.{Is, Typed, valss, shows}
use denote.Signature.{plain}
use denote.Steps.{only, owned, facts, said}
use denote.Triple.Entry.{Args, Vals as EntryVals, on_entry}
use denote.Triple.End.{all}
use denote.Triple.Spec.{Meets, triple_of}
use denote.Triple.Statement.{Contract, Triple}
use denote.Triple.Call.{calls_from}
use denote.Triple.Clauses.{Ended, Clauses, Lasts, at_exit, lasts, ensured, closing}
use denote.Triple.Table.{entered, cited}
use denote.Exit.{yes}
use Rattle.thin.proofs.Types.{One, IsOne, Fine, fine-one, Tuple, tuple_tys, tuple_vals, IsTuple, Param}
use Rattle.thin.proofs.Locals.{Blocks, env, past, past-env, has-nth, from_at, passes-all, frees_all}
use Rattle.thin.proofs.Params.{fn_lfts, step_lfts, tokens, tokens-are, fn_slots, step_slots, fn_vals, fn_own, fn_types, step_types, operands, Spots}
use Rattle.thin.proofs.Loans.{Built, slots, tys, vals, vals-tuple, Ins, in_tys, in_vals, in_own, ins, in_spells, in-tell, in-flat, in-owns, in-typed, outs, out_vals, out-flat, out-owns, Loans, lent_in, out_lft, out_share, locs_at, temps, temp_vals, keeps, lends, copies, copied, allocs-at, borrow, give-back, keeps-run, lends-run, copies-run, copied-are, operands-are, Stills, lastly, left-run}

module _ (Y : One) (Ps : List Param) (Z : Built (Y ∷ slots Ps)) (st : Stills Ps) where
  abbrev τz : Ty
  τz = ty_struct Z.ν (tuple_tys (Y ∷ slots Ps))

  -- the locals after the parameters: the records' places, the answer, what is made for the call, the copies
  abbrev h : ℕ → ℕ
  h i = suc (past (in_tys 0 Ps) i)

  abbrev y : ℕ
  y = suc (past (in_tys 0 Ps) (past (tys (slots Ps)) 0))

  abbrev g : ℕ → ℕ
  g i = suc (past (in_tys 0 Ps) (past (tys (slots Ps)) (suc i)))

  abbrev c : ℕ → ℕ
  c i = suc (past (in_tys 0 Ps) (past (tys (slots Ps)) (suc (past (temps Ps) i))))

  abbrev pub lend_fn : Callee → Fn
  lend_fn k = record {
    lifetimes = step_lfts Ps;
    outlives = [];
    ty_params = [];
    givens = 0;
    params = past (in_tys 0 Ps) 0;
    locals = local τz value_local ∷ (locs_at value_local (in_tys 0 Ps) ++ (locs_at memory_slot (tys (slots Ps)) ++ (local Y.τ value_local ∷ (locs_at value_local (temps Ps) ++ (locs_at value_local (tys (slots Ps)) ++ [])))));
    body = keeps suc h Ps (lends suc h g Ps (seq (call k (operands suc g Ps) (place y [])) (copies h c (slots Ps) (seq (assign (place 0 []) (aggregate (copy (place y []) ∷ copied c (slots Ps)))) return))));
  }

  abbrev lend_env : ℕ → Blocks (in_tys 0 Ps) → Blocks (tys (slots Ps)) → ℕ → Blocks (temps Ps) → Blocks (tys (slots Ps)) → List (Ty × ℕ)
  lend_env l bs hs y₀ ts cs = (τz, l) ∷ (env (in_tys 0 Ps) bs ++ (env (tys (slots Ps)) hs ++ ((Y.τ, y₀) ∷ (env (temps Ps) ts ++ (env (tys (slots Ps)) cs ++ [])))))

  abbrev pub lender_ended : Ended
  lender_ended = record { signature = record { lifetimes = step_lfts Ps; outlives = []; params = step_slots (step_lfts Ps) 0 Ps (λ κs. κs); result = plain (λ _. Z.R) }; kept = all yes (step_slots (step_lfts Ps) 0 Ps (λ κs. κs)) }

  abbrev pub step_ended : Ended
  step_ended = record { signature = record { lifetimes = fn_lfts Ps; outlives = []; params = fn_slots (fn_lfts Ps) 0 Ps (λ κs. κs); result = plain (λ _. Y.R) }; kept = all yes (fn_slots (fn_lfts Ps) 0 Ps (λ κs. κs)) }

  -- the lender promises nothing, and the step asks nothing
  pub record Silent {M : Type 1} (𝓤 : Ura M) (c₂ : Clauses 𝓤 lender_ended) (c₁ : Clauses 𝓤 step_ended) : Type 1 where
    pub gh : (κs : Lfts (fn_lfts Ps)) (a : Args step_ended.signature κs) → (c₁ κs a).ghost
    pub asks : (κs : Lfts (fn_lfts Ps)) (a : Args step_ended.signature κs) → ent 𝓤 (emp 𝓤) ((c₁ κs a).requires (gh κs a))
    pub says : (κs : Lfts (step_lfts Ps)) (a : Args lender_ended.signature κs) (x : (c₂ κs a).ghost) (z : Z.R.Denot) (ws : Lasts lender_ended κs a) → ent 𝓤 (emp 𝓤) ((c₂ κs a).ensures x z (at_exit lender_ended κs a ws))

  module _ {M : Type 1} {𝓤 : Ura M} (𝓛 : Logic 𝓤) (c₂ : Clauses 𝓤 lender_ended) (c₁ : Clauses 𝓤 step_ended) (S : Silent 𝓤 c₂ c₁) where
    open 𝓛 use {H}

    abbrev Stepped : Contract 𝓤
    Stepped = triple_of 𝓛 step_ended.signature (closing 𝓛 step_ended c₁)

    fine-built : (t : Tuple (Y ∷ slots Ps)) → IsTuple (Y ∷ slots Ps) t → Fine τz (vstruct (tuple_vals (Y ∷ slots Ps) t))
    fine-built t are = (subst (λ (τs : List Ty). Typed τs (vstruct (tuple_vals (Y ∷ slots Ps) t) ∷ [])) Z.one ((Z.lawful M 𝓤 𝓛).typed (Z.make t) _ (Z.is t are))).0

    at-its-own : (z : Y.R.Denot) (w : Val) → Is Y.R z (w ∷ []) → IsOne Y z
    at-its-own z w is = subst (λ (vs : List Val). Is Y.R z vs) (Y.tells z (w ∷ []) is) is

    module _ (κs : Lfts (step_lfts Ps)) (qs : Shares (step_lfts Ps)) (a : Args lender_ended.signature κs) (x : (c₂ κs a).ghost) where
      abbrev d : Ins Ps
      d = ins (step_lfts Ps) κs 0 Ps (λ ls. ls) a

      abbrev Ends : Val → SProp 𝓤
      Ends v = H.⇛ (ex 𝓤 (λ (r : Z.R.Denot). sep 𝓤 (sep 𝓤 (toks 𝓛 (step_lfts Ps) κs qs) (sem 𝓛 (Z.R.own_val r (v ∷ [])))) (ensured 𝓛 lender_ended c₂ κs a x r)))

      module _ (hs : Blocks (tys (slots Ps))) (ln : Loans Ps) where
        abbrev κs₁ : Lfts (fn_lfts Ps)
        κs₁ = out_lft Ps κs ln

        abbrev step_args : Args step_ended.signature κs₁
        step_args = outs (fn_lfts Ps) κs₁ 0 Ps (λ ls. ls) (lent_in Ps d hs ln)

        -- what the step's triple binds outside
        abbrev to_step : Stepped.Ghost
        to_step = ((κs₁, out_share Ps qs, tt, step_args, out_vals (fn_lfts Ps) κs₁ 0 Ps (λ ls. ls) (lent_in Ps d hs ln)), S.gh κs₁ step_args)

        enters : ent 𝓤 (⋆ 𝓛 (‵ (tokens (fn_lfts Ps) κs₁ (out_share Ps qs)) ∷ ‵ (fn_own Ps κs₁ (lent_in Ps d hs ln)) ∷ [])) (Stepped.pre to_step)
        enters =
            qed 𝓛 (‵ (tokens (fn_lfts Ps) κs₁ (out_share Ps qs)) ∷ ‵ (fn_own Ps κs₁ (lent_in Ps d hs ln)) ∷ []) ∵
            recast 𝓛 (raw (toks 𝓛 (fn_lfts Ps) κs₁ (out_share Ps qs))) (tokens-are 𝓛 (fn_lfts Ps) κs₁ (out_share Ps qs)) $ move ! (1 ∷ []) $
            recast 𝓛 (‵ (owns (fn_types (fn_lfts Ps) κs₁ 0 Ps (λ ls. ls)) step_args (out_vals (fn_lfts Ps) κs₁ 0 Ps (λ ls. ls) (lent_in Ps d hs ln)))) (ap (sem 𝓛) (sym (out-owns (fn_lfts Ps) κs₁ 0 Ps (λ ls. ls) (lent_in Ps d hs ln)))) $
            move ! (1 ∷ 0 ∷ []) $ join ! $ frame ! $ use0 𝓛 (raw ((c₁ κs₁ step_args).requires (S.gh κs₁ step_args))) (S.asks κs₁ step_args) $ done !

        -- the step's triple, at the values in a row
        met : (C : Calls 𝓤 H) (k : Callee) → Triple 𝓤 (C k) Stepped → ent 𝓤 (Stepped.pre to_step) (C k (fn_vals Ps (lent_in Ps d hs ln)) (Stepped.post to_step))
        met C k known = subst (λ (vs : List Val). ent 𝓤 (Stepped.pre to_step) (C k vs (Stepped.post to_step))) (out-flat (fn_lfts Ps) κs₁ 0 Ps (λ ls. ls) (lent_in Ps d hs ln)) (known to_step)

        exits : (t : Tuple (Y ∷ slots Ps)) (ws : Lasts step_ended κs₁ step_args) → IsTuple (Y ∷ slots Ps) t → ent 𝓤 (⋆ 𝓛 (‵ (tokens (step_lfts Ps) κs qs) ∷ ‵ (lasts step_ended κs₁ step_args ws) ∷ [])) (Ends (vstruct (tuple_vals (Y ∷ slots Ps) t)))
        exits t ws are =
            qed 𝓛 (‵ (tokens (step_lfts Ps) κs qs) ∷ ‵ (lasts step_ended κs₁ step_args ws) ∷ []) ∵ move ! (1 ∷ []) $ left-run (step_lfts Ps) κs (fn_lfts Ps) κs₁ ! 0 0 Ps (λ ls. ls) (λ ls. ls) st hs ln refl a ws _ (move ! (1 ∷ []) $
            recast 𝓛 (raw (toks 𝓛 (step_lfts Ps) κs qs)) (tokens-are 𝓛 (step_lfts Ps) κs qs) $
            suffices ! _ (𝓛.laws.⇛_intro _) $ show ! (λ (r : Z.R.Denot). sep 𝓤 (sep 𝓤 (toks 𝓛 (step_lfts Ps) κs qs) (sem 𝓛 (Z.R.own_val r (vstruct (tuple_vals (Y ∷ slots Ps) t) ∷ [])))) (ensured 𝓛 lender_ended c₂ κs a x r)) (Z.make t) $
            owned ! Z.R (Is Z.R) (Z.makes M 𝓤 𝓛) (Z.make t) _ (Z.is t are) $ move ! (1 ∷ 0 ∷ []) $ join ! $ frame ! $
            show ! (λ (us : Lasts lender_ended κs a). sep 𝓤 (sem 𝓛 (lasts lender_ended κs a us)) ((c₂ κs a).ensures x (Z.make t) (at_exit lender_ended κs a us))) (lastly (step_lfts Ps) κs (fn_lfts Ps) κs₁ 0 0 Ps (λ ls. ls) (λ ls. ls) st hs ln a ws) $ frame ! $ by ! (S.says κs a x (Z.make t) _))

      -- where the locals stand
      module _ (l : ℕ) (bs : Blocks (in_tys 0 Ps)) (hs : Blocks (tys (slots Ps))) (y₀ : ℕ) (ts : Blocks (temps Ps)) (cs : Blocks (tys (slots Ps))) where
        abbrev E : List (Ty × ℕ)
        E = lend_env l bs hs y₀ ts cs

        at-h : Spots 𝓤 H E h (env (tys (slots Ps)) hs ++ ((Y.τ, y₀) ∷ (env (temps Ps) ts ++ (env (tys (slots Ps)) cs ++ []))))
        at-h i = past-env (in_tys 0 Ps) bs _ i _

        at_y : get_or E y (no_local 𝓤 H) ≡ (Y.τ, y₀)
        at_y = past-env (in_tys 0 Ps) bs _ (past (tys (slots Ps)) 0) _ ∙ past-env (tys (slots Ps)) hs _ 0 _

        at_g : Spots 𝓤 H E g (env (temps Ps) ts ++ (env (tys (slots Ps)) cs ++ []))
        at_g i = past-env (in_tys 0 Ps) bs _ (past (tys (slots Ps)) (suc i)) _ ∙ past-env (tys (slots Ps)) hs _ (suc i) _

        at_c : Spots 𝓤 H E c (env (tys (slots Ps)) cs ++ [])
        at_c i = past-env (in_tys 0 Ps) bs _ (past (tys (slots Ps)) (suc (past (temps Ps) i))) _ ∙ (past-env (tys (slots Ps)) hs _ (suc (past (temps Ps) i)) _ ∙ past-env (temps Ps) ts _ i _)

      walks : (C : Calls 𝓤 H) (Λ : Loops 𝓤 H) → FmC 𝓤 H 𝓛.laws C → (k : Callee) → Triple 𝓤 (C k) Stepped → Typed (in_tys 0 Ps) (in_vals Ps d)
          → ent 𝓤 (⋆ 𝓛 (‵ (tokens (step_lfts Ps) κs qs) ∷ ‵ (in_own Ps κs d) ∷ [])) (WpFn 𝓤 H C Λ (lend_fn k) (in_vals Ps d) Ends)
      walks C Λ fm k known typed =
          qed 𝓛 (‵ (tokens (step_lfts Ps) κs qs) ∷ ‵ (in_own Ps κs d) ∷ []) ∵ enter ! C Λ (lend_fn k) (in_vals Ps d) _ $
          alloc1 ! (λ l. allocs-at ! value_local (in_tys 0 Ps) (λ bs. allocs-at ! memory_slot (tys (slots Ps)) (λ hs. alloc1 ! (λ y₀. allocs-at ! value_local (temps Ps) (λ ts. allocs-at ! value_local (tys (slots Ps)) (λ cs. alloc0 ! $ params1 ! $
          -- [room for the copies; for what is made; for the answer; ..; for the records; for the parameters; for _0; ..; the tokens; what is owned]
          move ! (5 ∷ []) $ passes-all ! (in_tys 0 Ps) bs (in_vals Ps d) typed _ (
          move ! (0 ∷ 5 ∷ []) $ keeps-run ! 0 Ps bs hs d suc h _ _ (λ i. refl) (at-h l bs hs y₀ ts cs) typed _ (
          move ! (0 ∷ 3 ∷ []) $ lends-run ! 0 Ps bs hs ts d suc h g _ _ _ (λ i. refl) (at-h l bs hs y₀ ts cs) (at_g l bs hs y₀ ts cs) typed _ (
          -- [the parameters; what is made; the records; room for the copies; for the answer; ..; for _0; ..; the tokens; what is owned]
          move ! (9 ∷ 8 ∷ 2 ∷ []) $ borrow ! Ps d hs κs qs tt _ (λ ln.
          -- [what the step owns; its tokens; what the lender keeps; the parameters; what is made; room for the copies; for the answer; ..; for _0; ..]
          move ! (1 ∷ 0 ∷ []) $ use2 𝓛 (raw (Stepped.pre (to_step hs ln))) (enters hs ln) $
          calls_from ! fm (raw (Stepped.pre (to_step hs ln))) (fn_vals Ps (lent_in Ps d hs ln)) (Stepped.post (to_step hs ln)) (met hs ln C k known) (operands-are ! 0 Ps bs hs ts d ln suc g _ _ (λ i. refl) (at_g l bs hs y₀ ts cs) (has-nth 2 refl) (has-nth 3 refl)) (λ w.
          use1 𝓛 (later (some (λ (z : Y.R.Denot). (raw (toks 𝓛 (fn_lfts Ps) (κs₁ hs ln) (out_share Ps qs)) ⊛ ‵ (Y.R.own_val z (w ∷ []))) ⊛ raw (ensured 𝓛 step_ended c₁ (κs₁ hs ln) (step_args hs ln) (S.gh (κs₁ hs ln) (step_args hs ln)) z)))) (id⊢ 𝓤 _) $ await ! tt $ pick ! (λ z. split ! $ move ! (1 ∷ []) $
          use1 𝓛 (some (λ (ws : Lasts step_ended (κs₁ hs ln) (step_args hs ln)). ‵ (lasts step_ended (κs₁ hs ln) (step_args hs ln) ws) ⊛ raw ((c₁ (κs₁ hs ln) (step_args hs ln)).ensures (S.gh (κs₁ hs ln) (step_args hs ln)) z (at_exit step_ended (κs₁ hs ln) (step_args hs ln) ws)))) (id⊢ 𝓤 _) $ pick ! (λ ws. split ! $
          move ! (1 ∷ []) $ drop ! $ move ! (1 ∷ []) $ split ! $ recast 𝓛 (‵ (tokens (fn_lfts Ps) (κs₁ hs ln) (out_share Ps qs))) (sym (tokens-are 𝓛 (fn_lfts Ps) (κs₁ hs ln) (out_share Ps qs))) $ move ! (1 ∷ []) $ facts ! Y.R (Is Y.R) (shows 𝓛 Y.R) z (w ∷ []) (λ is.
          -- [the tokens; the last values; what the lender keeps; the parameters; what is made; room for the copies; for the answer; ..; for _0; ..]
          land ! (from_at ! (at_y l bs hs y₀ ts cs) (stop !)) (init ! 6 refl (fine-one Y 𝓛 z w is)) $ rewrite ! 6 (λ (u : Val). ‵ (fat full_share Y.τ y₀ 0 u)) (ap only (Y.tells z (w ∷ []) is)) refl $
          move ! (0 ∷ 2 ∷ []) $ give-back ! Ps d hs κs qs ln tt _ (λ new are.
          -- [the tokens; the records; the last values; the parameters; what is made; room for the copies; the answer; ..; room for _0; ..]
          move ! (1 ∷ 5 ∷ []) $ copies-run ! (slots Ps) hs cs new h c _ [] (at-h l bs hs y₀ ts cs) (at_c l bs hs y₀ ts cs) are _ (
          -- [the records; their copies; the tokens; the last values; the parameters; what is made; the answer; ..; room for _0; ..]
          assigns ! (agg ! (and_then ! (load ! (from_at ! (at_y l bs hs y₀ ts cs) (stop !)) (look ! 6 refl)) (copied-are ! (slots Ps) cs new c [] (at_c l bs hs y₀ ts cs) (has-nth 1 refl)))) (from ! (stop !))
          (init ! 8 refl (subst (λ (vs : Vals). Fine τz (vstruct vs)) (sym (vals-tuple (Y ∷ slots Ps) (z, new))) (fine-built (z, new) (at-its-own z w is, are)))) $
          rewrite ! 8 (λ (vs : Vals). ‵ (fat full_share τz l 0 (vstruct vs))) (vals-tuple (Y ∷ slots Ps) (z, new)) refl $
          returns ! (look ! 8 refl) $ forget ! 8 refl $ move ! (8 ∷ 9 ∷ []) $ free1 ! $ move ! (4 ∷ []) $ frees_all ! (in_tys 0 Ps) bs (in_vals Ps d) (frees_all ! (tys (slots Ps)) hs (vals (slots Ps) new) (
          forget ! 4 refl $ move ! (4 ∷ 5 ∷ []) $ free1 ! $ move ! (3 ∷ []) $ frees_all ! (temps Ps) ts (temp_vals Ps d hs) (frees_all ! (tys (slots Ps)) cs (vals (slots Ps) new) (free0 ! $ by ! (exits hs ln (z, new) ws (at-its-own z w is, are))))))))))))))))))))))

      begins : ent 𝓤 (sep 𝓤 (on_entry 𝓛 lender_ended.signature κs qs a (valss (step_types (step_lfts Ps) κs 0 Ps (λ ls. ls)) (in_spells (step_lfts Ps) κs 0 Ps (λ ls. ls)) a)) ((c₂ κs a).requires x)) (⋆ 𝓛 (‵ (tokens (step_lfts Ps) κs qs) ∷ ‵ (in_own Ps κs d) ∷ []))
      begins =
          qed 𝓛 ((raw (toks 𝓛 (step_lfts Ps) κs qs) ⊛ ‵ (owns (step_types (step_lfts Ps) κs 0 Ps (λ ls. ls)) a (valss (step_types (step_lfts Ps) κs 0 Ps (λ ls. ls)) (in_spells (step_lfts Ps) κs 0 Ps (λ ls. ls)) a))) ∷ raw ((c₂ κs a).requires x) ∷ []) ∵ split ! $
          move ! (2 ∷ []) $ drop ! $ recast 𝓛 (‵ (tokens (step_lfts Ps) κs qs)) (sym (tokens-are 𝓛 (step_lfts Ps) κs qs)) $ frame ! $ recast 𝓛 (‵ (in_own Ps κs d)) (ap (sem 𝓛) (in-owns (step_lfts Ps) κs 0 Ps (λ ls. ls) a)) $ done !

    -- the lender meets its contract where the step does
    meets : (𝓣 : Tables 𝓤 H) (k : Callee) → Triple 𝓤 (𝓣.C k) Stepped → Meets 𝓛 lender_ended.signature (WpFn 𝓤 H 𝓣.C 𝓣.Λ (lend_fn k)) (closing 𝓛 lender_ended c₂)
    meets 𝓣 k known v =
        let κs : Lfts (step_lfts Ps) = v.0.0 in
        let qs : Shares (step_lfts Ps) = v.0.1 in
        let a : Args lender_ended.signature κs = v.0.3 in
        let x : (c₂ κs a).ghost = v.1 in
        let Rq : SProp 𝓤 = (c₂ κs a).requires x in
        let Q : EntryVals lender_ended.signature κs → SProp 𝓤 = λ us. WpFn 𝓤 H 𝓣.C 𝓣.Λ (lend_fn k) (flat (step_types (step_lfts Ps) κs 0 Ps (λ ls. ls)) us) (Ends κs qs a x) in
        via 𝓤 (sep 𝓤 Rq (wand 𝓤 Rq (Q v.0.4)))
        (via 𝓤 (sep 𝓤 (wand 𝓤 Rq (Q v.0.4)) Rq)
        (mono_l 𝓤 Rq (said 𝓛 lender_ended.signature κs qs (in_spells (step_lfts Ps) κs 0 Ps (λ ls. ls)) (in-tell (step_lfts Ps) κs 0 Ps (λ ls. ls)) a (λ us. wand 𝓤 Rq (Q us)) v.0.4 (λ are. wand_i 𝓤 _ Rq _
        (via 𝓤 _ (begins κs qs a x)
        (subst (λ (vs : List Val). ent 𝓤 (⋆ 𝓛 (‵ (tokens (step_lfts Ps) κs qs) ∷ ‵ (in_own Ps κs (d κs qs a x)) ∷ [])) (WpFn 𝓤 H 𝓣.C 𝓣.Λ (lend_fn k) vs (Ends κs qs a x))) (sym (in-flat (step_lfts Ps) κs 0 Ps (λ ls. ls) a))
        (walks κs qs a x 𝓣.C 𝓣.Λ (fm_of 𝓤 H 𝓛.laws 𝓣) k known (in-typed (step_lfts Ps) κs 𝓛 0 Ps (λ ls. ls) a are)))))))
        (comm∗ 𝓤 (wand 𝓤 Rq (Q v.0.4)) Rq))
        (apply∗ 𝓤 Rq (Q v.0.4))

  -- the same of the two routines: what a lender's proof cites
  pub lend_spec : {M : Type 1} {𝓤 : Ura M} (𝓛 : Logic 𝓤) (𝓜 : Model 𝓤 𝓛.H) (𝓡 : Running 𝓤 𝓛.H 𝓜) (c₂ : Clauses 𝓤 lender_ended) (c₁ : Clauses 𝓤 step_ended) → Silent 𝓤 c₂ c₁
      → (routines : Routines) (f : Callee) (k : Callee) → Closed 𝓤 𝓛.H (tables 𝓤 𝓛.H 𝓜 𝓡 routines).C (tables 𝓤 𝓛.H 𝓜 𝓡 routines).Λ f (lend_fn k)
      → (step : Routine) → routines k ≡ step → Meets 𝓛 step_ended.signature (𝓡.run step) (closing 𝓛 step_ended c₁)
      → Meets 𝓛 lender_ended.signature (𝓡.run (routines f)) (closing 𝓛 lender_ended c₂)
  unfolding tables_of
  lend_spec {𝓤 = 𝓤} 𝓛 𝓜 𝓡 c₂ c₁ S routines f k closed step calls holds =
      entered 𝓤 𝓛.H (triple_of 𝓛 lender_ended.signature (closing 𝓛 lender_ended c₂)) (tables 𝓤 𝓛.H 𝓜 𝓡 routines).C (tables 𝓤 𝓛.H 𝓜 𝓡 routines).Λ f (lend_fn k) closed
      (meets 𝓛 c₂ c₁ S (tables_of 𝓤 𝓛.H 𝓜 (tables 𝓤 𝓛.H 𝓜 𝓡 routines)) k (cited 𝓤 𝓛.H (Stepped 𝓛 c₂ c₁ S) 𝓜 𝓡 routines k step calls holds))
