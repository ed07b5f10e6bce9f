-- The walk of a thin function over its step, but for what it does with what the step returns, which is its `Ending`. Assumes nothing.
use mathlib.Core.Path.{◌≡◌, refl, sym, ap, subst, ◌∙◌}
use Prim.Native.Nat.{ℕ, zero, suc}
use mathlib.Core.List.{List, [], ◌∷◌, ◌++◌}
use lib.ListN.{get_or}
use seplogic.Ra.Ura.{Ura}
use base.Fraction.{full_share}
use mir.Syntax.{Callee, Ty, Place, Body as Code, seq, call, return, local, value_local, Fn}
use mir.Val.{Val}
use base.Logic.{SProp, ent, sep, wand, ex, id⊢, via, comm∗, mono_l, wand_i, apply∗}
use base.Fml.{fat, froom, fdies}
use prog.Model.{Model}
use prog.Routine.{Routine, Env as Routines}
use prog.Wp.{Calls, Loops, no_local, WpFn, Tables, Closed}
use types.Logic.{Logic, sem}
use types.Kit.{Go, Item, ‵, raw, some, later, ◌⊛◌, ⋆, at_ret, runs, lands, Seq, ◌$◌, ◌∵◌, !, qed, by, move, recast, use1, use3, split, join, pick, show, suffices, frame, await, done}
use types.Run.{look, forget, returns, enter, alloc1, alloc0, params1, free1, free0}
use sound.WpLaws.{FmC, fm_of}
use contract.Lifetimes.{Lfts, Shares, toks}
use contract.Running.{Running, tables, tables_of}
use denote.RattleType.{RattleType, flat, owns}
use denote.Laws.{Is, Typed, valss, shows}
use denote.Signature.{plain}
use denote.Steps.{owned, facts, said}
use denote.Triple.Entry.{Args, Vals, on_entry}
use denote.Triple.End.{all}
use denote.Triple.Spec.{Meets, triple_of}
use denote.Triple.Statement.{Contract, Triple}
use denote.Triple.Call.{calls_from}
use denote.Triple.Clauses.{Ended, Clauses, Lasts, at_exit, lasts, ensured, closing}
use denote.Triple.Table.{entered, cited}
use denote.Exit.{yes}
use Rattle.thin.proofs.Types.{One, Tuple, Param, records}
use Rattle.thin.proofs.Locals.{Blocks, locs, env, rooms, cells, past, past-env, has-nth, allocs-all, passes-all, frees_all}
use Rattle.thin.proofs.Params.{fn_lfts, step_lfts, step_lft, step_share, tokens, tokens-are, fn_slots, step_slots, Inputs, fn_vals, step_vals, fn_own, step_own, fn_types, inputs, spells, all_tell, fn-flat, fn-owns, step_types, step_inputs, step_input_vals, step-flat, step-owns, fn_tys, temps, temp_vals, lends, operands, held, stored, operands-are, lends-run, fn-typed, lastly, left-run}

-- what comes after the call: S is what the step returns, with the answer and the records in it; it goes to the place p, and then `rest` runs. The locals mids stand between the parameters and what is made for the call, and the locals outs after that
pub record Ending (Y : One) (Ps : List Param) : Type 2 where
  pub S : RattleType
  pub ans : S.Denot → Y.R.Denot
  pub new : S.Denot → Tuple (records Ps)
  pub mids : List Ty
  pub outs : List Ty
  pub p : Place
  pub rest : Code

module _ (Y : One) (Ps : List Param) (N : Ending Y Ps) where
  -- ---- the code, and the two signatures
  abbrev temp : ℕ → ℕ
  temp i = suc (past (fn_tys 0 Ps) (past N.mids i))

  abbrev pub thin_fn : Callee → Fn
  thin_fn k = record {
    lifetimes = fn_lfts Ps;
    outlives = [];
    ty_params = [];
    givens = zero;
    params = past (fn_tys 0 Ps) 0;
    locals = local Y.τ value_local ∷ (locs (fn_tys 0 Ps) ++ (locs N.mids ++ (locs (temps Ps) ++ (locs N.outs ++ []))));
    body = lends suc temp Ps (seq (call k (operands suc temp Ps) N.p) N.rest);
  }

  abbrev pub thin_env : ℕ → Blocks (fn_tys 0 Ps) → Blocks N.mids → Blocks (temps Ps) → Blocks N.outs → List (Ty × ℕ)
  thin_env l bs ms ts es = (Y.τ, l) ∷ (env (fn_tys 0 Ps) bs ++ (env N.mids ms ++ (env (temps Ps) ts ++ (env N.outs es ++ []))))

  abbrev pub fn_ended : Ended
  fn_ended = record { signature = record { lifetimes = fn_lfts Ps; outlives = []; params = fn_slots (fn_lfts Ps) 0 Ps (λ κs. κs); result = plain (λ _. Y.R) }; kept = all yes (fn_slots (fn_lfts Ps) 0 Ps (λ κs. κs)) }

  abbrev pub step_ended : Ended
  step_ended = record { signature = record { lifetimes = step_lfts Ps; outlives = []; params = step_slots (step_lfts Ps) 0 Ps (λ κs. κs); result = plain (λ _. N.S) }; kept = all yes (step_slots (step_lfts Ps) 0 Ps (λ κs. κs)) }

  -- ---- the two contracts
  abbrev pub args_of : (κs : Lfts (fn_lfts Ps)) → Args fn_ended.signature κs → Inputs Ps
  args_of κs a = inputs (fn_lfts Ps) κs 0 Ps (λ ls. ls) a

  abbrev pub step_args : (κs : Lfts (fn_lfts Ps)) → Args fn_ended.signature κs → Args step_ended.signature (step_lft Ps κs)
  step_args κs a = step_inputs (step_lfts Ps) (step_lft Ps κs) 0 Ps (λ ls. ls) (args_of κs a)

  -- what the function leaves, of what the step returns and leaves
  abbrev pub fn_lasts : (κs : Lfts (fn_lfts Ps)) (a : Args fn_ended.signature κs) → N.S.Denot → Lasts step_ended (step_lft Ps κs) (step_args κs a) → Lasts fn_ended κs a
  fn_lasts κs a z ws = lastly (fn_lfts Ps) κs (step_lfts Ps) (step_lft Ps κs) 0 0 Ps (λ ls. ls) (λ ls. ls) a (N.new z) ws

  -- the function's contract c₂ follows from the step's, c₁
  pub record Linked {M : Type 1} (𝓤 : Ura M) (c₂ : Clauses 𝓤 fn_ended) (c₁ : Clauses 𝓤 step_ended) : Type 1 where
    pub gh : (κs : Lfts (fn_lfts Ps)) (a : Args fn_ended.signature κs) → (c₂ κs a).ghost → (c₁ (step_lft Ps κs) (step_args κs a)).ghost
    pub req : (κs : Lfts (fn_lfts Ps)) (a : Args fn_ended.signature κs) (g : (c₂ κs a).ghost) → ent 𝓤 ((c₂ κs a).requires g) ((c₁ (step_lft Ps κs) (step_args κs a)).requires (gh κs a g))
    pub ens : (κs : Lfts (fn_lfts Ps)) (a : Args fn_ended.signature κs) (g : (c₂ κs a).ghost) (z : N.S.Denot) (ws : Lasts step_ended (step_lft Ps κs) (step_args κs a))
        → ent 𝓤 ((c₁ (step_lft Ps κs) (step_args κs a)).ensures (gh κs a g) z (at_exit step_ended (step_lft Ps κs) (step_args κs a) ws)) ((c₂ κs a).ensures g (N.ans z) (at_exit fn_ended κs a (fn_lasts κs a z ws)))

  module _ {M : Type 1} {𝓤 : Ura M} (𝓛 : Logic 𝓤) (c₂ : Clauses 𝓤 fn_ended) (c₁ : Clauses 𝓤 step_ended) (L : Linked 𝓤 c₂ c₁) where
    open 𝓛 use {H}

    abbrev Stepped : Contract 𝓤
    Stepped = triple_of 𝓛 step_ended.signature (closing 𝓛 step_ended c₁)

    module _ (κs : Lfts (fn_lfts Ps)) (qs : Shares (fn_lfts Ps)) (a : Args fn_ended.signature κs) (g : (c₂ κs a).ghost) where
      abbrev d : Inputs Ps
      d = args_of κs a

      abbrev Ends : Val → SProp 𝓤
      Ends v = H.⇛ (ex 𝓤 (λ (r : Y.R.Denot). sep 𝓤 (sep 𝓤 (toks 𝓛 (fn_lfts Ps) κs qs) (sem 𝓛 (Y.R.own_val r (v ∷ [])))) (ensured 𝓛 fn_ended c₂ κs a g r)))

      abbrev Req : SProp 𝓤
      Req = (c₁ (step_lft Ps κs) (step_args κs a)).requires (L.gh κs a g)

      abbrev Ens : N.S.Denot → Lasts step_ended (step_lft Ps κs) (step_args κs a) → SProp 𝓤
      Ens z ws = (c₁ (step_lft Ps κs) (step_args κs a)).ensures (L.gh κs a g) z (at_exit step_ended (step_lft Ps κs) (step_args κs a) ws)

      -- what the step's triple binds outside
      abbrev to_step : Stepped.Ghost
      to_step = ((step_lft Ps κs, step_share Ps qs, tt, step_args κs a, step_input_vals (step_lfts Ps) (step_lft Ps κs) 0 Ps (λ ls. ls) d), L.gh κs a g)

      goes : ent 𝓤 (⋆ 𝓛 (‵ (tokens (step_lfts Ps) (step_lft Ps κs) (step_share Ps qs)) ∷ ‵ (step_own Ps (step_lft Ps κs) d) ∷ raw Req ∷ [])) (Stepped.pre to_step)
      goes =
          qed 𝓛 (‵ (tokens (step_lfts Ps) (step_lft Ps κs) (step_share Ps qs)) ∷ ‵ (step_own Ps (step_lft Ps κs) d) ∷ raw Req ∷ []) ∵
          recast 𝓛 (raw (toks 𝓛 (step_lfts Ps) (step_lft Ps κs) (step_share Ps qs))) (tokens-are 𝓛 (step_lfts Ps) (step_lft Ps κs) (step_share Ps qs)) $ move ! (1 ∷ []) $
          recast 𝓛 (‵ (owns (step_types (step_lfts Ps) (step_lft Ps κs) 0 Ps (λ ls. ls)) (step_args κs a) (step_input_vals (step_lfts Ps) (step_lft Ps κs) 0 Ps (λ ls. ls) d))) (ap (sem 𝓛) (sym (step-owns (step_lfts Ps) (step_lft Ps κs) 0 Ps (λ ls. ls) d))) $
          move ! (1 ∷ 0 ∷ []) $ join ! $ frame ! $ done !

      -- the step's triple, at the values in a row
      met : (C : Calls 𝓤 H) (k : Callee) → Triple 𝓤 (C k) Stepped → ent 𝓤 (Stepped.pre to_step) (C k (step_vals Ps d) (Stepped.post to_step))
      met C k known = subst (λ (vs : List Val). ent 𝓤 (Stepped.pre to_step) (C k vs (Stepped.post to_step))) (step-flat (step_lfts Ps) (step_lft Ps κs) 0 Ps (λ ls. ls) d) (known to_step)

      -- what stands beside the locals once the step has returned z, with the last values ws
      abbrev after : N.S.Denot → Lasts step_ended (step_lft Ps κs) (step_args κs a) → List (Item 𝓤)
      after z ws = ‵ (lasts step_ended (step_lft Ps κs) (step_args κs a) ws) ∷ ‵ (tokens (step_lfts Ps) (step_lft Ps κs) (step_share Ps qs)) ∷ raw (Ens z ws) ∷ []

      exits : (z : N.S.Denot) (v : Val) (ws : Lasts step_ended (step_lft Ps κs) (step_args κs a)) → Is Y.R (N.ans z) (v ∷ []) → ent 𝓤 (⋆ 𝓛 (‵ (stored Ps κs qs d (N.new z)) ∷ after z ws)) (Ends v)
      exits z v ws is =
          qed 𝓛 (‵ (stored Ps κs qs d (N.new z)) ∷ after z ws) ∵ move ! (1 ∷ 2 ∷ 0 ∷ []) $ left-run (fn_lfts Ps) κs (step_lfts Ps) (step_lft Ps κs) ! 0 0 Ps (λ ls. ls) (λ ls. ls) refl qs a (N.new z) ws _ (
          recast 𝓛 (raw (toks 𝓛 (fn_lfts Ps) κs qs)) (tokens-are 𝓛 (fn_lfts Ps) κs qs) $
          suffices ! _ (𝓛.laws.⇛_intro _) $ show ! (λ (r : Y.R.Denot). sep 𝓤 (sep 𝓤 (toks 𝓛 (fn_lfts Ps) κs qs) (sem 𝓛 (Y.R.own_val r (v ∷ [])))) (ensured 𝓛 fn_ended c₂ κs a g r)) (N.ans z) $
          owned ! Y.R (Is Y.R) (Y.makes M 𝓤 𝓛) (N.ans z) _ is $ move ! (1 ∷ 0 ∷ []) $ join ! $ frame ! $
          show ! (λ (us : Lasts fn_ended κs a). sep 𝓤 (sem 𝓛 (lasts fn_ended κs a us)) ((c₂ κs a).ensures g (N.ans z) (at_exit fn_ended κs a us))) (fn_lasts κs a z ws) $ frame ! $ by ! (L.ens κs a g z ws))

      module _ (C : Calls 𝓤 H) (Λ : Loops 𝓤 H) (l : ℕ) (bs : Blocks (fn_tys 0 Ps)) (ms : Blocks N.mids) (ts : Blocks (temps Ps)) (es : Blocks N.outs) where
        -- what is left of the walk once the step has returned z, by the machine value w
        abbrev pub Rest : Val → N.S.Denot → Lasts step_ended (step_lft Ps κs) (step_args κs a) → Type 1
        Rest w z ws = Seq (Go {0}) 𝓛 (‵ (cells (fn_tys 0 Ps) bs (fn_vals Ps d)) ∷ ‵ (rooms N.mids ms) ∷ ‵ (held Ps κs qs d) ∷ ‵ (froom Y.τ l zero) ∷ ‵ (fdies Y.τ l) ∷ ‵ (cells (temps Ps) ts (temp_vals Ps d)) ∷ ‵ (rooms N.outs es) ∷ after z ws)
            (lands C Λ (thin_env l bs ms ts es) N.p w N.rest (at_ret (thin_env l bs ms ts es) Ends))

        -- its end: the function returns what stands in the local _0
        pub ends : (z : N.S.Denot) (v : Val) (ws : Lasts step_ended (step_lft Ps κs) (step_args κs a)) (us xs : List Val) → Is Y.R (N.ans z) (v ∷ [])
            → Seq (Go {0}) 𝓛 (‵ (cells (fn_tys 0 Ps) bs (fn_vals Ps d)) ∷ ‵ (cells N.mids ms us) ∷ ‵ (stored Ps κs qs d (N.new z)) ∷ ‵ (fat full_share Y.τ l zero v) ∷ ‵ (fdies Y.τ l) ∷ ‵ (cells (temps Ps) ts (temp_vals Ps d)) ∷ ‵ (cells N.outs es xs) ∷ after z ws)
            (runs C Λ (thin_env l bs ms ts es) return (at_ret (thin_env l bs ms ts es) Ends))
        ends z v ws us xs is =
            returns ! (look ! 3 refl) $ forget ! 3 refl $ move ! (3 ∷ 4 ∷ []) $ free1 ! $ frees_all ! (fn_tys 0 Ps) bs (fn_vals Ps d) (frees_all ! N.mids ms us (move ! (1 ∷ []) $ frees_all ! (temps Ps) ts (temp_vals Ps d) (move ! (1 ∷ []) $ frees_all ! N.outs es xs (free0 ! $ by ! (exits z v ws is)))))

      -- ---- the walk
      at-temp : (bs : Blocks (fn_tys 0 Ps)) (ms : Blocks N.mids) (ts : Blocks (temps Ps)) (es : Blocks N.outs) (i : ℕ) → get_or (env (fn_tys 0 Ps) bs ++ (env N.mids ms ++ (env (temps Ps) ts ++ (env N.outs es ++ [])))) (past (fn_tys 0 Ps) (past N.mids i)) (no_local 𝓤 H) ≡ get_or (env (temps Ps) ts ++ (env N.outs es ++ [])) i (no_local 𝓤 H)
      at-temp bs ms ts es i = past-env (fn_tys 0 Ps) bs _ (past N.mids i) _ ∙ past-env N.mids ms _ i _

      walks : (C : Calls 𝓤 H) (Λ : Loops 𝓤 H) → FmC 𝓤 H 𝓛.laws C → (k : Callee) → Triple 𝓤 (C k) Stepped
          → ((l : ℕ) (bs : Blocks (fn_tys 0 Ps)) (ms : Blocks N.mids) (ts : Blocks (temps Ps)) (es : Blocks N.outs) (w : Val) (z : N.S.Denot) (ws : Lasts step_ended (step_lft Ps κs) (step_args κs a)) → Is N.S z (w ∷ []) → Rest C Λ l bs ms ts es w z ws)
          → Typed (fn_tys 0 Ps) (fn_vals Ps d) → ent 𝓤 (⋆ 𝓛 (‵ (tokens (fn_lfts Ps) κs qs) ∷ ‵ (fn_own Ps κs d) ∷ raw Req ∷ [])) (WpFn 𝓤 H C Λ (thin_fn k) (fn_vals Ps d) Ends)
      walks C Λ fm k known go typed =
          qed 𝓛 (‵ (tokens (fn_lfts Ps) κs qs) ∷ ‵ (fn_own Ps κs d) ∷ raw Req ∷ []) ∵ enter ! C Λ (thin_fn k) (fn_vals Ps d) _ $
          alloc1 ! (λ l. allocs-all ! (fn_tys 0 Ps) (λ bs. allocs-all ! N.mids (λ ms. allocs-all ! (temps Ps) (λ ts. allocs-all ! N.outs (λ es. alloc0 ! $ params1 ! $
          -- [room for outs; for what is made; for mids; for the parameters; for _0; ..; the tokens; what is owned; the requires]
          move ! (3 ∷ 1 ∷ 2 ∷ []) $ passes-all ! (fn_tys 0 Ps) bs (fn_vals Ps d) typed _ (
          move ! (0 ∷ 1 ∷ 7 ∷ 6 ∷ []) $ lends-run ! 0 Ps bs ts κs qs d suc temp _ _ (λ i. refl) (at-temp bs ms ts es) _ (
          -- [the parameters; what is made; what the step owns; its tokens; what is held; room for mids; for outs; for _0; ..; the requires]
          move ! (3 ∷ 2 ∷ 9 ∷ []) $ use3 𝓛 (raw (Stepped.pre to_step)) goes $
          calls_from ! fm (raw (Stepped.pre to_step)) (step_vals Ps d) (Stepped.post to_step) (met C k known) (operands-are ! 0 Ps bs ts d suc temp _ _ (λ i. refl) (at-temp bs ms ts es) (has-nth 1 refl) (has-nth 2 refl)) (λ w.
          use1 𝓛 (later (some (λ (z : N.S.Denot). (raw (toks 𝓛 (step_lfts Ps) (step_lft Ps κs) (step_share Ps qs)) ⊛ ‵ (N.S.own_val z (w ∷ []))) ⊛ raw (ensured 𝓛 step_ended c₁ (step_lft Ps κs) (step_args κs a) (L.gh κs a g) z)))) (id⊢ 𝓤 _) $ await ! tt $ pick ! (λ z. split ! $ move ! (1 ∷ []) $
          use1 𝓛 (some (λ (ws : Lasts step_ended (step_lft Ps κs) (step_args κs a)). ‵ (lasts step_ended (step_lft Ps κs) (step_args κs a) ws) ⊛ raw (Ens z ws))) (id⊢ 𝓤 _) $ pick ! (λ ws. split ! $ move ! (2 ∷ []) $ split ! $
          recast 𝓛 (‵ (tokens (step_lfts Ps) (step_lft Ps κs) (step_share Ps qs))) (sym (tokens-are 𝓛 (step_lfts Ps) (step_lft Ps κs) (step_share Ps qs))) $ move ! (1 ∷ []) $ facts ! N.S (Is N.S) (shows 𝓛 N.S) z (w ∷ []) (λ is.
          -- [the tokens; the last values; the ensures; the parameters; what is made; what is held; room for mids; for outs; for _0; ..]
          move ! (3 ∷ 6 ∷ 5 ∷ 8 ∷ 9 ∷ 4 ∷ 7 ∷ 1 ∷ 0 ∷ 2 ∷ []) $ go l bs ms ts es w z ws is)))))))))))

      begins : ent 𝓤 (sep 𝓤 (on_entry 𝓛 fn_ended.signature κs qs a (valss (fn_types (fn_lfts Ps) κs 0 Ps (λ ls. ls)) (spells (fn_lfts Ps) κs 0 Ps (λ ls. ls)) a)) ((c₂ κs a).requires g)) (⋆ 𝓛 (‵ (tokens (fn_lfts Ps) κs qs) ∷ ‵ (fn_own Ps κs d) ∷ raw Req ∷ []))
      begins =
          qed 𝓛 ((raw (toks 𝓛 (fn_lfts Ps) κs qs) ⊛ ‵ (owns (fn_types (fn_lfts Ps) κs 0 Ps (λ ls. ls)) a (valss (fn_types (fn_lfts Ps) κs 0 Ps (λ ls. ls)) (spells (fn_lfts Ps) κs 0 Ps (λ ls. ls)) a))) ∷ raw ((c₂ κs a).requires g) ∷ []) ∵ split ! $
          recast 𝓛 (‵ (tokens (fn_lfts Ps) κs qs)) (sym (tokens-are 𝓛 (fn_lfts Ps) κs qs)) $ frame ! $ recast 𝓛 (‵ (fn_own Ps κs d)) (ap (sem 𝓛) (fn-owns (fn_lfts Ps) κs 0 Ps (λ ls. ls) a)) $ frame ! $ by ! (L.req κs a g)

    -- what a variant owes: the rest of the walk
    abbrev pub Rests : Calls 𝓤 H → Loops 𝓤 H → Type 1
    Rests C Λ = (κs : Lfts (fn_lfts Ps)) (qs : Shares (fn_lfts Ps)) (a : Args fn_ended.signature κs) (g : (c₂ κs a).ghost) (l : ℕ) (bs : Blocks (fn_tys 0 Ps)) (ms : Blocks N.mids) (ts : Blocks (temps Ps)) (es : Blocks N.outs) (w : Val) (z : N.S.Denot) (ws : Lasts step_ended (step_lft Ps κs) (step_args κs a))
        → Is N.S z (w ∷ []) → Rest κs qs a g C Λ l bs ms ts es w z ws

    -- the function meets its contract where its step does
    meets : (𝓣 : Tables 𝓤 H) (k : Callee) → Triple 𝓤 (𝓣.C k) Stepped → Rests 𝓣.C 𝓣.Λ → Meets 𝓛 fn_ended.signature (WpFn 𝓤 H 𝓣.C 𝓣.Λ (thin_fn k)) (closing 𝓛 fn_ended c₂)
    meets 𝓣 k known go y =
        let κs : Lfts (fn_lfts Ps) = y.0.0 in
        let qs : Shares (fn_lfts Ps) = y.0.1 in
        let a : Args fn_ended.signature κs = y.0.3 in
        let g : (c₂ κs a).ghost = y.1 in
        let Rq : SProp 𝓤 = (c₂ κs a).requires g in
        let Q : Vals fn_ended.signature κs → SProp 𝓤 = λ us. WpFn 𝓤 H 𝓣.C 𝓣.Λ (thin_fn k) (flat (fn_types (fn_lfts Ps) κs 0 Ps (λ ls. ls)) us) (Ends κs qs a g) in
        via 𝓤 (sep 𝓤 Rq (wand 𝓤 Rq (Q y.0.4)))
        (via 𝓤 (sep 𝓤 (wand 𝓤 Rq (Q y.0.4)) Rq)
        (mono_l 𝓤 Rq (said 𝓛 fn_ended.signature κs qs (spells (fn_lfts Ps) κs 0 Ps (λ ls. ls)) (all_tell (fn_lfts Ps) κs 0 Ps (λ ls. ls)) a (λ us. wand 𝓤 Rq (Q us)) y.0.4 (λ are. wand_i 𝓤 _ Rq _
        (via 𝓤 _ (begins κs qs a g)
        (subst (λ (vs : List Val). ent 𝓤 (⋆ 𝓛 (‵ (tokens (fn_lfts Ps) κs qs) ∷ ‵ (fn_own Ps κs (args_of κs a)) ∷ raw (Req κs qs a g) ∷ [])) (WpFn 𝓤 H 𝓣.C 𝓣.Λ (thin_fn k) vs (Ends κs qs a g))) (sym (fn-flat (fn_lfts Ps) κs 0 Ps (λ ls. ls) a))
        (walks κs qs a g 𝓣.C 𝓣.Λ (fm_of 𝓤 H 𝓛.laws 𝓣) k known (go κs qs a g) (fn-typed 𝓛 (fn_lfts Ps) κs 0 Ps (λ ls. ls) a are)))))))
        (comm∗ 𝓤 (wand 𝓤 Rq (Q y.0.4)) Rq))
        (apply∗ 𝓤 Rq (Q y.0.4))

  -- the same of the two routines: what a thin function's proof cites
  abbrev pub Thin : {M : Type 1} → Ura M → Type 2
  Thin 𝓤 = (𝓛 : Logic 𝓤) (𝓜 : Model 𝓤 𝓛.H) (𝓡 : Running 𝓤 𝓛.H 𝓜) (c₂ : Clauses 𝓤 fn_ended) (c₁ : Clauses 𝓤 step_ended) → Linked 𝓤 c₂ c₁
      → (routines : Routines) (f : Callee) (k : Callee) → Closed 𝓤 𝓛.H (tables 𝓤 𝓛.H 𝓜 𝓡 routines).C (tables 𝓤 𝓛.H 𝓜 𝓡 routines).Λ f (thin_fn k)
      → (step : Routine) → routines k ≡ step → Meets 𝓛 step_ended.signature (𝓡.run step) (closing 𝓛 step_ended c₁)
      → Meets 𝓛 fn_ended.signature (𝓡.run (routines f)) (closing 𝓛 fn_ended c₂)

  pub thin : {M : Type 1} (𝓤 : Ura M) → ((𝓛 : Logic 𝓤) (c₂ : Clauses 𝓤 fn_ended) (c₁ : Clauses 𝓤 step_ended) (L : Linked 𝓤 c₂ c₁) (C : Calls 𝓤 𝓛.H) (Λ : Loops 𝓤 𝓛.H) → Rests 𝓛 c₂ c₁ L C Λ) → Thin 𝓤
  unfolding tables_of
  thin 𝓤 go 𝓛 𝓜 𝓡 c₂ c₁ L routines f k closed step calls holds =
      entered 𝓤 𝓛.H (triple_of 𝓛 fn_ended.signature (closing 𝓛 fn_ended c₂)) (tables 𝓤 𝓛.H 𝓜 𝓡 routines).C (tables 𝓤 𝓛.H 𝓜 𝓡 routines).Λ f (thin_fn k) closed
      (meets 𝓛 c₂ c₁ L (tables_of 𝓤 𝓛.H 𝓜 (tables 𝓤 𝓛.H 𝓜 𝓡 routines)) k (cited 𝓤 𝓛.H (Stepped 𝓛 c₂ c₁ L) 𝓜 𝓡 routines k step calls holds) (go 𝓛 c₂ c₁ L (tables 𝓤 𝓛.H 𝓜 𝓡 routines).C (tables 𝓤 𝓛.H 𝓜 𝓡 routines).Λ))
