-- Lemmas on the parameters of a thin function: its signature and its step's, and what its code does before, in and after the call. Assumes nothing.
-- Each is by recursion on the list of parameters. Names with `fn` are the thin function's, names with `step` the step's.
use mathlib.Core.Path.{◌≡◌, refl, sym, ap}
use Prim.Native.Nat.{ℕ, zero, suc}
use mathlib.Core.Option.{some}
use mathlib.Core.List.{List, [], ◌∷◌, ◌++◌}
use lib.ListN.{length, get_or}
use seplogic.Ra.Ura.{Ura}
use base.Fraction.{full_share}
use mir.Syntax.{Sym, Lifetime, Mutability, Ty, ty_ref, ty_struct, Tys, imm, mut, named, erased, wrote, place, deref, field, Opd as Operand, copy, rv_opd, addr_of, aggregate, Body as Code, seq, assign}
use mir.Val.{Val, vptr, vstruct, Vals}
use mir.Fields.{get_v}
use base.Logic.{sep}
use base.Stored.{Gv, Coded, coded_list}
use base.Fml.{Lft, Share, GName, Fml, ftrue, fsep, fat, flft, fobs, fauth, fbor, fobor, fres}
use prog.Memory.{field_at}
use prog.Wp.{Heap, Env, Calls, Loops, no_local}
use types.Logic.{Logic, sem}
use types.Kit.{Item, ‵, Goal, Post, runs, Seq, ◌$◌, move, drop, use1, rewrite, fsplit, fsplit3, fjoin}
use types.Run.{Opds, look, look_raw, store_raw, init, stop, hop, fld, load, addr, of_opd, and_then, no_more, assigns}
use types.Part.{agg, whole, sub, look_in}
use types.SemTy.{Body}
use contract.Lifetimes.{Lfts, Shares, toks}
use denote.RattleType.{RattleType, Denots, Valss, flat, owns}
use denote.Memory.{mem, cell_at, pointee}
use denote.Laws.{Is, Ises, Are, Typed, Spells, valss, Tells, Tellss, shows}
use denote.Ref.{Bor, MutBor, shr_coded, mut_coded, MutRef, ShrRef, mut_Tells, shr_Tells}
use denote.Slice.{slice_ty, slice_val, mut_slice_vals, MutSlice, ShrSlice, mut_slice_Tells, shr_slice_Tells}
use denote.Signature.{Slot, plain, types_at}
use denote.Steps.{opens, closes, looks, shuts, owned, peeks, facts, nothing}
use denote.Struct.Steps.{spelt}
use denote.Triple.End.{all, Fins, lasts_of}
use denote.Exit.{Kept, Exit, left, yes}
use Rattle.thin.proofs.Types.{One, IsOne, fine-one, Tuple, tuple_tys, tuple_vals, IsTuple, Param, val, slice_of, ref_to, records}
use Rattle.thin.proofs.Locals.{cell, space, Blocks, env, rooms, cells, Has, has_first, has-second, reads, read_as, from_at}

-- ---- the types of the references: `denote.Slice`'s and `denote.Ref`'s, with the mutability for an argument
abbrev pub Of : Mutability → Type 0 → Type 0
Of imm X = Bor X
Of mut X = MutBor X

-- where it points, its value, and its machine value
abbrev pub place_of : (m : Mutability) (X : Type 0) → Of m X → ℕ × ℕ
place_of imm X x = x.ref_ptr
place_of mut X x = x.ref_ptr

abbrev pub now_of : (m : Mutability) (X : Type 0) → Of m X → X
now_of imm X x = x.now
now_of mut X x = x.now

abbrev pub ref_val : (m : Mutability) (R : One) → Of m R.R.Denot → Val
ref_val m R x = vptr (place_of m R.R.Denot x).0 (place_of m R.R.Denot x).1

abbrev pub slice_of_val : (m : Mutability) (T : One) → Of m (List T.R.Denot) → Val
slice_of_val m T x = slice_val (place_of m (List T.R.Denot) x) (length (now_of m (List T.R.Denot) x))

abbrev of_coded : (m : Mutability) (X : Type 0) → Coded X → Coded (Of m X)
of_coded imm X c = shr_coded c
of_coded mut X c = mut_coded c

abbrev slice_own : (m : Mutability) → Lifetime → Lft → (R : RattleType) → Of m (List R.Denot) → List Val → Fml
slice_own imm ℓ κ R = (ShrSlice ℓ κ R).own_val
slice_own mut ℓ κ R = (MutSlice ℓ κ R).own_val

abbrev slice_exit : (m : Mutability) → Lifetime → Lft → (R : RattleType) → Kept → Exit (Of m (List R.Denot))
slice_exit imm ℓ κ R = (ShrSlice ℓ κ R).exit
slice_exit mut ℓ κ R = (MutSlice ℓ κ R).exit

abbrev slice_shr : (m : Mutability) → Lifetime → Lft → (R : RattleType) → Of m (List R.Denot) → ℕ → ℕ → Lft → Fml
slice_shr imm ℓ κ R = (ShrSlice ℓ κ R).shr_at
slice_shr mut ℓ κ R = (MutSlice ℓ κ R).shr_at

abbrev pub Slice : Mutability → Lifetime → Lft → RattleType → RattleType
Slice m ℓ κ R = record {
  Denot = Of m (List R.Denot);
  mir = slice_ty (ty_ref ℓ m (pointee R.written)) ∷ [];
  written = wrote (slice_ty (ty_ref ℓ m (pointee R.written)));
  reaches = (R.written, R.mir) ∷ R.reaches;
  lives = κ ++ R.lives;
  own_val = slice_own m ℓ κ R;
  exit = slice_exit m ℓ κ R;
  coded = of_coded m (List R.Denot) (coded_list R.coded);
  shr_at = slice_shr m ℓ κ R;
}

abbrev ref_own : (m : Mutability) → Lifetime → Lft → (R : RattleType) → Of m R.Denot → List Val → Fml
ref_own imm ℓ κ R = (ShrRef ℓ κ R).own_val
ref_own mut ℓ κ R = (MutRef ℓ κ R).own_val

abbrev ref_exit : (m : Mutability) → Lifetime → Lft → (R : RattleType) → Kept → Exit (Of m R.Denot)
ref_exit imm ℓ κ R = (ShrRef ℓ κ R).exit
ref_exit mut ℓ κ R = (MutRef ℓ κ R).exit

abbrev ref_shr : (m : Mutability) → Lifetime → Lft → (R : RattleType) → Of m R.Denot → ℕ → ℕ → Lft → Fml
ref_shr imm ℓ κ R = (ShrRef ℓ κ R).shr_at
ref_shr mut ℓ κ R = (MutRef ℓ κ R).shr_at

abbrev pub Ref : Mutability → Lifetime → Lft → RattleType → RattleType
Ref m ℓ κ R = record {
  Denot = Of m R.Denot;
  mir = ty_ref ℓ m (pointee R.written) ∷ [];
  written = wrote (ty_ref ℓ m (pointee R.written));
  reaches = (R.written, R.mir) ∷ R.reaches;
  lives = κ ++ R.lives;
  own_val = ref_own m ℓ κ R;
  exit = ref_exit m ℓ κ R;
  coded = of_coded m R.Denot R.coded;
  shr_at = ref_shr m ℓ κ R;
}

slice-tells : (m : Mutability) (ℓ : Lifetime) (κ : Lft) (T : One) → Tells (Slice m ℓ κ T.R) (Is (Slice m ℓ κ T.R)) (λ x. slice_of_val m T x ∷ [])
slice-tells imm ℓ κ T = shr_slice_Tells ℓ κ T.R
slice-tells mut ℓ κ T = mut_slice_Tells ℓ κ T.R

ref-tells : (m : Mutability) (ℓ : Lifetime) (κ : Lft) (R : One) → Tells (Ref m ℓ κ R.R) (Is (Ref m ℓ κ R.R)) (λ x. ref_val m R x ∷ [])
ref-tells imm ℓ κ R = shr_Tells ℓ κ R.R
ref-tells mut ℓ κ R = mut_Tells ℓ κ R.R

-- ---- lifetimes: one for each reference. The step has those of the slices
abbrev pub fn_lfts : List Param → ℕ
fn_lfts [] = zero
fn_lfts (val X ∷ Ps) = fn_lfts Ps
fn_lfts (slice_of m T ∷ Ps) = suc (fn_lfts Ps)
fn_lfts (ref_to m R ∷ Ps) = suc (fn_lfts Ps)

abbrev pub step_lfts : List Param → ℕ
step_lfts [] = zero
step_lfts (val X ∷ Ps) = step_lfts Ps
step_lfts (slice_of m T ∷ Ps) = suc (step_lfts Ps)
step_lfts (ref_to m R ∷ Ps) = step_lfts Ps

abbrev pub step_lft : (Ps : List Param) → Lfts (fn_lfts Ps) → Lfts (step_lfts Ps)
step_lft [] κs = tt
step_lft (val X ∷ Ps) κs = step_lft Ps κs
step_lft (slice_of m T ∷ Ps) κs = (κs.0, step_lft Ps κs.1)
step_lft (ref_to m R ∷ Ps) κs = step_lft Ps κs.1

abbrev pub step_share : (Ps : List Param) → Shares (fn_lfts Ps) → Shares (step_lfts Ps)
step_share [] qs = tt
step_share (val X ∷ Ps) qs = step_share Ps qs
step_share (slice_of m T ∷ Ps) qs = (qs.0, step_share Ps qs.1)
step_share (ref_to m R ∷ Ps) qs = step_share Ps qs.1

-- the tokens, as a formula
abbrev pub tokens : (n : ℕ) → Lfts n → Shares n → Fml
tokens zero κs qs = ftrue
tokens (suc n) κs qs = fsep (flft κs.0 qs.0) (tokens n κs.1 qs.1)

pub tokens-are : {M : Type 1} {𝓤 : Ura M} (𝓛 : Logic 𝓤) (n : ℕ) (κs : Lfts n) (qs : Shares n) → sem 𝓛 (tokens n κs qs) ≡ toks 𝓛 n κs qs
tokens-are 𝓛 zero κs qs = refl
tokens-are {𝓤 = 𝓤} 𝓛 (suc n) κs qs = ap (sep 𝓤 (𝓛.A.lft κs.0 qs.0)) (tokens-are 𝓛 n κs.1 qs.1)

-- ---- the two signatures. `at` has, of the signature's n lifetimes, those of these parameters, and j is the number of the first of them
abbrev pub fn_slots : (n j : ℕ) (Ps : List Param) → (Lfts n → Lfts (fn_lfts Ps)) → List (Slot n)
fn_slots n j [] at = []
fn_slots n j (val X ∷ Ps) at = plain (λ _. X.R) ∷ fn_slots n j Ps at
fn_slots n j (slice_of m T ∷ Ps) at = plain (λ κs. Slice m (named j) (at κs).0 T.R) ∷ fn_slots n (suc j) Ps (λ κs. (at κs).1)
fn_slots n j (ref_to m R ∷ Ps) at = plain (λ κs. Ref m (named j) (at κs).0 R.R) ∷ fn_slots n (suc j) Ps (λ κs. (at κs).1)

abbrev pub step_slots : (n j : ℕ) (Ps : List Param) → (Lfts n → Lfts (step_lfts Ps)) → List (Slot n)
step_slots n j [] at = []
step_slots n j (val X ∷ Ps) at = plain (λ _. X.R) ∷ step_slots n j Ps at
step_slots n j (slice_of m T ∷ Ps) at = plain (λ κs. Slice m (named j) (at κs).0 T.R) ∷ step_slots n (suc j) Ps (λ κs. (at κs).1)
step_slots n j (ref_to m R ∷ Ps) at = plain (λ _. R.R) ∷ step_slots n j Ps at

-- ---- the arguments, with no lifetime in their type
abbrev pub Inputs : List Param → Type 0
Inputs [] = Unit {0}
Inputs (val X ∷ Ps) = X.R.Denot × Inputs Ps
Inputs (slice_of m T ∷ Ps) = Of m (List T.R.Denot) × Inputs Ps
Inputs (ref_to m R ∷ Ps) = Of m R.R.Denot × Inputs Ps

-- their machine values, and what they own: the function's and the step's
abbrev pub fn_vals : (Ps : List Param) → Inputs Ps → List Val
fn_vals [] d = []
fn_vals (val X ∷ Ps) d = X.val d.0 ∷ fn_vals Ps d.1
fn_vals (slice_of m T ∷ Ps) d = slice_of_val m T d.0 ∷ fn_vals Ps d.1
fn_vals (ref_to m R ∷ Ps) d = ref_val m R d.0 ∷ fn_vals Ps d.1

abbrev pub step_vals : (Ps : List Param) → Inputs Ps → List Val
step_vals [] d = []
step_vals (val X ∷ Ps) d = X.val d.0 ∷ step_vals Ps d.1
step_vals (slice_of m T ∷ Ps) d = slice_of_val m T d.0 ∷ step_vals Ps d.1
step_vals (ref_to m R ∷ Ps) d = R.val (now_of m R.R.Denot d.0) ∷ step_vals Ps d.1

abbrev pub fn_own : (Ps : List Param) → Lfts (fn_lfts Ps) → Inputs Ps → Fml
fn_own [] κs d = ftrue
fn_own (val X ∷ Ps) κs d = fsep (X.R.own_val d.0 (X.val d.0 ∷ [])) (fn_own Ps κs d.1)
fn_own (slice_of m T ∷ Ps) κs d = fsep ((Slice m erased κs.0 T.R).own_val d.0 (slice_of_val m T d.0 ∷ [])) (fn_own Ps κs.1 d.1)
fn_own (ref_to m R ∷ Ps) κs d = fsep ((Ref m erased κs.0 R.R).own_val d.0 (ref_val m R d.0 ∷ [])) (fn_own Ps κs.1 d.1)

abbrev pub step_own : (Ps : List Param) → Lfts (step_lfts Ps) → Inputs Ps → Fml
step_own [] κs d = ftrue
step_own (val X ∷ Ps) κs d = fsep (X.R.own_val d.0 (X.val d.0 ∷ [])) (step_own Ps κs d.1)
step_own (slice_of m T ∷ Ps) κs d = fsep ((Slice m erased κs.0 T.R).own_val d.0 (slice_of_val m T d.0 ∷ [])) (step_own Ps κs.1 d.1)
step_own (ref_to m R ∷ Ps) κs d = fsep (R.R.own_val (now_of m R.R.Denot d.0) (R.val (now_of m R.R.Denot d.0) ∷ [])) (step_own Ps κs d.1)

-- at the function's signature
module _ (n : ℕ) (κs : Lfts n) where
  abbrev pub fn_types : (j : ℕ) (Ps : List Param) → (Lfts n → Lfts (fn_lfts Ps)) → List RattleType
  fn_types j Ps at = types_at {n = n} (fn_slots n j Ps at) κs

  abbrev pub inputs : (j : ℕ) (Ps : List Param) (at : Lfts n → Lfts (fn_lfts Ps)) → Denots (fn_types j Ps at) → Inputs Ps
  inputs j [] at a = tt
  inputs j (val X ∷ Ps) at a = (a.0, inputs j Ps at a.1)
  inputs j (slice_of m T ∷ Ps) at a = (a.0, inputs (suc j) Ps (λ ls. (at ls).1) a.1)
  inputs j (ref_to m R ∷ Ps) at a = (a.0, inputs (suc j) Ps (λ ls. (at ls).1) a.1)

  abbrev pub spells : (j : ℕ) (Ps : List Param) (at : Lfts n → Lfts (fn_lfts Ps)) → Spells (fn_types j Ps at)
  spells j [] at = tt
  spells j (val X ∷ Ps) at = ((λ x. X.val x ∷ []), spells j Ps at)
  spells j (slice_of m T ∷ Ps) at = ((λ x. slice_of_val m T x ∷ []), spells (suc j) Ps (λ ls. (at ls).1))
  spells j (ref_to m R ∷ Ps) at = ((λ x. ref_val m R x ∷ []), spells (suc j) Ps (λ ls. (at ls).1))

  pub all_tell : (j : ℕ) (Ps : List Param) (at : Lfts n → Lfts (fn_lfts Ps)) → Tellss (fn_types j Ps at) (Ises (fn_types j Ps at)) (spells j Ps at)
  all_tell j [] at = tt
  all_tell j (val X ∷ Ps) at = (X.tells, all_tell j Ps at)
  all_tell j (slice_of m T ∷ Ps) at = (slice-tells m (named j) (at κs).0 T, all_tell (suc j) Ps (λ ls. (at ls).1))
  all_tell j (ref_to m R ∷ Ps) at = (ref-tells m (named j) (at κs).0 R, all_tell (suc j) Ps (λ ls. (at ls).1))

  -- the machine values in a row, and what the parameters own
  pub fn-flat : (j : ℕ) (Ps : List Param) (at : Lfts n → Lfts (fn_lfts Ps)) (a : Denots (fn_types j Ps at)) → flat (fn_types j Ps at) (valss (fn_types j Ps at) (spells j Ps at) a) ≡ fn_vals Ps (inputs j Ps at a)
  fn-flat j [] at a = refl
  fn-flat j (val X ∷ Ps) at a = rw (fn-flat j Ps at a.1)
  fn-flat j (slice_of m T ∷ Ps) at a = rw (fn-flat (suc j) Ps (λ ls. (at ls).1) a.1)
  fn-flat j (ref_to m R ∷ Ps) at a = rw (fn-flat (suc j) Ps (λ ls. (at ls).1) a.1)

  pub fn-owns : (j : ℕ) (Ps : List Param) (at : Lfts n → Lfts (fn_lfts Ps)) (a : Denots (fn_types j Ps at)) → owns (fn_types j Ps at) a (valss (fn_types j Ps at) (spells j Ps at) a) ≡ fn_own Ps (at κs) (inputs j Ps at a)
  fn-owns j [] at a = refl
  fn-owns j (val X ∷ Ps) at a = rw (fn-owns j Ps at a.1)
  fn-owns j (slice_of imm T ∷ Ps) at a = rw (fn-owns (suc j) Ps (λ ls. (at ls).1) a.1)
  fn-owns j (slice_of mut T ∷ Ps) at a = rw (fn-owns (suc j) Ps (λ ls. (at ls).1) a.1)
  fn-owns j (ref_to imm R ∷ Ps) at a = rw (fn-owns (suc j) Ps (λ ls. (at ls).1) a.1)
  fn-owns j (ref_to mut R ∷ Ps) at a = rw (fn-owns (suc j) Ps (λ ls. (at ls).1) a.1)

-- at the step's signature
module _ (n : ℕ) (κs : Lfts n) where
  abbrev pub step_types : (j : ℕ) (Ps : List Param) → (Lfts n → Lfts (step_lfts Ps)) → List RattleType
  step_types j Ps at = types_at {n = n} (step_slots n j Ps at) κs

  -- what the step is called with
  abbrev pub step_inputs : (j : ℕ) (Ps : List Param) (at : Lfts n → Lfts (step_lfts Ps)) → Inputs Ps → Denots (step_types j Ps at)
  step_inputs j [] at d = tt
  step_inputs j (val X ∷ Ps) at d = (d.0, step_inputs j Ps at d.1)
  step_inputs j (slice_of m T ∷ Ps) at d = (d.0, step_inputs (suc j) Ps (λ ls. (at ls).1) d.1)
  step_inputs j (ref_to m R ∷ Ps) at d = (now_of m R.R.Denot d.0, step_inputs j Ps at d.1)

  abbrev pub step_input_vals : (j : ℕ) (Ps : List Param) (at : Lfts n → Lfts (step_lfts Ps)) → Inputs Ps → Valss (step_types j Ps at)
  step_input_vals j [] at d = tt
  step_input_vals j (val X ∷ Ps) at d = (X.val d.0 ∷ [], step_input_vals j Ps at d.1)
  step_input_vals j (slice_of m T ∷ Ps) at d = (slice_of_val m T d.0 ∷ [], step_input_vals (suc j) Ps (λ ls. (at ls).1) d.1)
  step_input_vals j (ref_to m R ∷ Ps) at d = (R.val (now_of m R.R.Denot d.0) ∷ [], step_input_vals j Ps at d.1)

  pub step-flat : (j : ℕ) (Ps : List Param) (at : Lfts n → Lfts (step_lfts Ps)) (d : Inputs Ps) → flat (step_types j Ps at) (step_input_vals j Ps at d) ≡ step_vals Ps d
  step-flat j [] at d = refl
  step-flat j (val X ∷ Ps) at d = rw (step-flat j Ps at d.1)
  step-flat j (slice_of m T ∷ Ps) at d = rw (step-flat (suc j) Ps (λ ls. (at ls).1) d.1)
  step-flat j (ref_to m R ∷ Ps) at d = rw (step-flat j Ps at d.1)

  pub step-owns : (j : ℕ) (Ps : List Param) (at : Lfts n → Lfts (step_lfts Ps)) (d : Inputs Ps) → owns (step_types j Ps at) (step_inputs j Ps at d) (step_input_vals j Ps at d) ≡ step_own Ps (at κs) d
  step-owns j [] at d = refl
  step-owns j (val X ∷ Ps) at d = rw (step-owns j Ps at d.1)
  step-owns j (slice_of imm T ∷ Ps) at d = rw (step-owns (suc j) Ps (λ ls. (at ls).1) d.1)
  step-owns j (slice_of mut T ∷ Ps) at d = rw (step-owns (suc j) Ps (λ ls. (at ls).1) d.1)
  step-owns j (ref_to m R ∷ Ps) at d = rw (step-owns j Ps at d.1)

-- ---- data of these types, each in a local of its own
abbrev pub tys : List One → List Ty
tys [] = []
tys (X ∷ Xs) = X.τ ∷ tys Xs

abbrev pub vals : (Xs : List One) → Tuple Xs → List Val
vals [] t = []
vals (X ∷ Xs) t = X.val t.0 ∷ vals Xs t.1

-- ---- the code. f has the locals of the parameters, and g those that are made for the call: a slice that is lent on has two, and a record's copy one
abbrev pub fn_tys : ℕ → List Param → List Ty
fn_tys j [] = []
fn_tys j (val X ∷ Ps) = X.τ ∷ fn_tys j Ps
fn_tys j (slice_of m T ∷ Ps) = slice_ty (ty_ref (named j) m (pointee T.R.written)) ∷ fn_tys (suc j) Ps
fn_tys j (ref_to m R ∷ Ps) = ty_ref (named j) m (pointee R.R.written) ∷ fn_tys (suc j) Ps

abbrev pub temps : List Param → List Ty
temps [] = []
temps (val X ∷ Ps) = temps Ps
temps (slice_of imm T ∷ Ps) = temps Ps
temps (slice_of mut T ∷ Ps) = ty_ref erased mut (pointee T.R.written) ∷ slice_ty (ty_ref erased mut (pointee T.R.written)) ∷ temps Ps
temps (ref_to m R ∷ Ps) = R.τ ∷ temps Ps

abbrev pub temp_vals : (Ps : List Param) → Inputs Ps → List Val
temp_vals [] d = []
temp_vals (val X ∷ Ps) d = temp_vals Ps d.1
temp_vals (slice_of imm T ∷ Ps) d = temp_vals Ps d.1
temp_vals (slice_of mut T ∷ Ps) d = vptr d.0.ref_ptr.0 d.0.ref_ptr.1 ∷ slice_val d.0.ref_ptr (length d.0.now) ∷ temp_vals Ps d.1
temp_vals (ref_to m R ∷ Ps) d = R.val (now_of m R.R.Denot d.0) ∷ temp_vals Ps d.1

-- before the call
abbrev pub lends : (f g : ℕ → ℕ) → List Param → Code → Code
lends f g [] rest = rest
lends f g (val X ∷ Ps) rest = lends (λ i. f (suc i)) g Ps rest
lends f g (slice_of imm T ∷ Ps) rest = lends (λ i. f (suc i)) g Ps rest
lends f g (slice_of mut T ∷ Ps) rest =
    seq (assign (place (g 0) []) (addr_of (place (f 0) (field 0 ∷ deref T.τ ∷ []))))
    (seq (assign (place (g 1) []) (aggregate (copy (place (g 0) []) ∷ copy (place (f 0) (field 1 ∷ [])) ∷ []))) (lends (λ i. f (suc i)) (λ i. g (suc (suc i))) Ps rest))
lends f g (ref_to m R ∷ Ps) rest = seq (assign (place (g 0) []) (rv_opd (copy (place (f 0) (deref R.τ ∷ []))))) (lends (λ i. f (suc i)) (λ i. g (suc i)) Ps rest)

-- what the step is called with
abbrev pub operands : (f g : ℕ → ℕ) → List Param → List Operand
operands f g [] = []
operands f g (val X ∷ Ps) = copy (place (f 0) []) ∷ operands (λ i. f (suc i)) g Ps
operands f g (slice_of imm T ∷ Ps) = copy (place (f 0) []) ∷ operands (λ i. f (suc i)) g Ps
operands f g (slice_of mut T ∷ Ps) = copy (place (g 1) []) ∷ operands (λ i. f (suc i)) (λ i. g (suc (suc i))) Ps
operands f g (ref_to m R ∷ Ps) = copy (place (g 0) []) ∷ operands (λ i. f (suc i)) (λ i. g (suc i)) Ps

-- after the call: each record that the step returns, the field k of the local z, is copied to the local e, and from there stored
abbrev pub stores : (f : ℕ → ℕ) (z : ℕ) (k e : ℕ → ℕ) → List Param → Code → Code
stores f z k e [] rest = rest
stores f z k e (val X ∷ Ps) rest = stores (λ i. f (suc i)) z k e Ps rest
stores f z k e (slice_of m T ∷ Ps) rest = stores (λ i. f (suc i)) z k e Ps rest
stores f z k e (ref_to imm R ∷ Ps) rest = stores (λ i. f (suc i)) z k e Ps rest
stores f z k e (ref_to mut R ∷ Ps) rest =
    seq (assign (place (e 0) []) (rv_opd (copy (place z (field (k 0) ∷ [])))))
    (seq (assign (place (f 0) (deref R.τ ∷ [])) (rv_opd (copy (place (e 0) [])))) (stores (λ i. f (suc i)) z (λ i. k (suc i)) (λ i. e (suc i)) Ps rest))

-- ---- what is held while the step runs: the token of a `&R`, and the open borrow of a `&mut R`
abbrev kept : (m : Mutability) (R : One) → Lft → Share → Of m R.R.Denot → Fml
kept imm R κ q x = flft κ q
kept mut R κ q x =
    fsep (cell_at full_share (R.τ ∷ []) (R.val x.now ∷ []) x.ref_ptr.0 x.ref_ptr.1)
    (fsep (fobor κ q (Body (mem R.R) x.ref_ptr.0 x.ref_ptr.1 x.ghost_name)) (fsep (fobs x.ghost_name (R.R.coded.code x.now)) (fauth x.ghost_name (R.R.coded.code x.now))))

abbrev pub held : (Ps : List Param) → Lfts (fn_lfts Ps) → Shares (fn_lfts Ps) → Inputs Ps → Fml
held [] κs qs d = ftrue
held (val X ∷ Ps) κs qs d = held Ps κs qs d.1
held (slice_of m T ∷ Ps) κs qs d = held Ps κs.1 qs.1 d.1
held (ref_to m R ∷ Ps) κs qs d = fsep (kept m R κs.0 qs.0 d.0) (held Ps κs.1 qs.1 d.1)

-- and after the stores: the tokens, and what the records were left at
abbrev pub stored : (Ps : List Param) → Lfts (fn_lfts Ps) → Shares (fn_lfts Ps) → Inputs Ps → Tuple (records Ps) → Fml
stored [] κs qs d new = ftrue
stored (val X ∷ Ps) κs qs d new = stored Ps κs qs d.1 new
stored (slice_of m T ∷ Ps) κs qs d new = stored Ps κs.1 qs.1 d.1 new
stored (ref_to imm R ∷ Ps) κs qs d new = fsep (flft κs.0 qs.0) (stored Ps κs.1 qs.1 d.1 new)
stored (ref_to mut R ∷ Ps) κs qs d new = fsep (fsep (flft κs.0 qs.0) (fsep (fobs d.0.ghost_name (R.R.coded.code new.0)) (fbor κs.0 (Body (mem R.R) d.0.ref_ptr.0 d.0.ref_ptr.1 d.0.ghost_name)))) (stored Ps κs.1 qs.1 d.1 new.1)

-- no `&mut R` among them: what is held is what is stored
abbrev pub Still : List Param → Type 0
Still [] = Unit {0}
Still (val X ∷ Ps) = Still Ps
Still (slice_of m T ∷ Ps) = Still Ps
Still (ref_to imm R ∷ Ps) = Still Ps
Still (ref_to mut R ∷ Ps) = ⊥

abbrev pub none : (Ps : List Param) → Still Ps → Tuple (records Ps)
none [] st = tt
none (val X ∷ Ps) st = none Ps st
none (slice_of m T ∷ Ps) st = none Ps st
none (ref_to imm R ∷ Ps) st = none Ps st
none (ref_to mut R ∷ Ps) st = absurd st

pub still-stored : (Ps : List Param) (st : Still Ps) (κs : Lfts (fn_lfts Ps)) (qs : Shares (fn_lfts Ps)) (d : Inputs Ps) → held Ps κs qs d ≡ stored Ps κs qs d (none Ps st)
still-stored [] st κs qs d = refl
still-stored (val X ∷ Ps) st κs qs d = still-stored Ps st κs qs d.1
still-stored (slice_of m T ∷ Ps) st κs qs d = still-stored Ps st κs.1 qs.1 d.1
still-stored (ref_to imm R ∷ Ps) st κs qs d = ap (fsep (flft κs.0 qs.0)) (still-stored Ps st κs.1 qs.1 d.1)
still-stored (ref_to mut R ∷ Ps) st κs qs d = absurd st

-- ---- the walk's parts
-- the locals f, f + 1, .. of E are those of L
abbrev pub Spots : {M : Type 1} (𝓤 : Ura M) (H : Heap 𝓤) → Env 𝓤 H → (ℕ → ℕ) → List (Ty × ℕ) → Type 0
Spots 𝓤 H E f L = (i : ℕ) → get_or E (f i) (no_local 𝓤 H) ≡ get_or L i (no_local 𝓤 H)

-- A parameter at the head of the list, before the call. Of the rest: its cells Cs; room for what is made for it, Rs, which becomes Ts; what it owns, Os, which becomes the step's, Ss; its tokens Fs, of which the step's are Ks; and what is held of it, Hs
module _ {M : Type 1} {𝓤 : Ura M} {𝓛 : Logic 𝓤} {K : Type 0} {E : Env 𝓤 𝓛.H} {C : Calls 𝓤 𝓛.H} {Λ : Loops 𝓤 𝓛.H} {q : Post 𝓤 𝓛.H} {code rest : Code} {Cs Rs Ts Os Ss Fs Ks Hs : Fml} (t : K)
    (go : (Γ : List (Item 𝓤)) → Seq K 𝓛 (‵ Cs ∷ ‵ Ts ∷ ‵ Ss ∷ ‵ Ks ∷ ‵ Hs ∷ Γ) (runs C Λ E rest q) → Seq K 𝓛 (‵ Cs ∷ ‵ Rs ∷ ‵ Os ∷ ‵ Fs ∷ Γ) (runs C Λ E code q)) where
  -- it is handed on as it is: c is its cell, and o what it owns
  open 𝓛 use {H}

  lend-val : {c o : Fml} {Γ : List (Item 𝓤)} → Seq K 𝓛 (‵ (fsep c Cs) ∷ ‵ Ts ∷ ‵ (fsep o Ss) ∷ ‵ Ks ∷ ‵ Hs ∷ Γ) (runs C Λ E rest q) → Seq K 𝓛 (‵ (fsep c Cs) ∷ ‵ Rs ∷ ‵ (fsep o Os) ∷ ‵ Fs ∷ Γ) (runs C Λ E code q)
  lend-val s = fsplit t $ move t (3 ∷ []) $ fsplit t $ move t (3 ∷ 4 ∷ 1 ∷ 5 ∷ []) $ go _ (move t (6 ∷ 0 ∷ []) $ fjoin t $ move t (5 ∷ 2 ∷ []) $ fjoin t $ move t (1 ∷ 2 ∷ 0 ∷ []) $ s)

  -- with its token k
  lend-slice : {c o k : Fml} {Γ : List (Item 𝓤)} → Seq K 𝓛 (‵ (fsep c Cs) ∷ ‵ Ts ∷ ‵ (fsep o Ss) ∷ ‵ (fsep k Ks) ∷ ‵ Hs ∷ Γ) (runs C Λ E rest q) → Seq K 𝓛 (‵ (fsep c Cs) ∷ ‵ Rs ∷ ‵ (fsep o Os) ∷ ‵ (fsep k Fs) ∷ Γ) (runs C Λ E code q)
  lend-slice s = move t (3 ∷ []) $ fsplit t $ move t (2 ∷ 3 ∷ 4 ∷ 1 ∷ []) $ lend-val (move t (5 ∷ 3 ∷ []) $ fjoin t $ move t (1 ∷ 2 ∷ 3 ∷ 0 ∷ []) $ s)

  -- it is lent on: the local f, of the block b, is lent as g₁, of the block b₁, by way of the pointer g₀, of the block b₀
  lend-mut-slice : (T : One) (x : MutBor (List T.R.Denot)) (κ : Lft) {ℓ : Lifetime} {τ : Ty} {f g₀ g₁ b b₀ b₁ : ℕ} {k : Fml} {Γ : List (Item 𝓤)}
      → get_or E f (no_local 𝓤 H) ≡ (slice_ty (ty_ref ℓ mut τ), b) → get_or E g₀ (no_local 𝓤 H) ≡ (ty_ref erased mut τ, b₀) → get_or E g₁ (no_local 𝓤 H) ≡ (slice_ty (ty_ref erased mut τ), b₁)
      → Seq K 𝓛 (‵ (fsep (cell (slice_ty (ty_ref ℓ mut τ)) b (slice_val x.ref_ptr (length x.now))) Cs)
      ∷ ‵ (fsep (cell (ty_ref erased mut τ) b₀ (vptr x.ref_ptr.0 x.ref_ptr.1)) (fsep (cell (slice_ty (ty_ref erased mut τ)) b₁ (slice_val x.ref_ptr (length x.now))) Ts))
      ∷ ‵ (fsep ((MutSlice erased κ T.R).own_val x (mut_slice_vals x)) Ss) ∷ ‵ (fsep k Ks) ∷ ‵ Hs ∷ Γ) (runs C Λ E rest q)
      → Seq K 𝓛 (‵ (fsep (cell (slice_ty (ty_ref ℓ mut τ)) b (slice_val x.ref_ptr (length x.now))) Cs)
      ∷ ‵ (fsep (space (ty_ref erased mut τ) b₀) (fsep (space (slice_ty (ty_ref erased mut τ)) b₁) Rs))
      ∷ ‵ (fsep ((MutSlice erased κ T.R).own_val x (mut_slice_vals x)) Os) ∷ ‵ (fsep k Fs) ∷ Γ)
      (runs C Λ E (seq (assign (place g₀ []) (addr_of (place f (field 0 ∷ deref T.τ ∷ [])))) (seq (assign (place g₁ []) (aggregate (copy (place g₀ []) ∷ copy (place f (field 1 ∷ [])) ∷ []))) code)) q)
  lend-mut-slice T x κ at_f at_g₀ at-g₁ s =
      fsplit t $ fsplit t $ move t (3 ∷ []) $ fsplit t $ fsplit t $ move t (2 ∷ []) $ fsplit t $ fsplit t $ move t (8 ∷ []) $ fsplit t $
      peeks t (MutSlice erased κ T.R) (Is (MutSlice erased κ T.R)) (shows 𝓛 (MutSlice erased κ T.R)) x (mut_slice_vals x) (λ is. fjoin t $
      -- [what is owned; the slice lent on; ..; Rs; its pointer; ..; f; ..; Cs; the tokens]
      assigns t (addr t (from_at t at_f (fld t refl (hop t (look_in t 6 (sub t 0 refl (whole t))) (stop t))))) (from_at t at_g₀ (stop t)) (init t 4 refl (tt, tt)) $
      assigns t (agg t (and_then t (load t (from_at t at_g₀ (stop t)) (look t 4 refl)) (and_then t (load t (from_at t at_f (fld t refl (stop t))) (look_in t 6 (sub t 1 refl (whole t)))) (no_more t)))) (from_at t at-g₁ (stop t)) (init t 1 refl (tt, (tt, (record { fits = is.0.1.0 }, tt)))) $
      move t (6 ∷ 7 ∷ 8 ∷ []) $ fjoin t $ fjoin t $ move t (0 ∷ 4 ∷ 1 ∷ 7 ∷ []) $ lend-slice (move t (5 ∷ 6 ∷ 1 ∷ []) $ fjoin t $ fjoin t $ move t (5 ∷ 6 ∷ 0 ∷ []) $ fjoin t $ fjoin t $ move t (1 ∷ 0 ∷ []) $ s))

  -- a record x, once it is copied: h is held of it, c and e are the reference's cell, and c₀ and e₀ the copy's
  lend-copied : (R : One) (x : R.R.Denot) → IsOne R x → {h c e c₀ e₀ : Fml} {Γ : List (Item 𝓤)} → Seq K 𝓛 (‵ (fsep (fsep c e) Cs) ∷ ‵ (fsep (fsep c₀ e₀) Ts) ∷ ‵ (fsep (R.R.own_val x (R.val x ∷ [])) Ss) ∷ ‵ Ks ∷ ‵ (fsep h Hs) ∷ Γ) (runs C Λ E rest q)
      → Seq K 𝓛 (‵ h ∷ ‵ Fs ∷ ‵ Os ∷ ‵ c₀ ∷ ‵ e₀ ∷ ‵ Rs ∷ ‵ c ∷ ‵ e ∷ ‵ Cs ∷ Γ) (runs C Λ E code q)
  lend-copied R x is s =
      move t (6 ∷ 7 ∷ 8 ∷ []) $ fjoin t $ fjoin t $ owned t R.R (Is R.R) (R.makes M 𝓤 𝓛) x _ is $ move t (0 ∷ 4 ∷ []) $ fjoin t $ move t (1 ∷ 6 ∷ 0 ∷ 3 ∷ []) $
      lend-val (move t (6 ∷ 7 ∷ 1 ∷ []) $ fjoin t $ fjoin t $ move t (5 ∷ 4 ∷ []) $ fjoin t $ move t (2 ∷ 1 ∷ 3 ∷ 4 ∷ 0 ∷ []) $ s)

  -- the local f, of the block b, is a reference to a record, which is copied to the local g, of the block b₀. The borrow of a `&mut` is left open
  lend-ref : (m : Mutability) (R : One) (x : Of m R.R.Denot) (κ : Lft) (p : Share) {ℓ : Lifetime} {τ : Ty} {f g b b₀ : ℕ} {Γ : List (Item 𝓤)} → get_or E f (no_local 𝓤 H) ≡ (ty_ref ℓ m τ, b) → get_or E g (no_local 𝓤 H) ≡ (R.τ, b₀)
      → Seq K 𝓛 (‵ (fsep (cell (ty_ref ℓ m τ) b (ref_val m R x)) Cs) ∷ ‵ (fsep (cell R.τ b₀ (R.val (now_of m R.R.Denot x))) Ts) ∷ ‵ (fsep (R.R.own_val (now_of m R.R.Denot x) (R.val (now_of m R.R.Denot x) ∷ [])) Ss) ∷ ‵ Ks ∷ ‵ (fsep (kept m R κ p x) Hs) ∷ Γ) (runs C Λ E rest q)
      → Seq K 𝓛 (‵ (fsep (cell (ty_ref ℓ m τ) b (ref_val m R x)) Cs) ∷ ‵ (fsep (space R.τ b₀) Rs) ∷ ‵ (fsep ((Ref m erased κ R.R).own_val x (ref_val m R x ∷ [])) Os) ∷ ‵ (fsep (flft κ p) Fs) ∷ Γ)
      (runs C Λ E (seq (assign (place g []) (rv_opd (copy (place f (deref R.τ ∷ []))))) code) q)
  lend-ref imm R x κ p at_f at_g s =
      fsplit t $ fsplit t $ move t (3 ∷ []) $ fsplit t $ fsplit t $ move t (6 ∷ []) $ fsplit t $ fsplit t $ drop t $ move t (8 ∷ []) $ fsplit t $ move t (2 ∷ 0 ∷ []) $
      -- [what is shared; its token; Fs; Os; the copy; ..; Rs; f; ..; Cs]
      looks t tt R.R (R.copied M 𝓤 𝓛).opens x.now x.ref_ptr.0 x.ref_ptr.1 (λ q' vs.
      spelt t R.R (Is R.R) (shows 𝓛 R.R) (λ y. R.val y ∷ []) R.tells q' x.now vs x.ref_ptr.0 x.ref_ptr.1 $
      move t (1 ∷ []) $ peeks t R.R (Is R.R) (shows 𝓛 R.R) x.now (R.val x.now ∷ []) (λ is. move t (1 ∷ 0 ∷ []) $
      rewrite t 0 (λ (τs : List Ty). ‵ (cell_at q' τs (R.val x.now ∷ []) x.ref_ptr.0 x.ref_ptr.1)) R.one refl $
      -- [a share of the record's cell; what it owns; what shuts it; the borrow; Fs; Os; the copy; ..; Rs; f; ..; Cs]
      assigns t (of_opd t (load t (from_at t at_f (hop t (look t 9 refl) (stop t))) (look_raw t 0 refl))) (from_at t at_g (stop t)) (init t 6 refl (fine-one R 𝓛 x.now _ is)) $
      rewrite t 0 (λ (τs : List Ty). ‵ (cell_at q' τs (R.val x.now ∷ []) x.ref_ptr.0 x.ref_ptr.1)) (sym R.one) refl $ shuts t tt R.R q' x.now (R.val x.now ∷ []) x.ref_ptr.0 x.ref_ptr.1 $
      move t (1 ∷ []) $ drop t $ lend-copied R x.now is s))
  lend-ref mut R x κ p at_f at_g s =
      fsplit t $ fsplit t $ move t (3 ∷ []) $ fsplit t $ fsplit t $ move t (6 ∷ []) $ fsplit t $ fsplit3 t $ drop t $ move t (9 ∷ []) $ fsplit t $ move t (2 ∷ 3 ∷ 0 ∷ []) $
      -- [obs; the borrow; its token; Fs; Os; the copy; ..; Rs; f; ..; Cs]
      opens t tt R.R {h = x.now} x.ref_ptr.0 x.ref_ptr.1 (λ vs.
      spelt t R.R (Is R.R) (shows 𝓛 R.R) (λ y. R.val y ∷ []) R.tells full_share x.now vs x.ref_ptr.0 x.ref_ptr.1 $
      move t (1 ∷ []) $ facts t R.R (Is R.R) (shows 𝓛 R.R) x.now (R.val x.now ∷ []) (λ is.
      rewrite t 0 (λ (τs : List Ty). ‵ (cell_at full_share τs (R.val x.now ∷ []) x.ref_ptr.0 x.ref_ptr.1)) R.one refl $
      -- [the record's cell; the open borrow; obs; auth; Fs; Os; the copy; ..; Rs; f; ..; Cs]
      assigns t (of_opd t (load t (from_at t at_f (hop t (look t 9 refl) (stop t))) (look_raw t 0 refl))) (from_at t at_g (stop t)) (init t 6 refl (fine-one R 𝓛 x.now _ is)) $
      move t (2 ∷ 3 ∷ []) $ fjoin t $ move t (2 ∷ 0 ∷ []) $ fjoin t $ move t (1 ∷ 0 ∷ []) $ fjoin t $ lend-copied R x.now is s))

-- The same after the call: of the rest, what is held, Hs, becomes Ns, and room for the records, Xr, becomes Xc. Zc is the cell of what the step returned
module _ {M : Type 1} {𝓤 : Ura M} {𝓛 : Logic 𝓤} {K : Type 0} {E : Env 𝓤 𝓛.H} {C : Calls 𝓤 𝓛.H} {Λ : Loops 𝓤 𝓛.H} {q : Post 𝓤 𝓛.H} {code rest : Code} {Cs Zc Hs Ns Xr Xc : Fml} (t : K)
    (go : (Γ : List (Item 𝓤)) → Seq K 𝓛 (‵ Cs ∷ ‵ Zc ∷ ‵ Ns ∷ ‵ Xc ∷ Γ) (runs C Λ E rest q) → Seq K 𝓛 (‵ Cs ∷ ‵ Zc ∷ ‵ Hs ∷ ‵ Xr ∷ Γ) (runs C Λ E code q)) where
  store-none : {c : Fml} {Γ : List (Item 𝓤)} → Seq K 𝓛 (‵ (fsep c Cs) ∷ ‵ Zc ∷ ‵ Ns ∷ ‵ Xc ∷ Γ) (runs C Λ E rest q) → Seq K 𝓛 (‵ (fsep c Cs) ∷ ‵ Zc ∷ ‵ Hs ∷ ‵ Xr ∷ Γ) (runs C Λ E code q)
  store-none s = fsplit t $ move t (1 ∷ 2 ∷ 3 ∷ 4 ∷ []) $ go _ (move t (4 ∷ 0 ∷ []) $ fjoin t $ s)

  -- k is kept
  store_kept : {c k : Fml} {Γ : List (Item 𝓤)} → Seq K 𝓛 (‵ (fsep c Cs) ∷ ‵ Zc ∷ ‵ (fsep k Ns) ∷ ‵ Xc ∷ Γ) (runs C Λ E rest q) → Seq K 𝓛 (‵ (fsep c Cs) ∷ ‵ Zc ∷ ‵ (fsep k Hs) ∷ ‵ Xr ∷ Γ) (runs C Λ E code q)
  store_kept s = move t (2 ∷ []) $ fsplit t $ move t (2 ∷ 3 ∷ 1 ∷ 4 ∷ []) $ store-none (move t (4 ∷ 2 ∷ []) $ fjoin t $ move t (1 ∷ 2 ∷ 0 ∷ []) $ s)

-- the field k of the local z, of the block c, is copied to the local e, of the block w, and stored to the record behind the local f, of the block b, and its borrow is closed
module _ {M : Type 1} {𝓤 : Ura M} {𝓛 : Logic 𝓤} {K : Type 0} {E : Env 𝓤 𝓛.H} {C : Calls 𝓤 𝓛.H} {Λ : Loops 𝓤 𝓛.H} {q : Post 𝓤 𝓛.H} {code rest : Code} {Cs Hs Ns Xr Xc : Fml} {ν : Sym} {τs : Tys} {c : ℕ} {vs : Vals} (t : K)
    (go : (Γ : List (Item 𝓤)) → Seq K 𝓛 (‵ Cs ∷ ‵ (fat full_share (ty_struct ν τs) c zero (vstruct vs)) ∷ ‵ Ns ∷ ‵ Xc ∷ Γ) (runs C Λ E rest q) → Seq K 𝓛 (‵ Cs ∷ ‵ (fat full_share (ty_struct ν τs) c zero (vstruct vs)) ∷ ‵ Hs ∷ ‵ Xr ∷ Γ) (runs C Λ E code q))
    (R : One) (x : MutBor R.R.Denot) (κ : Lft) (p : Share) (y : R.R.Denot) (is : IsOne R y) where
  open 𝓛 use {H}

  store-mut-ref : {ℓ : Lifetime} {τ : Ty} {f b z k e w o : ℕ} {Γ : List (Item 𝓤)} → get_or E f (no_local 𝓤 H) ≡ (ty_ref ℓ mut τ, b) → get_or E e (no_local 𝓤 H) ≡ (R.τ, w) → get_or E z (no_local 𝓤 H) ≡ (ty_struct ν τs, c) → field_at zero τs k ≡ some (R.τ, o) → get_v vs k ≡ R.val y
      → Seq K 𝓛 (‵ (fsep (cell (ty_ref ℓ mut τ) b (vptr x.ref_ptr.0 x.ref_ptr.1)) Cs) ∷ ‵ (fat full_share (ty_struct ν τs) c zero (vstruct vs)) ∷ ‵ (fsep (fsep (flft κ p) (fsep (fobs x.ghost_name (R.R.coded.code y)) (fbor κ (Body (mem R.R) x.ref_ptr.0 x.ref_ptr.1 x.ghost_name)))) Ns) ∷ ‵ (fsep (cell R.τ w (R.val y)) Xc) ∷ Γ) (runs C Λ E rest q)
      → Seq K 𝓛 (‵ (fsep (cell (ty_ref ℓ mut τ) b (vptr x.ref_ptr.0 x.ref_ptr.1)) Cs) ∷ ‵ (fat full_share (ty_struct ν τs) c zero (vstruct vs)) ∷ ‵ (fsep (kept mut R κ p x) Hs) ∷ ‵ (fsep (space R.τ w) Xr) ∷ Γ)
      (runs C Λ E (seq (assign (place e []) (rv_opd (copy (place z (field k ∷ []))))) (seq (assign (place f (deref R.τ ∷ [])) (rv_opd (copy (place e [])))) code)) q)
  store-mut-ref {k = k} at_f at_e at-z at-k is_y s =
      move t (3 ∷ []) $ fsplit t $ fsplit t $
      -- [room for the copy; ..; Xr; f with Cs; z; what is held]
      assigns t (of_opd t (load t (from_at t at-z (fld t at-k (stop t))) (read_as t is_y (look_in t 4 (sub t k at-k (whole t)))))) (from_at t at_e (stop t)) (init t 0 refl (fine-one R 𝓛 y _ is)) $
      move t (3 ∷ 4 ∷ 5 ∷ []) $ fsplit t $ fsplit t $ move t (4 ∷ []) $ fsplit t $ fsplit t $ move t (1 ∷ []) $ fsplit3 t $
      -- [the open borrow; obs; auth; the record's cell; Hs; f; ..; Cs; z; the copy; ..; Xr]
      assigns t (of_opd t (load t (from_at t at_e (stop t)) (look t 9 refl))) (from_at t at_f (hop t (look t 5 refl) (stop t))) (store_raw t 3 refl (fine-one R 𝓛 y _ is)) $
      owned t R.R (Is R.R) (R.makes M 𝓤 𝓛) y _ is $ move t (4 ∷ 0 ∷ []) $
      rewrite t 0 (λ (σs : List Ty). ‵ (cell_at full_share σs (R.val y ∷ []) x.ref_ptr.0 x.ref_ptr.1)) (sym R.one) refl $ closes t tt R.R y (R.val y ∷ []) x.ref_ptr.0 x.ref_ptr.1 $
      -- [obs; the borrow; its token; Hs; f; ..; Cs; z; the copy; ..; Xr]
      fjoin t $ move t (1 ∷ 0 ∷ []) $ fjoin t $ move t (2 ∷ 3 ∷ 4 ∷ []) $ fjoin t $ fjoin t $ move t (1 ∷ 2 ∷ []) $ fjoin t $ move t (1 ∷ 2 ∷ 0 ∷ 5 ∷ []) $ store_kept t go (move t (4 ∷ 5 ∷ 3 ∷ []) $ fjoin t $ fjoin t $ move t (1 ∷ 2 ∷ 3 ∷ 0 ∷ []) $ s)

module _ {M : Type 1} {𝓤 : Ura M} {𝓛 : Logic 𝓤} {K : Type 0} {E : Env 𝓤 𝓛.H} where
  open 𝓛 use {H}

  pub operands-are : {Γ : List (Item 𝓤)} → K → (j : ℕ) (Ps : List Param) (bs : Blocks (fn_tys j Ps)) (ts : Blocks (temps Ps)) (d : Inputs Ps) (f g : ℕ → ℕ) (E₁ E₂ : List (Ty × ℕ)) → Spots 𝓤 H E f (env (fn_tys j Ps) bs ++ E₁) → Spots 𝓤 H E g (env (temps Ps) ts ++ E₂)
      → Has 𝓛 Γ (cells (fn_tys j Ps) bs (fn_vals Ps d)) → Has 𝓛 Γ (cells (temps Ps) ts (temp_vals Ps d)) → Opds K 𝓛 Γ E (operands f g Ps) (step_vals Ps d)
  operands-are t j [] bs ts d f g E₁ E₂ at_f at_g hf hg = no_more t
  operands-are t j (val X ∷ Ps) bs ts d f g E₁ E₂ at_f at_g hf hg =
      and_then t (load t (from_at t (at_f 0) (stop t)) (reads t (has_first (has_first hf)))) (operands-are t j Ps bs.1 ts d.1 (λ i. f (suc i)) g E₁ E₂ (λ i. at_f (suc i)) at_g (has-second hf) hg)
  operands-are t j (slice_of imm T ∷ Ps) bs ts d f g E₁ E₂ at_f at_g hf hg =
      and_then t (load t (from_at t (at_f 0) (stop t)) (reads t (has_first (has_first hf)))) (operands-are t (suc j) Ps bs.1 ts d.1 (λ i. f (suc i)) g E₁ E₂ (λ i. at_f (suc i)) at_g (has-second hf) hg)
  operands-are t j (slice_of mut T ∷ Ps) bs ts d f g E₁ E₂ at_f at_g hf hg =
      and_then t (load t (from_at t (at_g 1) (stop t)) (reads t (has_first (has_first (has-second hg)))))
      (operands-are t (suc j) Ps bs.1 ts.1.1 d.1 (λ i. f (suc i)) (λ i. g (suc (suc i))) E₁ E₂ (λ i. at_f (suc i)) (λ i. at_g (suc (suc i))) (has-second hf) (has-second (has-second hg)))
  operands-are t j (ref_to m R ∷ Ps) bs ts d f g E₁ E₂ at_f at_g hf hg =
      and_then t (load t (from_at t (at_g 0) (stop t)) (reads t (has_first (has_first hg))))
      (operands-are t (suc j) Ps bs.1 ts.1 d.1 (λ i. f (suc i)) (λ i. g (suc i)) E₁ E₂ (λ i. at_f (suc i)) (λ i. at_g (suc i)) (has-second hf) (has-second hg))

  -- the statements before the call, from [the parameters' cells; room for what is made; what the parameters own; the tokens]
  pub lends-run : K → (j : ℕ) (Ps : List Param) (bs : Blocks (fn_tys j Ps)) (ts : Blocks (temps Ps)) (κs : Lfts (fn_lfts Ps)) (qs : Shares (fn_lfts Ps)) (d : Inputs Ps) (f g : ℕ → ℕ) (E₁ E₂ : List (Ty × ℕ)) → Spots 𝓤 H E f (env (fn_tys j Ps) bs ++ E₁) → Spots 𝓤 H E g (env (temps Ps) ts ++ E₂)
      → {C : Calls 𝓤 H} {Λ : Loops 𝓤 H} {q : Post 𝓤 H} {rest : Code} (Γ : List (Item 𝓤))
      → Seq K 𝓛 (‵ (cells (fn_tys j Ps) bs (fn_vals Ps d)) ∷ ‵ (cells (temps Ps) ts (temp_vals Ps d)) ∷ ‵ (step_own Ps (step_lft Ps κs) d) ∷ ‵ (tokens (step_lfts Ps) (step_lft Ps κs) (step_share Ps qs)) ∷ ‵ (held Ps κs qs d) ∷ Γ) (runs C Λ E rest q)
      → Seq K 𝓛 (‵ (cells (fn_tys j Ps) bs (fn_vals Ps d)) ∷ ‵ (rooms (temps Ps) ts) ∷ ‵ (fn_own Ps κs d) ∷ ‵ (tokens (fn_lfts Ps) κs qs) ∷ Γ) (runs C Λ E (lends f g Ps rest) q)
  lends-run t j [] bs ts κs qs d f g E₁ E₂ at_f at_g Γ s = nothing t $ s
  lends-run t j (val X ∷ Ps) bs ts κs qs d f g E₁ E₂ at_f at_g Γ s = lend-val t (lends-run t j Ps bs.1 ts κs qs d.1 (λ i. f (suc i)) g E₁ E₂ (λ i. at_f (suc i)) at_g) s
  lends-run t j (slice_of imm T ∷ Ps) bs ts κs qs d f g E₁ E₂ at_f at_g Γ s = lend-slice t (lends-run t (suc j) Ps bs.1 ts κs.1 qs.1 d.1 (λ i. f (suc i)) g E₁ E₂ (λ i. at_f (suc i)) at_g) s
  lends-run t j (slice_of mut T ∷ Ps) bs ts κs qs d f g E₁ E₂ at_f at_g Γ s =
      lend-mut-slice t (lends-run t (suc j) Ps bs.1 ts.1.1 κs.1 qs.1 d.1 (λ i. f (suc i)) (λ i. g (suc (suc i))) E₁ E₂ (λ i. at_f (suc i)) (λ i. at_g (suc (suc i)))) T d.0 κs.0 (at_f 0) (at_g 0) (at_g 1) s
  lends-run t j (ref_to m R ∷ Ps) bs ts κs qs d f g E₁ E₂ at_f at_g Γ s = lend-ref t (lends-run t (suc j) Ps bs.1 ts.1 κs.1 qs.1 d.1 (λ i. f (suc i)) (λ i. g (suc i)) E₁ E₂ (λ i. at_f (suc i)) (λ i. at_g (suc i))) m R d.0 κs.0 qs.0 (at_f 0) (at_g 0) s

  -- the statements after the call, from [the parameters' cells; what the step returned; what is held; room for the copies]. The records are the fields k, k + 1, .. of the local z
  pub stores_run : K → (j : ℕ) (Ps : List Param) (bs : Blocks (fn_tys j Ps)) (κs : Lfts (fn_lfts Ps)) (qs : Shares (fn_lfts Ps)) (d : Inputs Ps) (new : Tuple (records Ps)) → IsTuple (records Ps) new → (f : ℕ → ℕ) (E₁ : List (Ty × ℕ)) → Spots 𝓤 H E f (env (fn_tys j Ps) bs ++ E₁)
      → (z c : ℕ) (ν : Sym) (τs : Tys) (vs : Vals) (k : ℕ → ℕ) (o : ℕ) (es : Blocks (tys (records Ps))) (e : ℕ → ℕ) (E₂ : List (Ty × ℕ)) → Spots 𝓤 H E e (env (tys (records Ps)) es ++ E₂) → get_or E z (no_local 𝓤 H) ≡ (ty_struct ν τs, c) → ((i : ℕ) → field_at zero τs (k i) ≡ field_at o (tuple_tys (records Ps)) i) → ((i : ℕ) → get_v vs (k i) ≡ get_v (tuple_vals (records Ps) new) i)
      → {C : Calls 𝓤 H} {Λ : Loops 𝓤 H} {q : Post 𝓤 H} {rest : Code} (Γ : List (Item 𝓤))
      → Seq K 𝓛 (‵ (cells (fn_tys j Ps) bs (fn_vals Ps d)) ∷ ‵ (fat full_share (ty_struct ν τs) c zero (vstruct vs)) ∷ ‵ (stored Ps κs qs d new) ∷ ‵ (cells (tys (records Ps)) es (vals (records Ps) new)) ∷ Γ) (runs C Λ E rest q)
      → Seq K 𝓛 (‵ (cells (fn_tys j Ps) bs (fn_vals Ps d)) ∷ ‵ (fat full_share (ty_struct ν τs) c zero (vstruct vs)) ∷ ‵ (held Ps κs qs d) ∷ ‵ (rooms (tys (records Ps)) es) ∷ Γ) (runs C Λ E (stores f z k e Ps rest) q)
  stores_run t j [] bs κs qs d new are f E₁ at_f z c ν τs vs k o es e E₂ at_e at-z at-k is-k Γ s = s
  stores_run t j (val X ∷ Ps) bs κs qs d new are f E₁ at_f z c ν τs vs k o es e E₂ at_e at-z at-k is-k Γ s = store-none t (stores_run t j Ps bs.1 κs qs d.1 new are (λ i. f (suc i)) E₁ (λ i. at_f (suc i)) z c ν τs vs k o es e E₂ at_e at-z at-k is-k) s
  stores_run t j (slice_of m T ∷ Ps) bs κs qs d new are f E₁ at_f z c ν τs vs k o es e E₂ at_e at-z at-k is-k Γ s = store-none t (stores_run t (suc j) Ps bs.1 κs.1 qs.1 d.1 new are (λ i. f (suc i)) E₁ (λ i. at_f (suc i)) z c ν τs vs k o es e E₂ at_e at-z at-k is-k) s
  stores_run t j (ref_to imm R ∷ Ps) bs κs qs d new are f E₁ at_f z c ν τs vs k o es e E₂ at_e at-z at-k is-k Γ s = store_kept t (stores_run t (suc j) Ps bs.1 κs.1 qs.1 d.1 new are (λ i. f (suc i)) E₁ (λ i. at_f (suc i)) z c ν τs vs k o es e E₂ at_e at-z at-k is-k) s
  stores_run t j (ref_to mut R ∷ Ps) bs κs qs d new are f E₁ at_f z c ν τs vs k o es e E₂ at_e at-z at-k is-k Γ s =
      store-mut-ref t (stores_run t (suc j) Ps bs.1 κs.1 qs.1 d.1 new.1 are.1 (λ i. f (suc i)) E₁ (λ i. at_f (suc i)) z c ν τs vs (λ i. k (suc i)) _ es.1 (λ i. e (suc i)) E₂ (λ i. at_e (suc i)) at-z (λ i. at-k (suc i)) (λ i. is-k (suc i))) R d.0 κs.0 qs.0 new.0 are.0 (at_f 0) (at_e 0) at-z (at-k 0) (is-k 0) s

-- ---- at entry: the machine values are of the locals' types
pub fn-typed : {M : Type 1} {𝓤 : Ura M} (𝓛 : Logic 𝓤) (n : ℕ) (κs : Lfts n) (j : ℕ) (Ps : List Param) (at : Lfts n → Lfts (fn_lfts Ps)) (a : Denots (fn_types n κs j Ps at))
    → Are (fn_types n κs j Ps at) (Ises (fn_types n κs j Ps at)) a (valss (fn_types n κs j Ps at) (spells n κs j Ps at) a) → Typed (fn_tys j Ps) (fn_vals Ps (inputs n κs j Ps at a))
fn-typed 𝓛 n κs j [] at a are = tt
fn-typed 𝓛 n κs j (val X ∷ Ps) at a are = (fine-one X 𝓛 a.0 _ are.0, fn-typed 𝓛 n κs j Ps at a.1 are.1)
fn-typed 𝓛 n κs j (slice_of imm T ∷ Ps) at a are = ((tt, (tt, (record { fits = are.0.0.1.0 }, tt))), fn-typed 𝓛 n κs (suc j) Ps (λ ls. (at ls).1) a.1 are.1)
fn-typed 𝓛 n κs j (slice_of mut T ∷ Ps) at a are = ((tt, (tt, (record { fits = are.0.0.1.0 }, tt))), fn-typed 𝓛 n κs (suc j) Ps (λ ls. (at ls).1) a.1 are.1)
fn-typed 𝓛 n κs j (ref_to m R ∷ Ps) at a are = ((tt, tt), fn-typed 𝓛 n κs (suc j) Ps (λ ls. (at ls).1) a.1 are.1)

-- ---- at exit: what the function says of its parameters, of what the step says of its own
-- of the rest: what the step says, Ls; the step's tokens Ks, and what is stored, Ns; the tokens Fs, and what the function says, Es
module _ {M : Type 1} {𝓤 : Ura M} {𝓛 : Logic 𝓤} {K : Type 0} {G : Goal 𝓤 𝓛.H} {Ls Ks Ns Fs Es : Fml} (t : K) (go : (Γ : List (Item 𝓤)) → Seq K 𝓛 (‵ Fs ∷ ‵ Es ∷ Γ) G → Seq K 𝓛 (‵ Ls ∷ ‵ Ks ∷ ‵ Ns ∷ Γ) G) where
  left-val : {l : Fml} {Γ : List (Item 𝓤)} → Seq K 𝓛 (‵ Fs ∷ ‵ (fsep l Es) ∷ Γ) G → Seq K 𝓛 (‵ (fsep l Ls) ∷ ‵ Ks ∷ ‵ Ns ∷ Γ) G
  left-val s = fsplit t $ move t (1 ∷ 2 ∷ 3 ∷ []) $ go _ (move t (2 ∷ 1 ∷ []) $ fjoin t $ move t (1 ∷ 0 ∷ []) $ s)

  left-slice : {l k : Fml} {Γ : List (Item 𝓤)} → Seq K 𝓛 (‵ (fsep k Fs) ∷ ‵ (fsep l Es) ∷ Γ) G → Seq K 𝓛 (‵ (fsep l Ls) ∷ ‵ (fsep k Ks) ∷ ‵ Ns ∷ Γ) G
  left-slice s = move t (1 ∷ []) $ fsplit t $ move t (2 ∷ 1 ∷ 3 ∷ []) $ left-val (move t (2 ∷ 0 ∷ []) $ fjoin t $ s)

  -- what the step says of the record by value is let go
  left-mut-ref : {l k B : Fml} {γ : GName} {x : Gv} {Γ : List (Item 𝓤)} → Seq K 𝓛 (‵ (fsep k Fs) ∷ ‵ (fsep (fsep (fres γ x) B) Es) ∷ Γ) G → Seq K 𝓛 (‵ (fsep l Ls) ∷ ‵ Ks ∷ ‵ (fsep (fsep k (fsep (fobs γ x) B)) Ns) ∷ Γ) G
  left-mut-ref {γ = γ} {x = x} s =
      fsplit t $ drop t $ move t (2 ∷ []) $ fsplit t $ fsplit t $ move t (1 ∷ []) $ fsplit t $ use1 𝓛 (‵ (fres γ x)) (𝓛.names.obs-res γ x) $ fjoin t $ move t (0 ∷ 3 ∷ []) $ fjoin t $ move t (1 ∷ 3 ∷ []) $ fjoin t $ move t (1 ∷ 0 ∷ []) $ left-slice s

  left-ref : {l k : Fml} {Γ : List (Item 𝓤)} → Seq K 𝓛 (‵ (fsep k Fs) ∷ ‵ (fsep ftrue Es) ∷ Γ) G → Seq K 𝓛 (‵ (fsep l Ls) ∷ ‵ Ks ∷ ‵ (fsep k Ns) ∷ Γ) G
  left-ref s = fsplit t $ drop t $ nothing t $ fjoin t $ move t (2 ∷ []) $ fsplit t $ move t (0 ∷ 3 ∷ []) $ fjoin t $ move t (2 ∷ 0 ∷ 1 ∷ []) $ left-slice s

module _ (n : ℕ) (κs : Lfts n) (n₁ : ℕ) (κs₁ : Lfts n₁) where
  -- the last values
  abbrev pub lastly : (j i : ℕ) (Ps : List Param) (at : Lfts n → Lfts (fn_lfts Ps)) (at₁ : Lfts n₁ → Lfts (step_lfts Ps)) (a : Denots (fn_types n κs j Ps at)) → Tuple (records Ps)
      → Fins {n = n₁} κs₁ (step_slots n₁ i Ps at₁) (all yes (step_slots n₁ i Ps at₁)) (step_inputs n₁ κs₁ i Ps at₁ (inputs n κs j Ps at a)) → Fins {n = n} κs (fn_slots n j Ps at) (all yes (fn_slots n j Ps at)) a
  lastly j i [] at at₁ a new ws = tt
  lastly j i (val X ∷ Ps) at at₁ a new ws = (ws.0, lastly j i Ps at at₁ a.1 new ws.1)
  lastly j i (slice_of imm T ∷ Ps) at at₁ a new ws = (ws.0, lastly (suc j) (suc i) Ps (λ ls. (at ls).1) (λ ls. (at₁ ls).1) a.1 new ws.1)
  lastly j i (slice_of mut T ∷ Ps) at at₁ a new ws = (ws.0, lastly (suc j) (suc i) Ps (λ ls. (at ls).1) (λ ls. (at₁ ls).1) a.1 new ws.1)
  lastly j i (ref_to imm R ∷ Ps) at at₁ a new ws = (tt, lastly (suc j) i Ps (λ ls. (at ls).1) at₁ a.1 new ws.1)
  lastly j i (ref_to mut R ∷ Ps) at at₁ a new ws = (new.0, lastly (suc j) i Ps (λ ls. (at ls).1) at₁ a.1 new.1 ws.1)

  pub left-run : {M : Type 1} {𝓤 : Ura M} {𝓛 : Logic 𝓤} {K : Type 0} {G : Goal 𝓤 𝓛.H} → K → (j i : ℕ) (Ps : List Param) (at : Lfts n → Lfts (fn_lfts Ps)) (at₁ : Lfts n₁ → Lfts (step_lfts Ps)) → step_lft Ps (at κs) ≡ at₁ κs₁ → (qs : Shares (fn_lfts Ps))
      (a : Denots (fn_types n κs j Ps at)) (new : Tuple (records Ps)) (ws : Fins {n = n₁} κs₁ (step_slots n₁ i Ps at₁) (all yes (step_slots n₁ i Ps at₁)) (step_inputs n₁ κs₁ i Ps at₁ (inputs n κs j Ps at a))) (Γ : List (Item 𝓤))
      → Seq K 𝓛 (‵ (tokens (fn_lfts Ps) (at κs) qs) ∷ ‵ (lasts_of {n = n} κs (fn_slots n j Ps at) (all yes (fn_slots n j Ps at)) a (lastly j i Ps at at₁ a new ws)) ∷ Γ) G
      → Seq K 𝓛 (‵ (lasts_of {n = n₁} κs₁ (step_slots n₁ i Ps at₁) (all yes (step_slots n₁ i Ps at₁)) (step_inputs n₁ κs₁ i Ps at₁ (inputs n κs j Ps at a)) ws) ∷ ‵ (tokens (step_lfts Ps) (step_lft Ps (at κs)) (step_share Ps qs)) ∷ ‵ (stored Ps (at κs) qs (inputs n κs j Ps at a) new) ∷ Γ) G
  left-run t j i [] at at₁ e qs a new ws Γ s = drop t $ s
  left-run t j i (val X ∷ Ps) at at₁ e qs a new ws Γ s = left-val t (left-run t j i Ps at at₁ e qs a.1 new ws.1) s
  left-run t j i (slice_of imm T ∷ Ps) at at₁ e qs a new ws Γ s = left-slice t (left-run t (suc j) (suc i) Ps (λ ls. (at ls).1) (λ ls. (at₁ ls).1) (ap (λ (κs' : Lfts (step_lfts (slice_of imm T ∷ Ps))). κs'.1) e) qs.1 a.1 new ws.1) s
  left-run t j i (slice_of mut T ∷ Ps) at at₁ e qs a new ws Γ s = rewrite t 0 (λ (κ : Lft). ‵ (fsep (left ((MutSlice erased κ T.R).exit yes) a.0 ws.0) (lasts_of {n = n₁} κs₁ (step_slots n₁ (suc i) Ps (λ ls. (at₁ ls).1)) (all yes (step_slots n₁ (suc i) Ps (λ ls. (at₁ ls).1))) (step_inputs n₁ κs₁ (suc i) Ps (λ ls. (at₁ ls).1) (inputs n κs (suc j) Ps (λ ls. (at ls).1) a.1)) ws.1))) (sym (ap (λ (κs' : Lfts (step_lfts (slice_of mut T ∷ Ps))). κs'.0) e)) refl $ left-slice t (left-run t (suc j) (suc i) Ps (λ ls. (at ls).1) (λ ls. (at₁ ls).1) (ap (λ (κs' : Lfts (step_lfts (slice_of imm T ∷ Ps))). κs'.1) e) qs.1 a.1 new ws.1) s
  left-run t j i (ref_to imm R ∷ Ps) at at₁ e qs a new ws Γ s = left-ref t (left-run t (suc j) i Ps (λ ls. (at ls).1) at₁ e qs.1 a.1 new ws.1) s
  left-run t j i (ref_to mut R ∷ Ps) at at₁ e qs a new ws Γ s = left-mut-ref t (left-run t (suc j) i Ps (λ ls. (at ls).1) at₁ e qs.1 a.1 new.1 ws.1) s
