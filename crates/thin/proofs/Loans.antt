-- Lemmas on the parameters of a function that lends its records: its arguments and its step's, and what its code does before and after the call. Assumes nothing.
-- Each is by recursion on the list of parameters. The function's signature is that of a step by value, and its step's that of a thin function.
use mathlib.Core.Path.{◌≡◌, refl, sym, ap, subst}
use Prim.Native.Nat.{ℕ, zero, suc}
use mathlib.Core.List.{List, [], ◌∷◌, ◌++◌}
use lib.ListN.{length}
use seplogic.Ra.Ura.{Ura}
use base.Fraction.{full_share}
use mir.Syntax.{Sym, Home, Mutability, Ty, ty_ref, ty_struct, imm, mut, named, erased, place, deref, field, Opd as Operand, copy, rv_opd, addr_of, aggregate, Body as Code, seq, assign, local, Local}
use mir.Val.{Val, vptr, vstruct, of_list}
use base.Fml.{Lft, GName, Fml, ftrue, fsep, fat, fdies, flft, flent}
use prog.Wp.{Env, Calls, Loops}
use types.Logic.{Logic}
use types.Kit.{Goal, Soaks, Item, ‵, some, later, ◌⊛◌, Post, runs, allocs, Seq, ◌$◌, move, drop, rewrite, use1, split, pick, await, fsplit, fjoin, fpick, fpack}
use types.Run.{Opds, look, init, stop, hop, fld, load, addr, of_opd, and_then, no_more, assigns, alloc1}
use types.Part.{agg, whole, sub, look_in}
use types.Tokens.{lft_new, lft_end, lent_back}
use types.SemTy.{Body}
use contract.Lifetimes.{Lfts, Shares}
use denote.RattleType.{RattleType, Denots, Valss, flat, owns}
use denote.Memory.{mem, cell_at, pointee, part_at, part_of}
use denote.Laws.{Is, Ises, Are, Typed, Makes, Lawful, Spells, valss, Tellss, shows}
use denote.Ref.{MutRef, ShrRef}
use denote.Slice.{slice_ty, slice_val, MutSlice, mut_slice_Tells, shr_slice_Tells}
use denote.Lend.{lends_ref, lends_free}
use denote.Signature.{plain}
use denote.Steps.{facts, nothing}
use denote.Struct.Steps.{spelt}
use denote.Struct.Struct.{Plains, AreAll}
use denote.Struct.Declared as SD
use denote.Struct.Laws as SL
use denote.Triple.End.{all, Fins, lasts_of}
use denote.Exit.{Exit, unchanged, leaves, Last, left, yes}
use Rattle.thin.proofs.Types.{One, IsOne, fine-one, Tuple, tuple_tys, tuple_vals, IsTuple, Param, val, slice_of, ref_to}
use Rattle.thin.proofs.Locals.{cell, Blocks, env, rooms, cells, Has, has_first, has-second, reads, from_at}
pub use Rattle.thin.proofs.Params.{tys, vals}
use Rattle.thin.proofs.Params.{Of, ref_val, slice_of_val, Slice, Ref, fn_lfts, step_lfts, tokens, fn_slots, step_slots, Inputs, fn_vals, fn_own, fn_types, step_types, operands, Spots}

-- ---- a struct that a function makes of its answer and the records: make has its fields, in their order
pub record Built (Xs : List One) : Type 2 where
  pub R : RattleType
  pub ν : Sym
  pub one : R.mir ≡ ty_struct ν (tuple_tys Xs) ∷ []
  pub make : Tuple Xs → R.Denot
  pub is : (t : Tuple Xs) → IsTuple Xs t → Is R (make t) (vstruct (tuple_vals Xs t) ∷ [])
  pub makes : (M : Type 1) (𝓤 : Ura M) (𝓛 : Logic 𝓤) → Makes 𝓛 R (Is R)
  pub lawful : (M : Type 1) (𝓤 : Ura M) (𝓛 : Logic 𝓤) → Lawful 𝓛 R

-- a declared struct S with the fields a, b: `of_built S.the_type S.Laws.the_laws S.Laws.the_plain (λ t. record { a = t.0; b = t.1.0 }) refl (λ t. refl) (λ t are. are)`
abbrev pub of_built : {Xs : List One} (T : SD.Declared) (laws : SL.Laws T) → Plains (SD.fields T) → (make : Tuple Xs → T.D) → (SD.row T).mir ≡ ty_struct T.name (tuple_tys Xs) ∷ [] → ((t : Tuple Xs) → SL.val T laws (make t) ≡ vstruct (tuple_vals Xs t))
    → ((t : Tuple Xs) → IsTuple Xs t → AreAll (SD.fields T) (T.to (make t)) (valss (SD.fields T) (SL.spells T.parts laws) (T.to (make t)))) → Built Xs
of_built T laws plain make one vals are = record {
  R = SD.row T;
  ν = T.name;
  one = one;
  make = make;
  is = λ t i. subst (λ (v : Val). Is (SD.row T) (make t) (v ∷ [])) (vals t) (SL.owes T laws (make t) (are t i));
  makes = λ M 𝓤 𝓛. SL.makes T plain 𝓛;
  lawful = λ M 𝓤 𝓛. SL.lawful T laws 𝓛;
}

-- ---- the records that are lent
abbrev pub slots : List Param → List One
slots [] = []
slots (val X ∷ Ps) = slots Ps
slots (slice_of m T ∷ Ps) = slots Ps
slots (ref_to m R ∷ Ps) = R ∷ slots Ps

pub vals-tuple : (Xs : List One) (t : Tuple Xs) → of_list (vals Xs t) ≡ tuple_vals Xs t
vals-tuple [] t = refl
vals-tuple (X ∷ Xs) t = rw (vals-tuple Xs t.1)

-- ---- the arguments: the function's by value, and their machine values and what they own
abbrev pub Ins : List Param → Type 0
Ins [] = Unit {0}
Ins (val X ∷ Ps) = X.R.Denot × Ins Ps
Ins (slice_of m T ∷ Ps) = Of m (List T.R.Denot) × Ins Ps
Ins (ref_to m R ∷ Ps) = R.R.Denot × Ins Ps

abbrev pub in_tys : ℕ → List Param → List Ty
in_tys j [] = []
in_tys j (val X ∷ Ps) = X.τ ∷ in_tys j Ps
in_tys j (slice_of m T ∷ Ps) = slice_ty (ty_ref (named j) m (pointee T.R.written)) ∷ in_tys (suc j) Ps
in_tys j (ref_to m R ∷ Ps) = R.τ ∷ in_tys j Ps

abbrev pub in_vals : (Ps : List Param) → Ins Ps → List Val
in_vals [] d = []
in_vals (val X ∷ Ps) d = X.val d.0 ∷ in_vals Ps d.1
in_vals (slice_of m T ∷ Ps) d = slice_of_val m T d.0 ∷ in_vals Ps d.1
in_vals (ref_to m R ∷ Ps) d = R.val d.0 ∷ in_vals Ps d.1

abbrev pub in_own : (Ps : List Param) → Lfts (step_lfts Ps) → Ins Ps → Fml
in_own [] κs d = ftrue
in_own (val X ∷ Ps) κs d = fsep (X.R.own_val d.0 (X.val d.0 ∷ [])) (in_own Ps κs d.1)
in_own (slice_of m T ∷ Ps) κs d = fsep ((Slice m erased κs.0 T.R).own_val d.0 (slice_of_val m T d.0 ∷ [])) (in_own Ps κs.1 d.1)
in_own (ref_to m R ∷ Ps) κs d = fsep (R.R.own_val d.0 (R.val d.0 ∷ [])) (in_own Ps κs d.1)

abbrev pub handed : (Ps : List Param) → Ins Ps → Tuple (slots Ps)
handed [] d = tt
handed (val X ∷ Ps) d = handed Ps d.1
handed (slice_of m T ∷ Ps) d = handed Ps d.1
handed (ref_to m R ∷ Ps) d = (d.0, handed Ps d.1)

-- at the function's signature, which is that of a step by value
module _ (n : ℕ) (κs : Lfts n) where
  abbrev pub ins : (j : ℕ) (Ps : List Param) (at : Lfts n → Lfts (step_lfts Ps)) → Denots (step_types n κs j Ps at) → Ins Ps
  ins j [] at a = tt
  ins j (val X ∷ Ps) at a = (a.0, ins j Ps at a.1)
  ins j (slice_of m T ∷ Ps) at a = (a.0, ins (suc j) Ps (λ ls. (at ls).1) a.1)
  ins j (ref_to m R ∷ Ps) at a = (a.0, ins j Ps at a.1)

  abbrev pub in_spells : (j : ℕ) (Ps : List Param) (at : Lfts n → Lfts (step_lfts Ps)) → Spells (step_types n κs j Ps at)
  in_spells j [] at = tt
  in_spells j (val X ∷ Ps) at = ((λ x. X.val x ∷ []), in_spells j Ps at)
  in_spells j (slice_of m T ∷ Ps) at = ((λ x. slice_of_val m T x ∷ []), in_spells (suc j) Ps (λ ls. (at ls).1))
  in_spells j (ref_to m R ∷ Ps) at = ((λ x. R.val x ∷ []), in_spells j Ps at)

  pub in-tell : (j : ℕ) (Ps : List Param) (at : Lfts n → Lfts (step_lfts Ps)) → Tellss (step_types n κs j Ps at) (Ises (step_types n κs j Ps at)) (in_spells j Ps at)
  in-tell j [] at = tt
  in-tell j (val X ∷ Ps) at = (X.tells, in-tell j Ps at)
  in-tell j (slice_of imm T ∷ Ps) at = (shr_slice_Tells (named j) (at κs).0 T.R, in-tell (suc j) Ps (λ ls. (at ls).1))
  in-tell j (slice_of mut T ∷ Ps) at = (mut_slice_Tells (named j) (at κs).0 T.R, in-tell (suc j) Ps (λ ls. (at ls).1))
  in-tell j (ref_to m R ∷ Ps) at = (R.tells, in-tell j Ps at)

  pub in-flat : (j : ℕ) (Ps : List Param) (at : Lfts n → Lfts (step_lfts Ps)) (a : Denots (step_types n κs j Ps at)) → flat (step_types n κs j Ps at) (valss (step_types n κs j Ps at) (in_spells j Ps at) a) ≡ in_vals Ps (ins j Ps at a)
  in-flat j [] at a = refl
  in-flat j (val X ∷ Ps) at a = rw (in-flat j Ps at a.1)
  in-flat j (slice_of m T ∷ Ps) at a = rw (in-flat (suc j) Ps (λ ls. (at ls).1) a.1)
  in-flat j (ref_to m R ∷ Ps) at a = rw (in-flat j Ps at a.1)

  pub in-owns : (j : ℕ) (Ps : List Param) (at : Lfts n → Lfts (step_lfts Ps)) (a : Denots (step_types n κs j Ps at)) → owns (step_types n κs j Ps at) a (valss (step_types n κs j Ps at) (in_spells j Ps at) a) ≡ in_own Ps (at κs) (ins j Ps at a)
  in-owns j [] at a = refl
  in-owns j (val X ∷ Ps) at a = rw (in-owns j Ps at a.1)
  in-owns j (slice_of imm T ∷ Ps) at a = rw (in-owns (suc j) Ps (λ ls. (at ls).1) a.1)
  in-owns j (slice_of mut T ∷ Ps) at a = rw (in-owns (suc j) Ps (λ ls. (at ls).1) a.1)
  in-owns j (ref_to m R ∷ Ps) at a = rw (in-owns j Ps at a.1)

  pub in-typed : {M : Type 1} {𝓤 : Ura M} (𝓛 : Logic 𝓤) (j : ℕ) (Ps : List Param) (at : Lfts n → Lfts (step_lfts Ps)) (a : Denots (step_types n κs j Ps at))
      → Are (step_types n κs j Ps at) (Ises (step_types n κs j Ps at)) a (valss (step_types n κs j Ps at) (in_spells j Ps at) a) → Typed (in_tys j Ps) (in_vals Ps (ins j Ps at a))
  in-typed 𝓛 j [] at a are = tt
  in-typed 𝓛 j (val X ∷ Ps) at a are = (fine-one X 𝓛 a.0 _ are.0, in-typed 𝓛 j Ps at a.1 are.1)
  in-typed 𝓛 j (slice_of imm T ∷ Ps) at a are = ((tt, (tt, (record { fits = are.0.0.1.0 }, tt))), in-typed 𝓛 (suc j) Ps (λ ls. (at ls).1) a.1 are.1)
  in-typed 𝓛 j (slice_of mut T ∷ Ps) at a are = ((tt, (tt, (record { fits = are.0.0.1.0 }, tt))), in-typed 𝓛 (suc j) Ps (λ ls. (at ls).1) a.1 are.1)
  in-typed 𝓛 j (ref_to m R ∷ Ps) at a are = (fine-one R 𝓛 a.0 _ are.0, in-typed 𝓛 j Ps at a.1 are.1)

-- at the step's signature, which is that of a thin function
module _ (n : ℕ) (κs : Lfts n) where
  abbrev pub outs : (j : ℕ) (Ps : List Param) (at : Lfts n → Lfts (fn_lfts Ps)) → Inputs Ps → Denots (fn_types n κs j Ps at)
  outs j [] at d = tt
  outs j (val X ∷ Ps) at d = (d.0, outs j Ps at d.1)
  outs j (slice_of m T ∷ Ps) at d = (d.0, outs (suc j) Ps (λ ls. (at ls).1) d.1)
  outs j (ref_to m R ∷ Ps) at d = (d.0, outs (suc j) Ps (λ ls. (at ls).1) d.1)

  abbrev pub out_vals : (j : ℕ) (Ps : List Param) (at : Lfts n → Lfts (fn_lfts Ps)) → Inputs Ps → Valss (fn_types n κs j Ps at)
  out_vals j [] at d = tt
  out_vals j (val X ∷ Ps) at d = (X.val d.0 ∷ [], out_vals j Ps at d.1)
  out_vals j (slice_of m T ∷ Ps) at d = (slice_of_val m T d.0 ∷ [], out_vals (suc j) Ps (λ ls. (at ls).1) d.1)
  out_vals j (ref_to m R ∷ Ps) at d = (ref_val m R d.0 ∷ [], out_vals (suc j) Ps (λ ls. (at ls).1) d.1)

  pub out-flat : (j : ℕ) (Ps : List Param) (at : Lfts n → Lfts (fn_lfts Ps)) (d : Inputs Ps) → flat (fn_types n κs j Ps at) (out_vals j Ps at d) ≡ fn_vals Ps d
  out-flat j [] at d = refl
  out-flat j (val X ∷ Ps) at d = rw (out-flat j Ps at d.1)
  out-flat j (slice_of m T ∷ Ps) at d = rw (out-flat (suc j) Ps (λ ls. (at ls).1) d.1)
  out-flat j (ref_to m R ∷ Ps) at d = rw (out-flat (suc j) Ps (λ ls. (at ls).1) d.1)

  pub out-owns : (j : ℕ) (Ps : List Param) (at : Lfts n → Lfts (fn_lfts Ps)) (d : Inputs Ps) → owns (fn_types n κs j Ps at) (outs j Ps at d) (out_vals j Ps at d) ≡ fn_own Ps (at κs) d
  out-owns j [] at d = refl
  out-owns j (val X ∷ Ps) at d = rw (out-owns j Ps at d.1)
  out-owns j (slice_of imm T ∷ Ps) at d = rw (out-owns (suc j) Ps (λ ls. (at ls).1) d.1)
  out-owns j (slice_of mut T ∷ Ps) at d = rw (out-owns (suc j) Ps (λ ls. (at ls).1) d.1)
  out-owns j (ref_to imm R ∷ Ps) at d = rw (out-owns (suc j) Ps (λ ls. (at ls).1) d.1)
  out-owns j (ref_to mut R ∷ Ps) at d = rw (out-owns (suc j) Ps (λ ls. (at ls).1) d.1)

-- ---- a loan: its lifetime and its name
abbrev pub Loans : List Param → Type 0
Loans [] = Unit {0}
Loans (val X ∷ Ps) = Loans Ps
Loans (slice_of m T ∷ Ps) = Loans Ps
Loans (ref_to m R ∷ Ps) = (ℕ × GName) × Loans Ps

-- the reference to the record x in the block b, whose name a `&` has none of
abbrev at_block : (m : Mutability) (R : One) → R.R.Denot → ℕ → GName → Of m R.R.Denot
at_block imm R x b γ = record { ref_ptr = (b, zero); now = x }
at_block mut R x b γ = record { ref_ptr = (b, zero); ghost_name = γ; now = x }

-- what the step is called with: the records in the blocks hs
abbrev pub lent_in : (Ps : List Param) → Ins Ps → Blocks (tys (slots Ps)) → Loans Ps → Inputs Ps
lent_in [] d hs l = tt
lent_in (val X ∷ Ps) d hs l = (d.0, lent_in Ps d.1 hs l)
lent_in (slice_of m T ∷ Ps) d hs l = (d.0, lent_in Ps d.1 hs l)
lent_in (ref_to m R ∷ Ps) d hs l = (at_block m R d.0 hs.0 l.0.1, lent_in Ps d.1 hs.1 l.1)

abbrev pub out_lft : (Ps : List Param) → Lfts (step_lfts Ps) → Loans Ps → Lfts (fn_lfts Ps)
out_lft [] κs l = tt
out_lft (val X ∷ Ps) κs l = out_lft Ps κs l
out_lft (slice_of m T ∷ Ps) κs l = (κs.0, out_lft Ps κs.1 l)
out_lft (ref_to m R ∷ Ps) κs l = (l.0.0 ∷ [], out_lft Ps κs l.1)

abbrev pub out_share : (Ps : List Param) → Shares (step_lfts Ps) → Shares (fn_lfts Ps)
out_share [] qs = tt
out_share (val X ∷ Ps) qs = out_share Ps qs
out_share (slice_of m T ∷ Ps) qs = (qs.0, out_share Ps qs.1)
out_share (ref_to m R ∷ Ps) qs = (full_share, out_share Ps qs)

-- what the lender keeps
abbrev lent_body : Mutability → (R : One) → R.R.Denot → ℕ → GName → Fml
lent_body imm R x b γ = part_at R.R full_share x b zero
lent_body mut R x b γ = Body (mem R.R) b zero γ

abbrev pub owed : (Ps : List Param) → Ins Ps → Blocks (tys (slots Ps)) → Loans Ps → Fml
owed [] d hs l = ftrue
owed (val X ∷ Ps) d hs l = owed Ps d.1 hs l
owed (slice_of m T ∷ Ps) d hs l = owed Ps d.1 hs l
owed (ref_to m R ∷ Ps) d hs l = fsep (fsep (flent (l.0.0 ∷ []) (lent_body m R d.0 hs.0 l.0.1)) (fdies R.τ hs.0)) (owed Ps d.1 hs.1 l.1)

-- ---- the code. f has the locals of the parameters, h the records' own places, g those that are made for the call, and c the copies after it
abbrev pub locs_at : Home → List Ty → List Local
locs_at h [] = []
locs_at h (τ ∷ τs) = local τ h ∷ locs_at h τs

abbrev pub temps : List Param → List Ty
temps [] = []
temps (val X ∷ Ps) = temps Ps
temps (slice_of imm T ∷ Ps) = temps Ps
temps (slice_of mut T ∷ Ps) = ty_ref erased mut (pointee T.R.written) ∷ slice_ty (ty_ref erased mut (pointee T.R.written)) ∷ temps Ps
temps (ref_to m R ∷ Ps) = ty_ref erased m (pointee R.R.written) ∷ temps Ps

abbrev pub temp_vals : (Ps : List Param) → Ins Ps → Blocks (tys (slots Ps)) → List Val
temp_vals [] d hs = []
temp_vals (val X ∷ Ps) d hs = temp_vals Ps d.1 hs
temp_vals (slice_of imm T ∷ Ps) d hs = temp_vals Ps d.1 hs
temp_vals (slice_of mut T ∷ Ps) d hs = vptr d.0.ref_ptr.0 d.0.ref_ptr.1 ∷ slice_val d.0.ref_ptr (length d.0.now) ∷ temp_vals Ps d.1 hs
temp_vals (ref_to m R ∷ Ps) d hs = vptr hs.0 zero ∷ temp_vals Ps d.1 hs.1

abbrev pub keeps : (f h : ℕ → ℕ) → List Param → Code → Code
keeps f h [] rest = rest
keeps f h (val X ∷ Ps) rest = keeps (λ i. f (suc i)) h Ps rest
keeps f h (slice_of m T ∷ Ps) rest = keeps (λ i. f (suc i)) h Ps rest
keeps f h (ref_to m R ∷ Ps) rest = seq (assign (place (h 0) []) (rv_opd (copy (place (f 0) [])))) (keeps (λ i. f (suc i)) (λ i. h (suc i)) Ps rest)

abbrev pub lends : (f h g : ℕ → ℕ) → List Param → Code → Code
lends f h g [] rest = rest
lends f h g (val X ∷ Ps) rest = lends (λ i. f (suc i)) h g Ps rest
lends f h g (slice_of imm T ∷ Ps) rest = lends (λ i. f (suc i)) h g Ps rest
lends f h g (slice_of mut T ∷ Ps) rest =
    seq (assign (place (g 0) []) (addr_of (place (f 0) (field 0 ∷ deref T.τ ∷ []))))
    (seq (assign (place (g 1) []) (aggregate (copy (place (g 0) []) ∷ copy (place (f 0) (field 1 ∷ [])) ∷ []))) (lends (λ i. f (suc i)) h (λ i. g (suc (suc i))) Ps rest))
lends f h g (ref_to m R ∷ Ps) rest = seq (assign (place (g 0) []) (addr_of (place (h 0) []))) (lends (λ i. f (suc i)) (λ i. h (suc i)) (λ i. g (suc i)) Ps rest)

abbrev pub copies : (h c : ℕ → ℕ) → List One → Code → Code
copies h c [] rest = rest
copies h c (X ∷ Xs) rest = seq (assign (place (c 0) []) (rv_opd (copy (place (h 0) [])))) (copies (λ i. h (suc i)) (λ i. c (suc i)) Xs rest)

abbrev pub copied : (c : ℕ → ℕ) → List One → List Operand
copied c [] = []
copied c (X ∷ Xs) = copy (place (c 0) []) ∷ copied (λ i. c (suc i)) Xs

-- ---- the walk's parts
module _ {M : Type 1} {𝓤 : Ura M} {𝓛 : Logic 𝓤} {K : Type 0} where
  open 𝓛 use {H}

  pub allocs-at : K → (h : Home) (τs : List Ty) {Γ : List (Item 𝓤)} {ls : List Local} {Kt : Env 𝓤 H → Goal 𝓤 H}
      → ((bs : Blocks τs) → Seq K 𝓛 (‵ (rooms τs bs) ∷ Γ) (allocs ls (λ E. Kt (env τs bs ++ E)))) → Seq K 𝓛 Γ (allocs (locs_at h τs ++ ls) Kt)
  allocs-at t h [] k = nothing t $ k tt
  allocs-at t h (τ ∷ τs) k = alloc1 t (λ b. allocs-at t h τs (λ bs. move t (1 ∷ 2 ∷ 0 ∷ []) $ fjoin t $ fjoin t $ k (b, bs)))

  -- a record that lies in the block b is there as a local's value
  came : K → (R : One) (x : R.R.Denot) (b : ℕ) {G : Goal 𝓤 H} {Γ : List (Item 𝓤)} → (IsOne R x → Seq K 𝓛 (‵ (fat full_share R.τ b zero (R.val x)) ∷ Γ) G) → Seq K 𝓛 (‵ (part_at R.R full_share x b zero) ∷ Γ) G
  unfolding part_of
  came t R x b k = fpick t (λ vs. fsplit t $ spelt t R.R (Is R.R) (shows 𝓛 R.R) (λ y. R.val y ∷ []) R.tells full_share x vs b zero $
      move t (1 ∷ []) $ facts t R.R (Is R.R) (shows 𝓛 R.R) x (R.val x ∷ []) (λ is.
      rewrite t 0 (λ (τs : List Ty). ‵ (cell_at full_share τs (R.val x ∷ []) b zero)) R.one refl $
      use1 𝓛 (‵ (fat full_share R.τ b zero (R.val x))) (𝓛.laws.raw_at full_share R.τ b zero (R.val x)) $ k is))

  -- and back, with what it owns
  goes : K → (R : One) (x : R.R.Denot) (b : ℕ) {G : Goal 𝓤 H} {Γ : List (Item 𝓤)} → Seq K 𝓛 (‵ (part_at R.R full_share x b zero) ∷ Γ) G → Seq K 𝓛 (‵ (fat full_share R.τ b zero (R.val x)) ∷ ‵ (R.R.own_val x (R.val x ∷ [])) ∷ Γ) G
  unfolding part_of
  goes t R x b s = use1 𝓛 (‵ (cell_at full_share (R.τ ∷ []) (R.val x ∷ []) b zero)) (𝓛.laws.at_raw full_share R.τ b zero (R.val x)) $
      rewrite t 0 (λ (τs : List Ty). ‵ (cell_at full_share τs (R.val x ∷ []) b zero)) (sym R.one) refl $
      fjoin t $ fpack t (List Val) (λ us. fsep (cell_at full_share R.R.mir us b zero) (R.R.own_val x us)) (R.val x ∷ []) $ s

  -- a record x is lent from the block b; of the other parameters, go makes what is owned, Fs, the tokens, Ts, and what the lender keeps, Ws
  borrow-one : K → {G : Goal 𝓤 H} {L : Type 0} {Os Ks Cs : Fml} {Fs Ts Ws : L → Fml} → Soaks G → ((Γ : List (Item 𝓤)) → ((l : L) → Seq K 𝓛 (‵ (Fs l) ∷ ‵ (Ts l) ∷ ‵ (Ws l) ∷ Γ) G) → Seq K 𝓛 (‵ Os ∷ ‵ Ks ∷ ‵ Cs ∷ Γ) G)
      → (m : Mutability) (R : One) (x : R.R.Denot) (b : ℕ) {Γ : List (Item 𝓤)}
      → ((ν : ℕ) (γ : GName) (l : L) → Seq K 𝓛 (‵ (fsep ((Ref m erased (ν ∷ []) R.R).own_val (at_block m R x b γ) (ref_val m R (at_block m R x b γ) ∷ [])) (Fs l)) ∷ ‵ (fsep (flft (ν ∷ []) full_share) (Ts l)) ∷ ‵ (fsep (fsep (flent (ν ∷ []) (lent_body m R x b γ)) (fdies R.τ b)) (Ws l)) ∷ Γ) G)
      → Seq K 𝓛 (‵ (fsep (R.R.own_val x (R.val x ∷ [])) Os) ∷ ‵ Ks ∷ ‵ (fsep (cell R.τ b (R.val x)) Cs) ∷ Γ) G
  borrow-one t a go mut R x b k =
      fsplit t $ move t (3 ∷ []) $ fsplit t $ fsplit t $ move t (0 ∷ 3 ∷ []) $ goes t R x b (
      -- [the record; ..; the other places; what is owned; the tokens]
      lft_new t a (λ ν. move t (1 ∷ []) $
      use1 𝓛 (later (some (λ (γ : GName). ‵ ((MutRef erased (ν ∷ []) R.R).own_val (record { ref_ptr = (b, zero); ghost_name = γ; now = x }) (vptr b zero ∷ [])) ⊛ ‵ (flent (ν ∷ []) (Body (mem R.R) b zero γ))))) (lends_ref 𝓛 R.R erased (ν ∷ []) x b zero) $ await t a $ pick t (λ γ. split t $
      -- [the reference; the lender's part; the lifetime; ..; the other places; what is owned; the tokens]
      move t (5 ∷ 6 ∷ 4 ∷ []) $ go _ (λ l. move t (3 ∷ 0 ∷ []) $ fjoin t $ move t (4 ∷ 1 ∷ []) $ fjoin t $ move t (3 ∷ 4 ∷ []) $ fjoin t $ move t (0 ∷ 3 ∷ []) $ fjoin t $ move t (2 ∷ 1 ∷ 0 ∷ []) $ k ν γ l))))
  borrow-one t a go imm R x b k =
      fsplit t $ move t (3 ∷ []) $ fsplit t $ fsplit t $ move t (0 ∷ 3 ∷ []) $ goes t R x b (lft_new t a (λ ν. move t (1 ∷ []) $
      use1 𝓛 (later (‵ ((ShrRef erased (ν ∷ []) R.R).own_val (record { ref_ptr = (b, zero); now = x }) (vptr b zero ∷ [])) ⊛ ‵ (flent (ν ∷ []) (part_at R.R full_share x b zero)))) (lends_free 𝓛 R.R erased (ν ∷ []) full_share x b zero ((R.copied M 𝓤 𝓛).lends full_share x b zero)) $ await t a $ split t $
      move t (5 ∷ 6 ∷ 4 ∷ []) $ go _ (λ l. move t (3 ∷ 0 ∷ []) $ fjoin t $ move t (4 ∷ 1 ∷ []) $ fjoin t $ move t (3 ∷ 4 ∷ []) $ fjoin t $ move t (0 ∷ 3 ∷ []) $ fjoin t $ move t (2 ∷ 1 ∷ 0 ∷ []) $ k ν zero l)))

  -- the loans, from [what the parameters own; the tokens; the records' places]
  pub borrow : K → (Ps : List Param) (d : Ins Ps) (hs : Blocks (tys (slots Ps))) (κs : Lfts (step_lfts Ps)) (qs : Shares (step_lfts Ps)) {G : Goal 𝓤 H} → Soaks G → (Γ : List (Item 𝓤))
      → ((l : Loans Ps) → Seq K 𝓛 (‵ (fn_own Ps (out_lft Ps κs l) (lent_in Ps d hs l)) ∷ ‵ (tokens (fn_lfts Ps) (out_lft Ps κs l) (out_share Ps qs)) ∷ ‵ (owed Ps d hs l) ∷ Γ) G)
      → Seq K 𝓛 (‵ (in_own Ps κs d) ∷ ‵ (tokens (step_lfts Ps) κs qs) ∷ ‵ (cells (tys (slots Ps)) hs (vals (slots Ps) (handed Ps d))) ∷ Γ) G
  borrow t [] d hs κs qs a Γ k = k tt
  borrow t (val X ∷ Ps) d hs κs qs a Γ k = fsplit t $ move t (1 ∷ 2 ∷ 3 ∷ []) $ borrow t Ps d.1 hs κs qs a _ (λ l. move t (3 ∷ 0 ∷ []) $ fjoin t $ k l)
  borrow t (slice_of imm T ∷ Ps) d hs κs qs a Γ k =
      fsplit t $ move t (2 ∷ []) $ fsplit t $ move t (3 ∷ 1 ∷ 4 ∷ []) $ borrow t Ps d.1 hs κs.1 qs.1 a _ (λ l. move t (4 ∷ 0 ∷ []) $ fjoin t $ move t (3 ∷ 1 ∷ []) $ fjoin t $ move t (1 ∷ 0 ∷ []) $ k l)
  borrow t (slice_of mut T ∷ Ps) d hs κs qs a Γ k =
      fsplit t $ move t (2 ∷ []) $ fsplit t $ move t (3 ∷ 1 ∷ 4 ∷ []) $ borrow t Ps d.1 hs κs.1 qs.1 a _ (λ l. move t (4 ∷ 0 ∷ []) $ fjoin t $ move t (3 ∷ 1 ∷ []) $ fjoin t $ move t (1 ∷ 0 ∷ []) $ k l)
  borrow t (ref_to m R ∷ Ps) d hs κs qs a Γ k = borrow-one t a (borrow t Ps d.1 hs.1 κs qs a) m R d.0 hs.0 (λ ν γ l. k ((ν, γ), l))

  -- the loans end, and the records are back, at some values
  pub give-back : K → (Ps : List Param) (d : Ins Ps) (hs : Blocks (tys (slots Ps))) (κs : Lfts (step_lfts Ps)) (qs : Shares (step_lfts Ps)) (l : Loans Ps) {G : Goal 𝓤 H} → Soaks G → (Γ : List (Item 𝓤))
      → ((new : Tuple (slots Ps)) → IsTuple (slots Ps) new → Seq K 𝓛 (‵ (tokens (step_lfts Ps) κs qs) ∷ ‵ (cells (tys (slots Ps)) hs (vals (slots Ps) new)) ∷ Γ) G)
      → Seq K 𝓛 (‵ (tokens (fn_lfts Ps) (out_lft Ps κs l) (out_share Ps qs)) ∷ ‵ (owed Ps d hs l) ∷ Γ) G
  give-back t [] d hs κs qs l a Γ k = k tt tt
  give-back t (val X ∷ Ps) d hs κs qs l a Γ k = give-back t Ps d.1 hs κs qs l a Γ k
  give-back t (slice_of m T ∷ Ps) d hs κs qs l a Γ k = fsplit t $ move t (1 ∷ 2 ∷ []) $ give-back t Ps d.1 hs κs.1 qs.1 l a _ (λ new are. move t (2 ∷ 0 ∷ []) $ fjoin t $ k new are)
  give-back t (ref_to mut R ∷ Ps) d hs κs qs l a Γ k =
      fsplit t $ lft_end t a $ move t (2 ∷ []) $ fsplit t $ fsplit t $ move t (3 ∷ 0 ∷ []) $ lent_back t a $ fpick t (λ z. fsplit t $
      -- [the record; its name's part; ..; the others; the tokens]
      came t R z hs.0 (λ is. move t (1 ∷ []) $ drop t $ fjoin t $ move t (2 ∷ 1 ∷ []) $ give-back t Ps d.1 hs.1 κs qs l.1 a _ (λ new are. move t (2 ∷ 1 ∷ []) $ fjoin t $ move t (1 ∷ 0 ∷ []) $ k (z, new) (is, are))))
  give-back t (ref_to imm R ∷ Ps) d hs κs qs l a Γ k =
      fsplit t $ lft_end t a $ move t (2 ∷ []) $ fsplit t $ fsplit t $ move t (3 ∷ 0 ∷ []) $ lent_back t a $
      came t R d.0 hs.0 (λ is. fjoin t $ move t (2 ∷ 1 ∷ []) $ give-back t Ps d.1 hs.1 κs qs l.1 a _ (λ new are. move t (2 ∷ 1 ∷ []) $ fjoin t $ move t (1 ∷ 0 ∷ []) $ k (d.0, new) (is, are)))

module _ {M : Type 1} {𝓤 : Ura M} {𝓛 : Logic 𝓤} {K : Type 0} {E : Env 𝓤 𝓛.H} {C : Calls 𝓤 𝓛.H} {Λ : Loops 𝓤 𝓛.H} {q : Post 𝓤 𝓛.H} {rest : Code} where
  -- each record is put in its place
  open 𝓛 use {H}

  pub keeps-run : K → (j : ℕ) (Ps : List Param) (bs : Blocks (in_tys j Ps)) (hs : Blocks (tys (slots Ps))) (d : Ins Ps) (f h : ℕ → ℕ) (E₁ E₂ : List (Ty × ℕ)) → Spots 𝓤 H E f (env (in_tys j Ps) bs ++ E₁) → Spots 𝓤 H E h (env (tys (slots Ps)) hs ++ E₂) → Typed (in_tys j Ps) (in_vals Ps d) → (Γ : List (Item 𝓤))
      → Seq K 𝓛 (‵ (cells (in_tys j Ps) bs (in_vals Ps d)) ∷ ‵ (cells (tys (slots Ps)) hs (vals (slots Ps) (handed Ps d))) ∷ Γ) (runs C Λ E rest q)
      → Seq K 𝓛 (‵ (cells (in_tys j Ps) bs (in_vals Ps d)) ∷ ‵ (rooms (tys (slots Ps)) hs) ∷ Γ) (runs C Λ E (keeps f h Ps rest) q)
  keeps-run t j [] bs hs d f h E₁ E₂ at_f at-h ty Γ s = s
  keeps-run t j (val X ∷ Ps) bs hs d f h E₁ E₂ at_f at-h ty Γ s = fsplit t $ move t (1 ∷ 2 ∷ []) $ keeps-run t j Ps bs.1 hs d.1 (λ i. f (suc i)) h E₁ E₂ (λ i. at_f (suc i)) at-h ty.1 _ (move t (2 ∷ 0 ∷ []) $ fjoin t $ s)
  keeps-run t j (slice_of m T ∷ Ps) bs hs d f h E₁ E₂ at_f at-h ty Γ s = fsplit t $ move t (1 ∷ 2 ∷ []) $ keeps-run t (suc j) Ps bs.1 hs d.1 (λ i. f (suc i)) h E₁ E₂ (λ i. at_f (suc i)) at-h ty.1 _ (move t (2 ∷ 0 ∷ []) $ fjoin t $ s)
  keeps-run t j (ref_to m R ∷ Ps) bs hs d f h E₁ E₂ at_f at-h ty Γ s =
      fsplit t $ fsplit t $ move t (3 ∷ []) $ fsplit t $ fsplit t $
      -- [room for the record; ..; the others'; the parameter; ..; the others]
      assigns t (of_opd t (load t (from_at t (at_f 0) (stop t)) (look t 3 refl))) (from_at t (at-h 0) (stop t)) (init t 0 refl ty.0) $
      fjoin t $ move t (2 ∷ 3 ∷ []) $ fjoin t $ move t (3 ∷ 2 ∷ []) $
      keeps-run t j Ps bs.1 hs.1 d.1 (λ i. f (suc i)) (λ i. h (suc i)) E₁ E₂ (λ i. at_f (suc i)) (λ i. at-h (suc i)) ty.1 _ (move t (3 ∷ 1 ∷ []) $ fjoin t $ move t (2 ∷ 1 ∷ []) $ fjoin t $ s)

  -- the references are made
  pub lends-run : K → (j : ℕ) (Ps : List Param) (bs : Blocks (in_tys j Ps)) (hs : Blocks (tys (slots Ps))) (ts : Blocks (temps Ps)) (d : Ins Ps) (f h g : ℕ → ℕ) (E₁ E₂ E₃ : List (Ty × ℕ))
      → Spots 𝓤 H E f (env (in_tys j Ps) bs ++ E₁) → Spots 𝓤 H E h (env (tys (slots Ps)) hs ++ E₂) → Spots 𝓤 H E g (env (temps Ps) ts ++ E₃) → Typed (in_tys j Ps) (in_vals Ps d) → (Γ : List (Item 𝓤))
      → Seq K 𝓛 (‵ (cells (in_tys j Ps) bs (in_vals Ps d)) ∷ ‵ (cells (temps Ps) ts (temp_vals Ps d hs)) ∷ Γ) (runs C Λ E rest q)
      → Seq K 𝓛 (‵ (cells (in_tys j Ps) bs (in_vals Ps d)) ∷ ‵ (rooms (temps Ps) ts) ∷ Γ) (runs C Λ E (lends f h g Ps rest) q)
  lends-run t j [] bs hs ts d f h g E₁ E₂ E₃ at_f at-h at_g ty Γ s = s
  lends-run t j (val X ∷ Ps) bs hs ts d f h g E₁ E₂ E₃ at_f at-h at_g ty Γ s = fsplit t $ move t (1 ∷ 2 ∷ []) $ lends-run t j Ps bs.1 hs ts d.1 (λ i. f (suc i)) h g E₁ E₂ E₃ (λ i. at_f (suc i)) at-h at_g ty.1 _ (move t (2 ∷ 0 ∷ []) $ fjoin t $ s)
  lends-run t j (slice_of imm T ∷ Ps) bs hs ts d f h g E₁ E₂ E₃ at_f at-h at_g ty Γ s = fsplit t $ move t (1 ∷ 2 ∷ []) $ lends-run t (suc j) Ps bs.1 hs ts d.1 (λ i. f (suc i)) h g E₁ E₂ E₃ (λ i. at_f (suc i)) at-h at_g ty.1 _ (move t (2 ∷ 0 ∷ []) $ fjoin t $ s)
  lends-run t j (slice_of mut T ∷ Ps) bs hs ts d f h g E₁ E₂ E₃ at_f at-h at_g ty Γ s =
      fsplit t $ fsplit t $ move t (3 ∷ []) $ fsplit t $ fsplit t $ move t (2 ∷ []) $ fsplit t $ fsplit t $
      -- [room for the slice; ..; the others'; for its pointer; ..; the parameter; ..; the others]
      assigns t (addr t (from_at t (at_f 0) (fld t refl (hop t (look_in t 5 (sub t 0 refl (whole t))) (stop t))))) (from_at t (at_g 0) (stop t)) (init t 3 refl (tt, tt)) $
      assigns t (agg t (and_then t (load t (from_at t (at_g 0) (stop t)) (look t 3 refl)) (and_then t (load t (from_at t (at_f 0) (fld t refl (stop t))) (look_in t 5 (sub t 1 refl (whole t)))) (no_more t)))) (from_at t (at_g 1) (stop t)) (init t 0 refl (tt, ty.0.1)) $
      fjoin t $ move t (2 ∷ 3 ∷ []) $ fjoin t $ move t (3 ∷ 4 ∷ []) $ fjoin t $ move t (4 ∷ 3 ∷ []) $
      lends-run t (suc j) Ps bs.1 hs ts.1.1 d.1 (λ i. f (suc i)) h (λ i. g (suc (suc i))) E₁ E₂ E₃ (λ i. at_f (suc i)) at-h (λ i. at_g (suc (suc i))) ty.1 _ (move t (4 ∷ 1 ∷ []) $ fjoin t $ move t (3 ∷ 0 ∷ []) $ fjoin t $ move t (2 ∷ 1 ∷ []) $ fjoin t $ s)
  lends-run t j (ref_to m R ∷ Ps) bs hs ts d f h g E₁ E₂ E₃ at_f at-h at_g ty Γ s =
      fsplit t $ move t (2 ∷ []) $ fsplit t $ fsplit t $ assigns t (addr t (from_at t (at-h 0) (stop t))) (from_at t (at_g 0) (stop t)) (init t 0 refl (tt, tt)) $ fjoin t $ move t (3 ∷ 1 ∷ []) $
      lends-run t j Ps bs.1 hs.1 ts.1 d.1 (λ i. f (suc i)) (λ i. h (suc i)) (λ i. g (suc i)) E₁ E₂ E₃ (λ i. at_f (suc i)) (λ i. at-h (suc i)) (λ i. at_g (suc i)) ty.1 _ (move t (2 ∷ 1 ∷ []) $ fjoin t $ move t (2 ∷ 1 ∷ []) $ fjoin t $ s)

  -- the records are copied
  pub copies-run : K → (Xs : List One) (hs cs : Blocks (tys Xs)) (x : Tuple Xs) (h c : ℕ → ℕ) (E₁ E₂ : List (Ty × ℕ)) → Spots 𝓤 H E h (env (tys Xs) hs ++ E₁) → Spots 𝓤 H E c (env (tys Xs) cs ++ E₂) → IsTuple Xs x → (Γ : List (Item 𝓤))
      → Seq K 𝓛 (‵ (cells (tys Xs) hs (vals Xs x)) ∷ ‵ (cells (tys Xs) cs (vals Xs x)) ∷ Γ) (runs C Λ E rest q)
      → Seq K 𝓛 (‵ (cells (tys Xs) hs (vals Xs x)) ∷ ‵ (rooms (tys Xs) cs) ∷ Γ) (runs C Λ E (copies h c Xs rest) q)
  copies-run t [] hs cs x h c E₁ E₂ at-h at_c are Γ s = s
  copies-run t (X ∷ Xs) hs cs x h c E₁ E₂ at-h at_c are Γ s =
      fsplit t $ fsplit t $ move t (3 ∷ []) $ fsplit t $ fsplit t $ assigns t (of_opd t (load t (from_at t (at-h 0) (stop t)) (look t 3 refl))) (from_at t (at_c 0) (stop t)) (init t 0 refl (fine-one X 𝓛 x.0 _ are.0)) $
      fjoin t $ move t (2 ∷ 3 ∷ []) $ fjoin t $ move t (3 ∷ 2 ∷ []) $
      copies-run t Xs hs.1 cs.1 x.1 (λ i. h (suc i)) (λ i. c (suc i)) E₁ E₂ (λ i. at-h (suc i)) (λ i. at_c (suc i)) are.1 _ (move t (3 ∷ 1 ∷ []) $ fjoin t $ move t (2 ∷ 1 ∷ []) $ fjoin t $ s)

module _ {M : Type 1} {𝓤 : Ura M} {𝓛 : Logic 𝓤} {K : Type 0} {E : Env 𝓤 𝓛.H} where
  open 𝓛 use {H}

  pub copied-are : {Γ : List (Item 𝓤)} → K → (Xs : List One) (cs : Blocks (tys Xs)) (x : Tuple Xs) (c : ℕ → ℕ) (E₂ : List (Ty × ℕ)) → Spots 𝓤 H E c (env (tys Xs) cs ++ E₂) → Has 𝓛 Γ (cells (tys Xs) cs (vals Xs x)) → Opds K 𝓛 Γ E (copied c Xs) (vals Xs x)
  copied-are t [] cs x c E₂ at_c hc = no_more t
  copied-are t (X ∷ Xs) cs x c E₂ at_c hc = and_then t (load t (from_at t (at_c 0) (stop t)) (reads t (has_first (has_first hc)))) (copied-are t Xs cs.1 x.1 (λ i. c (suc i)) E₂ (λ i. at_c (suc i)) (has-second hc))

  pub operands-are : {Γ : List (Item 𝓤)} → K → (j : ℕ) (Ps : List Param) (bs : Blocks (in_tys j Ps)) (hs : Blocks (tys (slots Ps))) (ts : Blocks (temps Ps)) (d : Ins Ps) (l : Loans Ps) (f g : ℕ → ℕ) (E₁ E₃ : List (Ty × ℕ)) → Spots 𝓤 H E f (env (in_tys j Ps) bs ++ E₁) → Spots 𝓤 H E g (env (temps Ps) ts ++ E₃)
      → Has 𝓛 Γ (cells (in_tys j Ps) bs (in_vals Ps d)) → Has 𝓛 Γ (cells (temps Ps) ts (temp_vals Ps d hs)) → Opds K 𝓛 Γ E (operands f g Ps) (fn_vals Ps (lent_in Ps d hs l))
  operands-are t j [] bs hs ts d l f g E₁ E₃ at_f at_g hf hg = no_more t
  operands-are t j (val X ∷ Ps) bs hs ts d l f g E₁ E₃ at_f at_g hf hg =
      and_then t (load t (from_at t (at_f 0) (stop t)) (reads t (has_first (has_first hf)))) (operands-are t j Ps bs.1 hs ts d.1 l (λ i. f (suc i)) g E₁ E₃ (λ i. at_f (suc i)) at_g (has-second hf) hg)
  operands-are t j (slice_of imm T ∷ Ps) bs hs ts d l f g E₁ E₃ at_f at_g hf hg =
      and_then t (load t (from_at t (at_f 0) (stop t)) (reads t (has_first (has_first hf)))) (operands-are t (suc j) Ps bs.1 hs ts d.1 l (λ i. f (suc i)) g E₁ E₃ (λ i. at_f (suc i)) at_g (has-second hf) hg)
  operands-are t j (slice_of mut T ∷ Ps) bs hs ts d l f g E₁ E₃ at_f at_g hf hg =
      and_then t (load t (from_at t (at_g 1) (stop t)) (reads t (has_first (has_first (has-second hg)))))
      (operands-are t (suc j) Ps bs.1 hs ts.1.1 d.1 l (λ i. f (suc i)) (λ i. g (suc (suc i))) E₁ E₃ (λ i. at_f (suc i)) (λ i. at_g (suc (suc i))) (has-second hf) (has-second (has-second hg)))
  operands-are t j (ref_to imm R ∷ Ps) bs hs ts d l f g E₁ E₃ at_f at_g hf hg =
      and_then t (load t (from_at t (at_g 0) (stop t)) (reads t (has_first (has_first hg))))
      (operands-are t j Ps bs.1 hs.1 ts.1 d.1 l.1 (λ i. f (suc i)) (λ i. g (suc i)) E₁ E₃ (λ i. at_f (suc i)) (λ i. at_g (suc i)) (has-second hf) (has-second hg))
  operands-are t j (ref_to mut R ∷ Ps) bs hs ts d l f g E₁ E₃ at_f at_g hf hg =
      and_then t (load t (from_at t (at_g 0) (stop t)) (reads t (has_first (has_first hg))))
      (operands-are t j Ps bs.1 hs.1 ts.1 d.1 l.1 (λ i. f (suc i)) (λ i. g (suc i)) E₁ E₃ (λ i. at_f (suc i)) (λ i. at_g (suc i)) (has-second hf) (has-second hg))

-- ---- at exit: plain data is seen as it was passed
abbrev IsStill : {D : Type 0} → Exit D → Type 0
IsStill unchanged = Unit {0}
IsStill (leaves L l S s r₀) = ⊥

abbrev last_of : {D : Type 0} (e : Exit D) → IsStill e → (x : D) → Last e x
last_of unchanged st x = tt
last_of (leaves L l S s r₀) st x = absurd st

left-of : {D : Type 0} (e : Exit D) (st : IsStill e) (x : D) → left e x (last_of e st x) ≡ ftrue
left-of unchanged st x = refl
left-of (leaves L l S s r₀) st x = absurd st

abbrev pub Stills : List Param → Type 0
Stills [] = Unit {0}
Stills (val X ∷ Ps) = Stills Ps
Stills (slice_of m T ∷ Ps) = Stills Ps
Stills (ref_to m R ∷ Ps) = IsStill (R.R.exit yes) × Stills Ps

-- the last values, of what the step left
module _ (n : ℕ) (κs : Lfts n) (n₁ : ℕ) (κs₁ : Lfts n₁) where
  abbrev pub lastly : (j i : ℕ) (Ps : List Param) (at : Lfts n → Lfts (step_lfts Ps)) (at₁ : Lfts n₁ → Lfts (fn_lfts Ps)) → Stills Ps → (hs : Blocks (tys (slots Ps))) (l : Loans Ps) (a : Denots (step_types n κs j Ps at))
      → Fins {n = n₁} κs₁ (fn_slots n₁ i Ps at₁) (all yes (fn_slots n₁ i Ps at₁)) (outs n₁ κs₁ i Ps at₁ (lent_in Ps (ins n κs j Ps at a) hs l)) → Fins {n = n} κs (step_slots n j Ps at) (all yes (step_slots n j Ps at)) a
  lastly j i [] at at₁ st hs l a ws = tt
  lastly j i (val X ∷ Ps) at at₁ st hs l a ws = (ws.0, lastly j i Ps at at₁ st hs l a.1 ws.1)
  lastly j i (slice_of imm T ∷ Ps) at at₁ st hs l a ws = (ws.0, lastly (suc j) (suc i) Ps (λ ls. (at ls).1) (λ ls. (at₁ ls).1) st hs l a.1 ws.1)
  lastly j i (slice_of mut T ∷ Ps) at at₁ st hs l a ws = (ws.0, lastly (suc j) (suc i) Ps (λ ls. (at ls).1) (λ ls. (at₁ ls).1) st hs l a.1 ws.1)
  lastly j i (ref_to m R ∷ Ps) at at₁ st hs l a ws = (last_of (R.R.exit yes) st.0 a.0, lastly j (suc i) Ps at (λ ls. (at₁ ls).1) st.1 hs.1 l.1 a.1 ws.1)

  pub left-run : {M : Type 1} {𝓤 : Ura M} {𝓛 : Logic 𝓤} {K : Type 0} {G : Goal 𝓤 𝓛.H} → K → (j i : ℕ) (Ps : List Param) (at : Lfts n → Lfts (step_lfts Ps)) (at₁ : Lfts n₁ → Lfts (fn_lfts Ps)) (st : Stills Ps) (hs : Blocks (tys (slots Ps))) (l : Loans Ps) → out_lft Ps (at κs) l ≡ at₁ κs₁ →
      (a : Denots (step_types n κs j Ps at)) (ws : Fins {n = n₁} κs₁ (fn_slots n₁ i Ps at₁) (all yes (fn_slots n₁ i Ps at₁)) (outs n₁ κs₁ i Ps at₁ (lent_in Ps (ins n κs j Ps at a) hs l))) (Γ : List (Item 𝓤))
      → Seq K 𝓛 (‵ (lasts_of {n = n} κs (step_slots n j Ps at) (all yes (step_slots n j Ps at)) a (lastly j i Ps at at₁ st hs l a ws)) ∷ Γ) G
      → Seq K 𝓛 (‵ (lasts_of {n = n₁} κs₁ (fn_slots n₁ i Ps at₁) (all yes (fn_slots n₁ i Ps at₁)) (outs n₁ κs₁ i Ps at₁ (lent_in Ps (ins n κs j Ps at a) hs l)) ws) ∷ Γ) G
  left-run t j i [] at at₁ st hs l e a ws Γ s = s
  left-run t j i (val X ∷ Ps) at at₁ st hs l e a ws Γ s = fsplit t $ move t (1 ∷ []) $ left-run t j i Ps at at₁ st hs l e a.1 ws.1 _ (move t (1 ∷ 0 ∷ []) $ fjoin t $ s)
  left-run t j i (slice_of imm T ∷ Ps) at at₁ st hs l e a ws Γ s = fsplit t $ move t (1 ∷ []) $ left-run t (suc j) (suc i) Ps (λ ls. (at ls).1) (λ ls. (at₁ ls).1) st hs l (ap (λ (κs' : Lfts (fn_lfts (slice_of imm T ∷ Ps))). κs'.1) e) a.1 ws.1 _ (move t (1 ∷ 0 ∷ []) $ fjoin t $ s)
  left-run t j i (slice_of mut T ∷ Ps) at at₁ st hs l e a ws Γ s = rewrite t 0 (λ (κ : Lft). ‵ (fsep (left ((MutSlice erased κ T.R).exit yes) a.0 ws.0) (lasts_of {n = n₁} κs₁ (fn_slots n₁ (suc i) Ps (λ ls. (at₁ ls).1)) (all yes (fn_slots n₁ (suc i) Ps (λ ls. (at₁ ls).1))) (outs n₁ κs₁ (suc i) Ps (λ ls. (at₁ ls).1) (lent_in Ps (ins n κs (suc j) Ps (λ ls. (at ls).1) a.1) hs l)) ws.1))) (sym (ap (λ (κs' : Lfts (fn_lfts (slice_of mut T ∷ Ps))). κs'.0) e)) refl $ fsplit t $ move t (1 ∷ []) $ left-run t (suc j) (suc i) Ps (λ ls. (at ls).1) (λ ls. (at₁ ls).1) st hs l (ap (λ (κs' : Lfts (fn_lfts (slice_of mut T ∷ Ps))). κs'.1) e) a.1 ws.1 _ (move t (1 ∷ 0 ∷ []) $ fjoin t $ s)
  left-run t j i (ref_to m R ∷ Ps) at at₁ st hs l e a ws Γ s = fsplit t $ drop t $ left-run t j (suc i) Ps at (λ ls. (at₁ ls).1) st.1 hs.1 l.1 (ap (λ (κs' : Lfts (fn_lfts (ref_to m R ∷ Ps))). κs'.1) e) a.1 ws.1 _ (nothing t $ rewrite t 0 (λ (F : Fml). ‵ F) (sym (left-of (R.R.exit yes) st.0 a.0)) refl $ fjoin t $ s)
