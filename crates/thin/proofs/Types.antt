-- What a thin function's proof names: its types, the struct that its step returns, and its parameters. Assumes nothing.
--     One        plain data of one machine value:  u8, u32, u64, bool, of_struct, of_enum
--     Fields     a struct of such data, which a step returns:  of_fields
--     Param      a parameter, which is handed on to the step:
--                val X         x: X             as it is
--                slice T       s: &[T]          as it is
--                mut_slice T    s: &mut [T]      lent on for good
--                ref R         r: &R            as `*r`
--                mut_ref R      r: &mut R        as `*r`, and the step returns it anew
use mathlib.Core.Path.{◌≡◌, refl, ap, subst, ◌∙◌}
use mathlib.Core.List.{List, [], ◌∷◌}
use lib.Dec.{T as Holds}
use seplogic.Ra.Ura.{Ura}
use mir.Syntax.{Sym, Mutability, imm, mut, Width, w8, w32, w64, Ty, ty_int, ty_bool, ty_struct, Tys, tnil, tcons}
use mir.Val.{Val, vint, vbool, vstruct, Vals, vnil, vcons, WT, has_ty}
use types.Logic.{Logic}
use types.Kit.{‵, ◌$◌, ◌∵◌, !, qed, done}
use denote.RattleType.{RattleType}
use denote.Memory.{lone}
use denote.Laws.{Is, Tells, Typed, Makes, Lawful, Copy, valss, shows}
use denote.Steps.{owned, peeks, only}
use denote.Plain.{UInt, uint_Tells, uint_Makes, uint_Lawful, Boolean, bool_Tells, bool_Makes, bool_Lawful}
use denote.Struct.Struct.{Plains, AreAll}
use denote.Struct.Declared as SD
use denote.Struct.Laws as SL
use denote.Enum.Enum.{Few, Plainss}
use denote.Enum.Declared as ED
use denote.Enum.Laws as EL
use denote.Copied.{Copied, uint_Copied, bool_Copied}

-- ---- plain data: R its type, τ its one MIR type, val its machine value
pub record One : Type 2 where
  pub R : RattleType
  pub τ : Ty
  pub one : R.mir ≡ τ ∷ []
  pub val : R.Denot → Val
  pub tells : Tells R (Is R) (λ x. val x ∷ [])
  pub makes : (M : Type 1) (𝓤 : Ura M) (𝓛 : Logic 𝓤) → Makes 𝓛 R (Is R)
  pub lawful : (M : Type 1) (𝓤 : Ura M) (𝓛 : Logic 𝓤) → Lawful 𝓛 R
  pub copied : (M : Type 1) (𝓤 : Ura M) (𝓛 : Logic 𝓤) → Copied 𝓛 R

abbrev of_uint : Width → One
of_uint w = record { R = UInt w; τ = ty_int w; one = refl; val = vint w; tells = uint_Tells w; makes = λ M 𝓤 𝓛. uint_Makes 𝓛 w; lawful = λ M 𝓤 𝓛. uint_Lawful 𝓛 w; copied = λ M 𝓤 𝓛. uint_Copied 𝓛 w }

abbrev pub u8 : One
u8 = of_uint w8

abbrev pub u32 : One
u32 = of_uint w32

abbrev pub u64 : One
u64 = of_uint w64

abbrev pub bool : One
bool = record { R = Boolean; τ = ty_bool; one = refl; val = vbool; tells = bool_Tells; makes = λ M 𝓤 𝓛. bool_Makes 𝓛; lawful = λ M 𝓤 𝓛. bool_Lawful 𝓛; copied = λ M 𝓤 𝓛. bool_Copied 𝓛 }

-- a declared struct S: `of_struct S.the_type S.Laws.the_laws S.Laws.the_plain S.Laws.the_copy`
abbrev pub of_struct : (T : SD.Declared) → SL.Laws T → Plains (SD.fields T) → SL.Copyables T.parts → One
of_struct T laws plain copies = record { R = SD.row T; τ = lone (SD.row T).mir; one = refl; val = SL.val T laws; tells = SL.tells T laws; makes = λ M 𝓤 𝓛. SL.makes T plain 𝓛; lawful = λ M 𝓤 𝓛. SL.lawful T laws 𝓛; copied = λ M 𝓤 𝓛. SL.copied T copies 𝓛 }

-- a declared enum E: `of_enum E.the_type E.Laws.the_laws tt E.Laws.the_plain E.Laws.the_copy`
abbrev pub of_enum : (T : ED.Declared) → EL.Laws T → Few (ED.shape T) → Plainss (ED.variants T) → EL.Copyabless T.parts → One
of_enum T laws few plain copies = record { R = ED.row T; τ = lone (ED.row T).mir; one = refl; val = EL.val T laws; tells = EL.tells T laws; makes = λ M 𝓤 𝓛. EL.makes T plain 𝓛; lawful = λ M 𝓤 𝓛. EL.lawful T laws 𝓛 few; copied = λ M 𝓤 𝓛. EL.copied T copies 𝓛 }

-- the machine value v is of the MIR type τ
abbrev pub Fine : Ty → Val → Type 0
Fine τ v = Holds (has_ty τ v) × WT v

-- x stands for a value of the type, which is `X.val x`
abbrev pub IsOne : (X : One) → X.R.Denot → Type 0
IsOne X x = Is X.R x (X.val x ∷ [])

module _ (X : One) {M : Type 1} {𝓤 : Ura M} (𝓛 : Logic 𝓤) where
  pub fine-one : (x : X.R.Denot) (v : Val) → Is X.R x (v ∷ []) → Fine X.τ v
  fine-one x v is = (subst (λ (τs : List Ty). Typed τs (v ∷ [])) X.one ((X.lawful M 𝓤 𝓛).typed x (v ∷ []) is)).0

  -- plain data can be had twice
  pub copy-one : Copy 𝓛 X.R
  copy-one = record {
    twice = λ x vs. qed 𝓛 (‵ (X.R.own_val x vs) ∷ []) ∵ peeks ! X.R (Is X.R) (shows 𝓛 X.R) x vs (λ is. owned ! X.R (Is X.R) (X.makes M 𝓤 𝓛) x vs is $ done !);
  }

-- ---- a struct of such data: parts has its fields, in their order
abbrev pub Tuple : List One → Type 0
Tuple [] = Unit {0}
Tuple (X ∷ Xs) = X.R.Denot × Tuple Xs

abbrev pub tuple_tys : List One → Tys
tuple_tys [] = tnil
tuple_tys (X ∷ Xs) = tcons X.τ (tuple_tys Xs)

abbrev pub tuple_vals : (Xs : List One) → Tuple Xs → Vals
tuple_vals [] x = vnil
tuple_vals (X ∷ Xs) x = vcons (X.val x.0) (tuple_vals Xs x.1)

abbrev pub IsTuple : (Xs : List One) → Tuple Xs → Type 0
IsTuple [] x = Unit {0}
IsTuple (X ∷ Xs) x = IsOne X x.0 × IsTuple Xs x.1

pub record Fields (Xs : List One) : Type 2 where
  pub Z : RattleType
  pub ν : Sym
  pub one : Z.mir ≡ ty_struct ν (tuple_tys Xs) ∷ []
  pub parts : Z.Denot → Tuple Xs
  pub is : (z : Z.Denot) (v : Val) → Is Z z (v ∷ []) → (v ≡ vstruct (tuple_vals Xs (parts z))) × IsTuple Xs (parts z)
  pub lawful : (M : Type 1) (𝓤 : Ura M) (𝓛 : Logic 𝓤) → Lawful 𝓛 Z

pub fine-fields : {Xs : List One} (F : Fields Xs) {M : Type 1} {𝓤 : Ura M} (𝓛 : Logic 𝓤) (z : F.Z.Denot) (v : Val) → Is F.Z z (v ∷ []) → Fine (ty_struct F.ν (tuple_tys Xs)) v
fine-fields F {M} {𝓤 = 𝓤} 𝓛 z v is = (subst (λ (τs : List Ty). Typed τs (v ∷ [])) F.one ((F.lawful M 𝓤 𝓛).typed z (v ∷ []) is)).0

-- a declared struct S with the fields a, b: `of_fields S.the_type S.Laws.the_laws (λ z. (z.a, (z.b, tt))) refl (λ z. refl) (λ z are. are)`
abbrev pub of_fields : {Xs : List One} (T : SD.Declared) (laws : SL.Laws T) (parts : T.D → Tuple Xs) → (SD.row T).mir ≡ ty_struct T.name (tuple_tys Xs) ∷ [] → ((z : T.D) → SL.val T laws z ≡ vstruct (tuple_vals Xs (parts z)))
    → ((z : T.D) → AreAll (SD.fields T) (T.to z) (valss (SD.fields T) (SL.spells T.parts laws) (T.to z)) → IsTuple Xs (parts z)) → Fields Xs
of_fields T laws parts one vals are = record {
  Z = SD.row T;
  ν = T.name;
  one = one;
  parts = parts;
  is = λ z v i. (ap only (SL.tells T laws z _ i) ∙ vals z, are z (SL.owed T laws z _ i));
  lawful = λ M 𝓤 𝓛. SL.lawful T laws 𝓛;
}

-- ---- a parameter
pub data Param : Type 2 where
  val : One → Param
  slice_of : Mutability → One → Param
  ref_to : Mutability → One → Param

abbrev pub slice : One → Param
slice T = slice_of imm T

abbrev pub mut_slice : One → Param
mut_slice T = slice_of mut T

abbrev pub ref : One → Param
ref R = ref_to imm R

abbrev pub mut_ref : One → Param
mut_ref R = ref_to mut R

-- the records that the step returns
abbrev pub records : List Param → List One
records [] = []
records (val X ∷ Ps) = records Ps
records (slice_of m T ∷ Ps) = records Ps
records (ref_to imm R ∷ Ps) = records Ps
records (ref_to mut R ∷ Ps) = R ∷ records Ps
