-- Lemmas on lists of locals, for the walk of a function whose number of locals is not known. Assumes nothing.
use mathlib.Core.Path.{◌≡◌, refl, sym, subst}
use Prim.Native.Nat.{ℕ, zero, suc}
use mathlib.Core.List.{List, [], ◌∷◌, ◌++◌}
use lib.ListN.{get_or}
use seplogic.Ra.Ura.{Ura}
use base.Fraction.{full_share}
use mir.Syntax.{Ty, Step as PStep, place, Local, local, value_local}
use mir.Val.{Val}
use base.Logic.{SProp, ent, sep, wand, ex, emp, id⊢, via, comm∗, assoc∗, assoc', mono_l, mono_r, mono∗, wand_i, ex_i, never_e}
use base.Fml.{Share, Fml, ftrue, ffalse, fsep, fat, froom, fdies}
use prog.Wp.{Env, Spot, walk, no_local}
use types.Logic.{Logic, sem}
use types.Kit.{Item, ‵, ⋆, mean, nth, del, pull, unpull, Goal, allocs, passes, frees, Seq, ◌$◌, move, drop, use1, fsplit, fjoin}
use types.Run.{Reads, Walks, Finds, init, alloc1, pass1, pass0, free1}
use denote.Laws.{Typed}
use denote.Steps.{nothing}

-- a local's cell with a value in it, and its room, each with the right to free it
abbrev pub cell : Ty → ℕ → Val → Fml
cell τ b v = fsep (fat full_share τ b zero v) (fdies τ b)

abbrev pub space : Ty → ℕ → Fml
space τ b = fsep (froom τ b zero) (fdies τ b)

-- ---- a list of locals
abbrev pub Blocks : List Ty → Type 0
Blocks [] = Unit {0}
Blocks (τ ∷ τs) = ℕ × Blocks τs

abbrev pub locs : List Ty → List Local
locs [] = []
locs (τ ∷ τs) = local τ value_local ∷ locs τs

abbrev pub env : (τs : List Ty) → Blocks τs → List (Ty × ℕ)
env [] bs = []
env (τ ∷ τs) bs = (τ, bs.0) ∷ env τs bs.1

abbrev pub rooms : (τs : List Ty) → Blocks τs → Fml
rooms [] bs = ftrue
rooms (τ ∷ τs) bs = fsep (space τ bs.0) (rooms τs bs.1)

abbrev pub cells : (τs : List Ty) → Blocks τs → List Val → Fml
cells [] bs vs = ftrue
cells (τ ∷ τs) bs [] = ffalse
cells (τ ∷ τs) bs (v ∷ vs) = fsep (cell τ bs.0 v) (cells τs bs.1 vs)

-- the local that stands j after the last of them
abbrev pub past : List Ty → ℕ → ℕ
past [] j = j
past (τ ∷ τs) j = suc (past τs j)

pub past-env : (τs : List Ty) (bs : Blocks τs) (E : List (Ty × ℕ)) (j : ℕ) (z : Ty × ℕ) → get_or (env τs bs ++ E) (past τs j) z ≡ get_or E j z
past-env [] bs E j z = refl
past-env (τ ∷ τs) bs E j z = past-env τs bs.1 E j z

forgotten : {M : Type 1} {𝓤 : Ura M} (𝓛 : Logic 𝓤) (τs : List Ty) (bs : Blocks τs) (vs : List Val) → ent 𝓤 (sem 𝓛 (cells τs bs vs)) (sem 𝓛 (rooms τs bs))
forgotten {𝓤 = 𝓤} 𝓛 [] bs vs = id⊢ 𝓤 (emp 𝓤)
forgotten {𝓤 = 𝓤} 𝓛 (τ ∷ τs) bs [] = never_e 𝓤 _
forgotten {𝓤 = 𝓤} 𝓛 (τ ∷ τs) bs (v ∷ vs) = mono∗ 𝓤 (mono_l 𝓤 (𝓛.H.dies τ bs.0) (𝓛.laws.at_room τ bs.0 zero v)) (forgotten 𝓛 τs bs.1 vs)

-- the context has P in it: P can be taken out, and put back
pub record Has {M : Type 1} {𝓤 : Ura M} (𝓛 : Logic 𝓤) (Γ : List (Item 𝓤)) (P : Fml) : Type 2 where
  pub rest : SProp 𝓤
  pub out : ent 𝓤 (⋆ 𝓛 Γ) (sep 𝓤 (sem 𝓛 P) rest)
  pub back : ent 𝓤 (sep 𝓤 (sem 𝓛 P) rest) (⋆ 𝓛 Γ)

module _ {M : Type 1} {𝓤 : Ura M} {𝓛 : Logic 𝓤} {Γ : List (Item 𝓤)} where
  pub has-nth : (n : ℕ) {P : Fml} → nth 𝓛 n Γ ≡ ‵ P → Has 𝓛 Γ P
  has-nth n e = record {
    rest = ⋆ 𝓛 (del 𝓛 n Γ);
    out = subst (λ (i : Item 𝓤). ent 𝓤 (⋆ 𝓛 Γ) (sep 𝓤 (mean 𝓛 i) (⋆ 𝓛 (del 𝓛 n Γ)))) e (pull 𝓛 n Γ);
    back = subst (λ (i : Item 𝓤). ent 𝓤 (sep 𝓤 (mean 𝓛 i) (⋆ 𝓛 (del 𝓛 n Γ))) (⋆ 𝓛 Γ)) e (unpull 𝓛 n Γ);
  }

  pub has_first : {P Q : Fml} → Has 𝓛 Γ (fsep P Q) → Has 𝓛 Γ P
  has_first {P} {Q} h = record {
    rest = sep 𝓤 (sem 𝓛 Q) h.rest;
    out = via 𝓤 _ h.out (assoc∗ 𝓤 (sem 𝓛 P) (sem 𝓛 Q) h.rest);
    back = via 𝓤 _ (assoc' 𝓤 (sem 𝓛 P) (sem 𝓛 Q) h.rest) h.back;
  }

  pub has-second : {P Q : Fml} → Has 𝓛 Γ (fsep P Q) → Has 𝓛 Γ Q
  has-second {P} {Q} h = has_first {P = Q} {Q = P} record {
    rest = h.rest;
    out = via 𝓤 _ h.out (mono_l 𝓤 h.rest (comm∗ 𝓤 (sem 𝓛 P) (sem 𝓛 Q)));
    back = via 𝓤 _ (mono_l 𝓤 h.rest (comm∗ 𝓤 (sem 𝓛 Q) (sem 𝓛 P))) h.back;
  }

module _ {M : Type 1} {𝓤 : Ura M} {𝓛 : Logic 𝓤} {K : Type 0} where
  open 𝓛 use {H}

  pub reads : {Γ : List (Item 𝓤)} → K → {τ : Ty} {b : ℕ} {v : Val} → Has 𝓛 Γ (fat full_share τ b zero v) → Reads K 𝓛 Γ τ b zero v
  reads {Γ} t {τ} {b} {v} h = record {
    go = λ Kt k.
        via 𝓤 (sep 𝓤 (H.at full_share τ b zero v) h.rest) h.out
        (via 𝓤 (sep 𝓤 (H.at full_share τ b zero v) (wand 𝓤 (H.at full_share τ b zero v) (Kt v)))
        (mono_r 𝓤 (H.at full_share τ b zero v) (wand_i 𝓤 h.rest (H.at full_share τ b zero v) (Kt v) (via 𝓤 (sep 𝓤 (H.at full_share τ b zero v) h.rest) (comm∗ 𝓤 h.rest (H.at full_share τ b zero v)) (via 𝓤 (⋆ 𝓛 Γ) h.back k))))
        (via 𝓤 (ex 𝓤 (λ (u : Val). sep 𝓤 (H.at full_share τ b zero u) (wand 𝓤 (H.at full_share τ b zero u) (Kt u))))
        (ex_i 𝓤 (λ (u : Val). sep 𝓤 (H.at full_share τ b zero u) (wand 𝓤 (H.at full_share τ b zero u) (Kt u))) v)
        (ex_i 𝓤 (λ (s : Share). ex 𝓤 (λ (u : Val). sep 𝓤 (H.at s τ b zero u) (wand 𝓤 (H.at s τ b zero u) (Kt u)))) full_share)));
  }

  pub read_as : {Γ : List (Item 𝓤)} → K → {τ : Ty} {b o : ℕ} {v w : Val} → v ≡ w → Reads K 𝓛 Γ τ b o v → Reads K 𝓛 Γ τ b o w
  read_as {Γ} t {τ} {b} {o} e r = subst (λ (u : Val). Reads K 𝓛 Γ τ b o u) e r

  -- a place of the local i, which is e
  pub from_at : {Γ : List (Item 𝓤)} {E : Env 𝓤 H} → K → {i : ℕ} {st : List PStep} {e : Ty × ℕ} {sp : Spot 𝓤 H} → get_or E i (no_local 𝓤 H) ≡ e → Walks K 𝓛 Γ E (e.0, e.1, zero) st sp → Finds K 𝓛 Γ E (place i st) sp
  from_at {Γ} {E} t {i} {st} {e} {sp} eq w = record { go = λ Kt h. subst (λ (s : Ty × ℕ). ent 𝓤 (⋆ 𝓛 Γ) (walk 𝓤 H E (s.0, s.1, zero) st Kt)) (sym eq) (w.go Kt h) }

  pub allocs-all : K → (τs : List Ty) {Γ : List (Item 𝓤)} {ls : List Local} {Kt : Env 𝓤 H → Goal 𝓤 H}
      → ((bs : Blocks τs) → Seq K 𝓛 (‵ (rooms τs bs) ∷ Γ) (allocs ls (λ E. Kt (env τs bs ++ E)))) → Seq K 𝓛 Γ (allocs (locs τs ++ ls) Kt)
  allocs-all t [] k = nothing t $ k tt
  allocs-all t (τ ∷ τs) k = alloc1 t (λ b. allocs-all t τs (λ bs. move t (1 ∷ 2 ∷ 0 ∷ []) $ fjoin t $ fjoin t $ k (b, bs)))

  pub passes-all : K → (τs : List Ty) (bs : Blocks τs) (vs : List Val) → Typed τs vs → (E : Env 𝓤 H) {Γ : List (Item 𝓤)} {g : Goal 𝓤 H}
      → Seq K 𝓛 (‵ (cells τs bs vs) ∷ Γ) g → Seq K 𝓛 (‵ (rooms τs bs) ∷ Γ) (passes (env τs bs ++ E) vs g)
  passes-all t [] bs [] are E s = pass0 t $ s
  passes-all t [] bs (v ∷ vs) are E s = absurd are
  passes-all t (τ ∷ τs) bs [] are E s = absurd are
  passes-all t (τ ∷ τs) bs (v ∷ vs) are E s = fsplit t $ fsplit t $ pass1 t (init t 0 refl are.0) $ move t (2 ∷ []) $ passes-all t τs bs.1 vs are.1 E (move t (1 ∷ 2 ∷ 0 ∷ []) $ fjoin t $ fjoin t $ s)

  pub frees_all : K → (τs : List Ty) (bs : Blocks τs) (vs : List Val) {Γ : List (Item 𝓤)} {E : Env 𝓤 H} {g : Goal 𝓤 H} → Seq K 𝓛 Γ (frees E g) → Seq K 𝓛 (‵ (cells τs bs vs) ∷ Γ) (frees (env τs bs ++ E) g)
  frees_all t τs bs vs s = use1 𝓛 (‵ (rooms τs bs)) (forgotten 𝓛 τs bs vs) $ freed t τs bs s
    where
      freed : K → (τs : List Ty) (bs : Blocks τs) {Γ : List (Item 𝓤)} {E : Env 𝓤 H} {g : Goal 𝓤 H} → Seq K 𝓛 Γ (frees E g) → Seq K 𝓛 (‵ (rooms τs bs) ∷ Γ) (frees (env τs bs ++ E) g)
      freed t [] bs s = drop t $ s
      freed t (τ ∷ τs) bs s = fsplit t $ fsplit t $ free1 t $ freed t τs bs.1 s
