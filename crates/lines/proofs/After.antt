-- Laws of readers one after another, and of one byte. Assumes nothing.
use Rattle.std.proofs.Common.{◌≡◌, ℕ, Bool, true, false, ◌&&◌, eqb, if◌then◌else◌, List, [], ◌∷◌, take, drop, Option, Some, None, ◌⊎◌, inl, inr, refl, sym, ap, eqb-true}
use Rattle.std.specs.Option.{option_map, option_and_then}
use Rattle.std.specs.Cmp.Lexicographic.{pointwise}
use Rattle.lines.specs.Take.{after}

-- a value and what is left after it
abbrev pub got : {A : Type 0} → A → List ℕ → Option (A × List ℕ)
got a rest = Some (a, rest)

-- where two readers took something, each of them did
pub bound-back : {A B : Type 0} (o : Option A) (f : A → Option B) (b : B) → option_and_then f o ≡ Some b → (a : A) × (o ≡ Some a) × (f a ≡ Some b)
bound-back None f b e = cc
bound-back (Some a) f b e = (a, refl, e)

pub tested-back : {A : Type 0} (x : Bool) (a b : A) → (if x then Some a else None) ≡ Some b → (x ≡ true) × (a ≡ b)
tested-back true a b e = (refl, cc)
tested-back false a b e = cc

pub mapped-back : {A B : Type 0} (f : A → B) (o : Option A) (b : B) → option_map f o ≡ Some b → (a : A) × (o ≡ Some a) × (f a ≡ b)
mapped-back f None b e = cc
mapped-back f (Some a) b e = (a, refl, cc)

pub chosen-back : {A : Type 0} (x : Bool) (o p : Option A) (b : A) → (if x then o else p) ≡ Some b → ((x ≡ true) × (o ≡ Some b)) ⊎ ((x ≡ false) × (p ≡ Some b))
chosen-back true o p b e = inl (refl, e)
chosen-back false o p b e = inr (refl, e)

-- ---- one byte
pub after-back : (byte : ℕ) (bs rest : List ℕ) → after byte bs ≡ Some rest → bs ≡ byte ∷ rest
unfolding after
after-back byte [] rest e = cc
after-back byte (b ∷ bs) rest e = go (eqb b byte) refl e
  where
    go : (x : Bool) → eqb b byte ≡ x → (if x then Some bs else None) ≡ Some rest → b ∷ bs ≡ byte ∷ rest
    go true t q = let d = eqb-true b byte t in cc
    go false t q = cc

-- what `strip_prefix` says of one byte
pub after_none : (byte : ℕ) (s : List ℕ) → pointwise eqb (take 1 s) (byte ∷ []) ≡ false → after byte s ≡ None
unfolding after
after_none byte [] e = refl
after_none byte (b ∷ bs) e = go (eqb b byte) e
  where
    go : (x : Bool) → (x && true) ≡ false → (if x then Some bs else None) ≡ None
    go true e = cc
    go false e = refl

pub after_some : (byte : ℕ) (s rest : List ℕ) → pointwise eqb (take 1 s) (byte ∷ []) ≡ true → rest ≡ drop 1 s → after byte s ≡ Some rest
unfolding after
after_some byte [] rest e r = cc
after_some byte (b ∷ bs) rest e r = go (eqb b byte) e
  where
    go : (x : Bool) → (x && true) ≡ true → (if x then Some bs else None) ≡ Some rest
    go true e = ap Some (sym r)
    go false e = cc

pub ruleset stripped = (after_none, after_some)
