-- A choice by its cases, two tests that both hold, a test that is read back from its number, and a number as a test. Assumes nothing.
use mir.Val.{bool_byte}
use Prim.Native.Nat.{ℕ}
use mathlib.Core.Path.{◌≡◌, refl}
use mathlib.Core.Bool.{Bool, true, false, ◌&&◌, false≢true}
use lib.Dec.{eqb}
use borrow.Author.Tests.{eq-eqb, ne_eqb}
use Rattle.std.proofs.Common.{if◌then◌else◌}
use Rattle.error.specs.Choice.{bit, flag_of}

pub if-cases : {A : Type 0} (P : A → Type 0) (x : Bool) {a b : A} → (x ≡ true → P a) → (x ≡ false → P b) → P (if x then a else b)
if-cases P true f g = f refl
if-cases P false f g = g refl

pub and_split : (a b : Bool) → (a && b) ≡ true → (a ≡ true) × (b ≡ true)
and_split true b e = (refl, e)
and_split false b e = absurd (false≢true e)

pub bit-back : (p : Bool) → eqb (bit p) 1 ≡ p
bit-back true = refl
bit-back false = refl

-- ---- a number as a test
pub flag-no : (n : ℕ) → n ≡ 0 → flag_of n ≡ false
flag-no n e = simp (eq-eqb n 0 e)

pub flag-yes : (n : ℕ) → (n ≡ 0 → ⊥) → flag_of n ≡ true
flag-yes n h = simp (ne_eqb n 0 h)

pub flag-bit : (p : Bool) → flag_of (bit p) ≡ p
flag-bit true = refl
flag-bit false = refl

-- a flag made a number by the library is its bit
pub byte-bit : (x : Bool) → bool_byte x ≡ bit x
byte-bit true = refl
byte-bit false = refl
