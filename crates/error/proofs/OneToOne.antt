-- A refusal is known by its number, and an answer that is read back from what it tells is known by that. Assumes nothing.
use Prim.Native.Nat.{ℕ}
use mathlib.Core.Path.{◌≡◌, refl, sym, ap, ◌∙◌}
use mathlib.Core.Bool.{false, ◌&&◌, false≢true}
use mathlib.Core.List.{List}
use lib.Dec.{eqb, leb}
use lib.ListN.{get_or}
use borrow.Author.Tests.{eq-eqb}
use Rattle.error.specs.declared.Refusal.{Refusal}
use Rattle.error.specs.declared.Refusal.TheVariants.{Time, Limit, Storage, Unsound, Full, Turn, Damaged, Version, Name}
use Rattle.std.proofs.Common.{if◌then◌else◌, Result, Ok, Err}
use Rattle.error.specs.Told.{Told, tell, number_of, refused, told_by}

abbrev pub named : ℕ → Refusal
named n =
    if eqb n 1 then Time
    else if eqb n 2 then Limit
    else if eqb n 3 then Storage
    else if eqb n 4 then Unsound
    else if eqb n 5 then Full
    else if eqb n 11 then Turn
    else if eqb n 13 then Damaged
    else if eqb n 14 then Version
    else Name

pub named-number : (r : Refusal) → named (number_of r) ≡ r
named-number Time = refl
named-number Limit = refl
named-number Storage = refl
named-number Unsound = refl
named-number Full = refl
named-number Turn = refl
named-number Damaged = refl
named-number Version = refl
named-number Name = refl

-- 0 is the number of no refusal
pub number-not-0 : (r : Refusal) → eqb (number_of r) 0 ≡ false
number-not-0 Time = refl
number-not-0 Limit = refl
number-not-0 Storage = refl
number-not-0 Unsound = refl
number-not-0 Full = refl
number-not-0 Turn = refl
number-not-0 Damaged = refl
number-not-0 Version = refl
number-not-0 Name = refl

-- nor is 6
pub number-not-6 : (r : Refusal) → eqb (number_of r) 6 ≡ false
number-not-6 Time = refl
number-not-6 Limit = refl
number-not-6 Storage = refl
number-not-6 Unsound = refl
number-not-6 Full = refl
number-not-6 Turn = refl
number-not-6 Damaged = refl
number-not-6 Version = refl
number-not-6 Name = refl

pub refused-one : (a b : Refusal) → refused a ≡ refused b → a ≡ b
refused-one a b e = sym (named-number a) ∙ ap (λ (t : Told). named t.number) e ∙ named-number b

-- what is told with 0 is no refusal
pub no-refusal : {A : Type 0} (r : Refusal) (vs : List ℕ) → tell 0 vs ≡ refused r → A
no-refusal r vs e = absurd (false≢true (sym (number-not-0 r) ∙ eq-eqb (number_of r) 0 (sym (ap (λ (t : Told). t.number) e))))

pub no-shed : {A : Type 0} (r : Refusal) (vs : List ℕ) → tell 6 vs ≡ refused r → A
no-shed r vs e = absurd (false≢true (sym (number-not-6 r) ∙ eq-eqb (number_of r) 6 (sym (ap (λ (t : Told). t.number) e))))

-- ---- answers

pub one : {A : Type 0} (told : A → Told) (meant : Told → A) → ((a : A) → meant (told a) ≡ a) → (a b : A) → told a ≡ told b → a ≡ b
one told meant back a b e = sym (back a) ∙ ap meant e ∙ back b

-- reading an answer back: success by the first function, number 6 to 10 by the second, else a refusal
abbrev pub read : {A : Type 0} → (List ℕ → A) → (ℕ → List ℕ → A) → (Refusal → A) → Told → A
read good more refusal t =
    if eqb t.number 0 then good t.values
    else if leb 6 t.number && leb t.number 10 then more t.number t.values
    else refusal (named t.number)

pub read-refused : {A : Type 0} (good : List ℕ → A) (more : ℕ → List ℕ → A) (refusal : Refusal → A) (r : Refusal) → read good more refusal (refused r) ≡ refusal r
read-refused good more refusal Time = refl
read-refused good more refusal Limit = refl
read-refused good more refusal Storage = refl
read-refused good more refusal Unsound = refl
read-refused good more refusal Full = refl
read-refused good more refusal Turn = refl
read-refused good more refusal Damaged = refl
read-refused good more refusal Version = refl
read-refused good more refusal Name = refl

-- a value, or 0 where there is none
abbrev pub at : List ℕ → ℕ → ℕ
at vs i = get_or vs i 0

-- an answer told with 0 and values that are read back, or refused
pub told_by-one : {A : Type 0} (values : A → List ℕ) (meant : List ℕ → A) → ((a : A) → meant (values a) ≡ a) → (x y : Result A Refusal)
    → told_by (λ a. tell 0 (values a)) x ≡ told_by (λ a. tell 0 (values a)) y → x ≡ y
told_by-one {A} values meant back = one (told_by (λ a. tell 0 (values a))) reading again
  where
    reading : Told → Result A Refusal
    reading = read (λ vs. Ok (meant vs)) (λ n vs. Ok (meant vs)) Err

    again : (x : Result A Refusal) → reading (told_by (λ a. tell 0 (values a)) x) ≡ x
    again (Ok a) = ap Ok (back a)
    again (Err r) = read-refused (λ vs. Ok (meant vs)) (λ n vs. Ok (meant vs)) Err r
