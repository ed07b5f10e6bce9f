-- Names as numbers: equal where their bytes are. Assumes nothing.
use mathlib.Core.Path.{◌≡◌, refl, sym, ap, ◌∙◌}
use mathlib.Core.Bool.{Bool, true, false, ◌&&◌, false≢true}
use mathlib.Core.List.{List, [], ◌∷◌}
use Prim.Native.Nat.{ℕ, ◌%◌, ◌≤◌}
use native.Mathlib.Omega.{arith}
use Rattle.std.proofs.lemmas.Bool.{false_from_ne_true}
use lib.Dec.{eqb, ltb, leb}
use lib.ListN.{length}
use lib.Seq.{take_all}
use borrow.Author.Tests.{eqb-true, eqb-false, eq-eqb, ltb-true, leb-true}
use Rattle.error.proofs.Choice.{and_split}
use Rattle.history.specs.Items.{all_below}
use Rattle.le_bytes.specs.Bytes.{bytes, number, number_at, Bytes}
use Rattle.le_bytes.proofs.Little.{bytes-number}
use Rattle.le_bytes.proofs.Written.{number_in}
use Rattle.body.specs.Save.{is_name}
use Rattle.body.proofs.Saves.{name-eight, name-ascii}
use Rattle.saves.specs.Buffer.{same_bytes, framed}
use Rattle.saves.specs.Look.{is_asked}
use Rattle.std.proofs.Common.{Option, Some, None}
use Rattle.std.specs.Option.{is_some, IfSome}

-- ---- equal bytes
pub same_self : (xs : List ℕ) → same_bytes xs xs ≡ true
unfolding same_bytes
same_self [] = refl
same_self (x ∷ xs) = simp (eq-eqb x x refl, same_self xs)

pub same-is : (xs ys : List ℕ) → same_bytes xs ys ≡ true → xs ≡ ys
unfolding same_bytes
same-is [] [] e = refl
same-is [] (y ∷ ys) e = absurd (false≢true e)
same-is (x ∷ xs) [] e = absurd (false≢true e)
same-is (x ∷ xs) (y ∷ ys) e =
    let p = and_split (eqb x y) (same_bytes xs ys) e in
    let a : x ≡ y = eqb-true x y p.0 in
    let b : xs ≡ ys = same-is xs ys p.1 in
    rw (a, b)

pub same_not : (xs ys : List ℕ) → (xs ≡ ys → ⊥) → same_bytes xs ys ≡ false
same_not xs ys n = false_from_ne_true (same_bytes xs ys) (λ e. n (same-is xs ys e))

pub bytes_below : (b : ℕ) (xs : List ℕ) → b ≤ 256 → all_below b xs ≡ true → Bytes xs
unfolding all_below
bytes_below b [] h e = tt
bytes_below b (x ∷ xs) h e = let p = and_split (ltb x b) (all_below b xs) e in (omega (arith, ltb-true x b p.0), bytes_below b xs h p.1)

pub number-one : (xs ys : List ℕ) → length xs ≡ length ys → Bytes xs → Bytes ys → number xs ≡ number ys → xs ≡ ys
number-one xs ys l p q e = sym (bytes-number xs p) ∙ ap (λ (n : ℕ). bytes (length xs) n) e ∙ ap (λ (n : ℕ). bytes n (number ys)) l ∙ bytes-number ys q

-- ---- names
module _ (n m : List ℕ) (p : is_name n ≡ true) (q : is_name m ≡ true) where
  names-one : number n ≡ number m → n ≡ m
  names-one = number-one n m (name-eight n p ∙ sym (name-eight m q)) (bytes_below 128 n (omega arith) (name-ascii n p)) (bytes_below 128 m (omega arith) (name-ascii m q))

  pub names_same : eqb (number n) (number m) ≡ same_bytes n m
  names_same = go (eqb (number n) (number m)) refl
    where
      go : (b : Bool) → eqb (number n) (number m) ≡ b → b ≡ same_bytes n m
      go true e = sym (ap (λ (x : List ℕ). same_bytes n x) (sym (names-one (eqb-true (number n) (number m) e))) ∙ same_self n)
      go false e = sym (same_not n m (λ x. absurd (eqb-false (number n) (number m) e (ap number x))))

-- ---- the asked name
module _ (name n : List ℕ) (q : is_name n ≡ true) where
  pub asked_is : is_name name ≡ true → (a : ℕ) → a ≡ number_at 0 8 name → eqb a (number n) ≡ same_bytes name n
  asked_is p a e =
      let l = name-eight name p in
      let d : a ≡ number name = e ∙ sym (number_in 0 8 name (omega arith) (omega arith)) ∙ ap number (take_all 8 name (omega arith)) in
      ap (λ (x : ℕ). eqb x (number n)) d ∙ names_same name n p q

  pub asked_by : (r : Option ℕ) → is_some r ≡ is_name name → IfSome r (λ a. a ≡ number_at 0 8 name) → is_asked r (number n) ≡ same_bytes name n
  asked_by None v s = sym (same_not name n (λ e. absurd (false≢true (v ∙ ap is_name e ∙ q))))
  asked_by (Some a) v s = asked_is (sym v) a s

-- ---- the frame
module _ (size used : ℕ) where
  pub framed→ : framed size used ≡ true → (size ≤ 65536) × (used ≤ size) × (used % 512 ≡ 0)
  unfolding framed
  framed→ e =
      let a = and_split (leb size 65536) (leb used size && (eqb (size % 512) 0 && eqb (used % 512) 0)) e in
      let b = and_split (leb used size) (eqb (size % 512) 0 && eqb (used % 512) 0) a.1 in
      let c = and_split (eqb (size % 512) 0) (eqb (used % 512) 0) b.1 in
      (leb-true size 65536 a.0, leb-true used size b.0, eqb-true (used % 512) 0 c.1)
