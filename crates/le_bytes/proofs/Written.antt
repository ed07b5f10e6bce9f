-- Bytes written over a buffer: one run after another, and where they fit. Assumes nothing.
use mathlib.Core.Path.{◌≡◌, sym, ap, ◌∙◌}
use mathlib.Core.Bool.{false}
use mathlib.Core.List.{List, [], ◌++◌, append_assoc, append-nil}
use Prim.Native.Nat.{ℕ, ◌+◌, ◌*◌, ◌≤◌}
use native.Mathlib.Nat.{add_assoc, add-zero, zero-add, mul-le-mul}
use native.Mathlib.Omega.{arith}
use lib.ListN.{length, take, drop, replicate, length-append, length-drop, take-append-drop, drop_of_length-le}
use lib.Dec.{leb}
use borrow.Author.Tests.{le-leb}
use lib.Seq.{take_at, drop-append-add, drop-drop, length-take-le}
use Rattle.le_bytes.specs.Bytes.{number, decoded, written, put_at, number_at, items_at}

pub length-written : (s : List ℕ) (at : ℕ) (xs : List ℕ) → at + length xs ≤ length s → length (written at xs s) ≡ length s
length-written s at xs h = simp (length-append, length-take-le at s (omega arith), length-drop) (omega arith)

pub written-written : (s : List ℕ) (at : ℕ) (xs ys : List ℕ) → at + length xs ≤ length s → written (at + length xs) ys (written at xs s) ≡ written at (xs ++ ys) s
written-written s at xs ys h =
    let n = at + length xs in
    let P = take at s ++ xs in
    let e : length P ≡ n = simp (length-append, length-take-le at s (omega arith)) in
    let a : written at xs s ≡ P ++ drop n s = sym (append_assoc (take at s) xs (drop n s)) in
    let d : drop (n + length ys) (P ++ drop n s) ≡ drop (n + length ys) s =
    ap (λ (k : ℕ). drop (k + length ys) (P ++ drop n s)) (sym e) ∙ drop-append-add P (drop n s) (length ys) ∙ drop-drop (length ys) n s in
    rw (a, take_at P (drop n s) n e, d, length-append, ← add_assoc, append_assoc, append_assoc)

-- the same where the length is known by another name
pub written_after : (s : List ℕ) (at n : ℕ) (xs ys : List ℕ) → length xs ≡ n → at + n ≤ length s → written (at + n) ys (written at xs s) ≡ written at (xs ++ ys) s
written_after s at n xs ys e h = ap (λ (n : ℕ). written (at + n) ys (written at xs s)) (sym e) ∙ written-written s at xs ys (omega arith)

pub written_from : (s : List ℕ) (n : ℕ) (xs ys : List ℕ) → length xs ≡ n → n ≤ length s → written n ys (written 0 xs s) ≡ written 0 (xs ++ ys) s
written_from s n xs ys e h = ap (λ (k : ℕ). written k ys (written 0 xs s)) (sym (zero-add n)) ∙ written_after s 0 n xs ys e (omega arith)

pub written-nil : (s : List ℕ) (at : ℕ) → s ≡ written at [] s
written-nil s at = rw add-zero (sym (take-append-drop at s))

-- a part that was lent and came back
pub written-mid : (s ys : List ℕ) (a k : ℕ) → length ys ≡ k → take a s ++ (ys ++ drop k (drop a s)) ≡ written a ys s
written-mid s ys a k e = rw (drop-drop, e)

pub written-whole : (s xs : List ℕ) → length xs ≡ length s → written 0 xs s ≡ xs
written-whole s xs e = rw (drop_of_length-le s {i = 0 + length xs} (omega arith)) (append-nil xs)

-- ---- where it fits, and where it doesn't
module _ (at : ℕ) (xs s : List ℕ) where
  pub put_in : at + length xs ≤ length s → written at xs s ≡ put_at at xs s
  put_in h = simp (le-leb (at + length xs) (length s) h)

  pub put-out : leb (at + length xs) (length s) ≡ false → s ≡ put_at at xs s
  put-out e = simp e

module _ (at w : ℕ) (s : List ℕ) where
  pub number_in : w ≤ 8 → at + w ≤ length s → number (take w (drop at s)) ≡ number_at at w s
  number_in l h = simp (le-leb w 8 l, le-leb (at + w) (length s) h)

module _ (at w : ℕ) (xs s : List ℕ) where
  pub items-in : w ≤ 8 → at + length xs * w ≤ length s → decoded (replicate (length xs) w) (drop at s) ≡ items_at at w xs s
  items-in l h = simp (le-leb w 8 l, le-leb (at + length xs * w) (length s) h)

pub width-most : (n w : ℕ) → w ≤ 8 → n * w ≤ n * 8
width-most n w h = mul-le-mul {n₁ = n} {m₁ = w} {n₂ = n} {m₂ = 8} (omega arith) h
