-- A test of every block, and the blocks of bytes one by one. Assumes nothing.
use mathlib.Core.Path.{◌≡◌, refl, sym, ap, ◌∙◌}
use mathlib.Core.Bool.{Bool, true, ◌&&◌}
use mathlib.Core.List.{List}
use Prim.Native.Nat.{ℕ, zero, suc, ◌+◌, ◌*◌, ◌<◌, ◌≤◌}
use native.Mathlib.Omega.{arith}
use lib.ListN.{length, take, drop, get_or}
use lib.Seq.{drop-drop, length-take-le, get_or-take}
use Rattle.error.proofs.Choice.{and_split}
use Rattle.std.specs.List.{list_all}
use Rattle.std.specs.Simd.{first_chunks}
use Rattle.blocks.specs.Run.{every}

pub every-each : (p : List ℕ → Bool) (k : ℕ) (s : List ℕ) → list_all p (first_chunks 512 k s) ≡ every p k s
unfolding every
every-each p zero s = refl
every-each p (suc k) s = ap (λ (x : Bool). p (take 512 s) && x) (every-each p k (drop 512 s))

-- every block, one of them
pub every-at : (p : List ℕ → Bool) (k i : ℕ) (s : List ℕ) → every p k s ≡ true → i < k → p (take 512 (drop (512 * i) s)) ≡ true
unfolding every
every-at p zero i s e h = absurd (omega arith)
every-at p (suc k) zero s e h = (and_split (p (take 512 s)) (every p k (drop 512 s)) e).0
every-at p (suc k) (suc i) s e h =
    let f : 512 * suc i ≡ 512 + 512 * i = omega arith in
    ap (λ (x : ℕ). p (take 512 (drop x s))) f
    ∙ ap (λ (x : List ℕ). p (take 512 x)) (sym (drop-drop (512 * i) 512 s))
    ∙ every-at p k i (drop 512 s) (and_split (p (take 512 s)) (every p k (drop 512 s)) e).1 (omega arith)

-- ---- the blocks, one of them
pub chunks-length : (k : ℕ) (s : List ℕ) → length (first_chunks 512 k s) ≡ k
chunks-length zero s = refl
chunks-length (suc k) s = ap suc (chunks-length k (drop 512 s))

pub chunk-at : (k i : ℕ) (s d : List ℕ) → i < k → get_or (first_chunks 512 k s) i d ≡ take 512 (drop (512 * i) s)
chunk-at zero i s d h = absurd (omega arith)
chunk-at (suc k) zero s d h = refl
chunk-at (suc k) (suc i) s d h =
    let f : 512 * suc i ≡ 512 + 512 * i = omega arith in
    chunk-at k i (drop 512 s) d (omega arith) ∙ ap (take 512) (drop-drop (512 * i) 512 s ∙ ap (λ (x : ℕ). drop x s) (sym f))

pub blocks-length : (k : ℕ) (s : List ℕ) (bs : List (List ℕ)) → bs ≡ first_chunks 512 k s → length bs ≡ k
blocks-length k s bs e = ap length e ∙ chunks-length k s

-- the first n of them
pub run-length : (n k : ℕ) (s : List ℕ) (bs : List (List ℕ)) → bs ≡ first_chunks 512 k s → n ≤ k → length (take n bs) ≡ n
run-length n k s bs e h = length-take-le n bs (omega (arith, blocks-length k s bs e))

pub run-at : (n k i : ℕ) (s d : List ℕ) (bs : List (List ℕ)) → bs ≡ first_chunks 512 k s → n ≤ k → i < n → get_or (take n bs) i d ≡ take 512 (drop (512 * i) s)
run-at n k i s d bs e h l = get_or-take n bs i d l ∙ ap (λ (x : List (List ℕ)). get_or x i d) e ∙ chunk-at k i s d (omega arith)
