-- Laws of a run: how it is written, and that it is known by its blocks. Assumes nothing.
use Rattle.std.specs.Prelude.{if◌then◌else◌}
use mathlib.Core.Path.{◌≡◌, refl, sym, ap, ◌∙◌}
use mathlib.Core.Bool.{Bool, true, false, ◌&&◌}
use mathlib.Core.List.{List, [], ◌∷◌, ◌++◌, append_assoc, append-nil}
use Prim.Native.Nat.{ℕ, zero, suc, ◌+◌, ◌-◌, ◌*◌, ◌<◌, ◌≤◌, min}
use native.Mathlib.Nat.{zero-add, add-zero}
use native.Mathlib.Omega.{arith}
use lib.ListN.{length, take, drop, length-append, length-take, length-drop, take-append-drop}
use Rattle.std.proofs.lemmas.List.{take_min, drop_min}
use lib.Seq.{take_at, drop_at, take_all, take-append-le, drop-append-le, drop-drop, length-take-le}
use lib.Dec.{ltb, leb, eqb}
use borrow.Author.Tests.{lt-ltb, le-leb, eq-eqb, ltb-true}
use Rattle.std.proofs.Common.{Some, None}
use Rattle.le_bytes.specs.Bytes.{Bytes}
use Rattle.blocks.specs.Block.{block, may_hold, version_in, count_in}
use Rattle.blocks.specs.Run.{blocks_from, count_of, run_of, Body, UsedIn}
use Rattle.le_bytes.proofs.Little.{bytes_take}
use Rattle.blocks.proofs.Blocks.{Reads, length-block, may-some, reads-there, reads-version, reads-count}

-- ---- writing: a turn, with the next chunk of the body
module _ (v n i : ℕ) (rest part more : List ℕ) (e : rest ≡ part ++ more) (l : length part ≡ min 496 (length rest)) where
  chunk : take 496 rest ≡ part
  chunk = sym (take_min 496 rest) ∙ ap (λ (k : ℕ). take k rest) (sym l) ∙ ap (take (length part)) e ∙ take_at part more (length part) refl

  after : drop 496 rest ≡ more
  after = sym (drop_min 496 rest) ∙ ap (λ (k : ℕ). drop k rest) (sym l) ∙ ap (drop (length part)) e ∙ drop_at part more (length part) refl

  pub run-turn : (out blk tail : List ℕ) → i < n → length out ≡ 512 * n → blk ≡ block v i n part
      → take ((i + 1) * 512) (take (i * 512) out ++ (blk ++ tail)) ++ blocks_from v n (i + 1) (n - (i + 1)) more ≡ take (i * 512) out ++ blocks_from v n i (n - i) rest
  unfolding blocks_from
  run-turn out blk tail h m b =
      let k : n - i ≡ suc (n - (i + 1)) = omega arith in
      let p : length blk ≡ 512 = ap length b ∙ length-block v i n part (omega arith) in
      let q : length (take (i * 512) out ++ blk) ≡ (i + 1) * 512 = simp (length-append, length-take-le (i * 512) out (omega arith), p) (omega arith) in
      rw (← append_assoc (take (i * 512) out) blk tail, take_at (take (i * 512) out ++ blk) tail ((i + 1) * 512) q, k, chunk, after, ← b, append_assoc)

pub run_end : (v n i : ℕ) (rest out : List ℕ) → i ≡ n → length out ≡ 512 * n → take (i * 512) out ++ blocks_from v n i (n - i) rest ≡ out
unfolding blocks_from
run_end v n i rest out h l = let k : n - n ≡ zero = omega arith in rw (h, k, append-nil, take_all (n * 512) out (omega arith))

-- ---- reading: the blocks of a run
pub length-blocks : (k v n i : ℕ) (body : List ℕ) → length (blocks_from v n i k body) ≡ 512 * k
unfolding blocks_from
length-blocks zero v n i body = refl
length-blocks (suc k) v n i body =
    let m = length-block v i n (take 496 body) (omega (arith, length-take 496 body)) in
    simp length-append (omega (arith, m, length-blocks k v n (i + 1) (drop 496 body)))

blocks-drop : (j k v n i : ℕ) (body rest : List ℕ) → drop (512 * j) (blocks_from v n i (j + k) body ++ rest) ≡ blocks_from v n (i + j) k (drop (496 * j) body) ++ rest
unfolding blocks_from
blocks-drop zero k v n i body rest = rw (zero-add, add-zero)
blocks-drop (suc j) k v n i body rest =
    let b = block v i n (take 496 body) in
    let more = blocks_from v n (i + 1) (j + k) (drop 496 body) ++ rest in
    let e : suc j + k ≡ suc (j + k) = omega arith in
    let f : 512 * suc j ≡ 512 + 512 * j = omega arith in
    let g : 496 * suc j ≡ 496 + 496 * j = omega arith in
    let m : length b ≡ 512 = length-block v i n (take 496 body) (omega (arith, length-take 496 body)) in
    let w : i + suc j ≡ i + 1 + j = omega arith in
    let d : drop (512 + 512 * j) (b ++ more) ≡ drop (512 * j) more = sym (drop-drop (512 * j) 512 (b ++ more)) ∙ ap (λ (x : List ℕ). drop (512 * j) x) (drop_at b more 512 m) in
    rw (e, f, g, w, append_assoc b (blocks_from v n (i + 1) (j + k) (drop 496 body)) rest, d, ← drop-drop (496 * j) 496 body) (blocks-drop j k v n (i + 1) (drop 496 body) rest)

pub blocks-first : (k v n i : ℕ) (body rest : List ℕ) → 0 < k → take 512 (blocks_from v n i k body ++ rest) ≡ block v i n (take 496 body)
unfolding blocks_from
blocks-first zero v n i body rest h = absurd (omega arith)
blocks-first (suc k) v n i body rest h =
    let m : length (block v i n (take 496 body)) ≡ 512 = length-block v i n (take 496 body) (omega (arith, length-take 496 body)) in
    rw (append_assoc (block v i n (take 496 body)) (blocks_from v n (i + 1) k (drop 496 body)) rest) (take_at (block v i n (take 496 body)) (blocks_from v n (i + 1) k (drop 496 body) ++ rest) 512 m)

-- one block more, behind full ones
pub blocks_more : (i v n j : ℕ) (xs part : List ℕ) → length xs ≡ 496 * i → length part ≤ 496
    → blocks_from v n j (i + 1) (xs ++ part) ≡ blocks_from v n j i xs ++ block v (j + i) n part
unfolding blocks_from
blocks_more zero v n j [] part h l = rw (add-zero, take_all 496 part l, append-nil)
blocks_more zero v n j (x ∷ xs) part h l = absurd (omega arith)
blocks_more (suc i) v n j xs part h l =
    let e : suc i + 1 ≡ suc (i + 1) = omega arith in
    let t : take 496 (xs ++ part) ≡ take 496 xs = take-append-le 496 xs part (omega arith) in
    let d : drop 496 (xs ++ part) ≡ drop 496 xs ++ part = drop-append-le 496 xs part (omega arith) in
    let w : j + suc i ≡ j + 1 + i = omega arith in
    rw (e, t, d, w, blocks_more i v n (j + 1) (drop 496 xs) part (omega (arith, length-drop 496 xs)) l)
    (sym (append_assoc (block v j n (take 496 xs)) (blocks_from v n (j + 1) i (drop 496 xs)) (block v (j + 1 + i) n part)))

-- ---- what a block of a run may hold
pub may-hold : (i n u : ℕ) → i < n → 0 < u → u ≤ 496 → (i + 1 < n → u ≡ 496) → may_hold i n u ≡ true
unfolding may_hold
may-hold i n u h s m f = rw (lt-ltb i n h) (go (ltb (i + 1) n) refl)
  where
    go : (x : Bool) → ltb (i + 1) n ≡ x → (if x then eqb u 496 else ltb 0 u && leb u 496) ≡ true
    go true e = eq-eqb u 496 (f (ltb-true (i + 1) n e))
    go false e = rw (lt-ltb 0 u s, le-leb u 496 m)

-- ---- what a run at the front tells
pub record Told (s : List ℕ) (w m : ℕ) : Type 0 where
  pub some : 0 < m
  pub most : m ≤ 128
  pub long : 512 * m ≤ length s
  pub part : (i : ℕ) → i < m → (p : List ℕ) × (may_hold i m (length p) ≡ true) × (take 512 (drop (512 * i) s) ≡ block w i m p)

pub run-told : (s : List ℕ) (w : ℕ) (body rest : List ℕ) → Body w body → s ≡ run_of w body ++ rest → Told s w (count_of (length body))
unfolding run_of
run-told s w body rest b e =
    let m = count_of (length body) in
    let h0 = b.some in
    let h1 = b.most in
    let l : length s ≡ 512 * m + length rest = ap length e ∙ length-append (blocks_from w m 0 m body) rest ∙ ap (λ (x : ℕ). x + length rest) (length-blocks m w m 0 body) in
    record { some = omega arith; most = omega arith; long = omega arith; part = λ i h. (take 496 (drop (496 * i) body), holds i h, stands i h) }
  where
    holds : (i : ℕ) → i < count_of (length body) → may_hold i (count_of (length body)) (length (take 496 (drop (496 * i) body))) ≡ true
    holds i h =
        let h0 = b.some in
        let u = length-take 496 (drop (496 * i) body) in
        let d = length-drop (496 * i) body in
        may-hold i (count_of (length body)) (length (take 496 (drop (496 * i) body))) h (omega arith) (omega arith) (λ q. omega arith)

    stands : (i : ℕ) → i < count_of (length body) → take 512 (drop (512 * i) s) ≡ block w i (count_of (length body)) (take 496 (drop (496 * i) body))
    stands i h =
        let n = count_of (length body) in
        let k = n - i in
        let q : n ≡ i + k = omega arith in
        let f : drop (512 * i) s ≡ blocks_from w n i k (drop (496 * i) body) ++ rest =
        ap (drop (512 * i)) e
        ∙ ap (λ (x : ℕ). drop (512 * i) (blocks_from w n 0 x body ++ rest)) q
        ∙ blocks-drop i k w n 0 body rest
        ∙ ap (λ (x : ℕ). blocks_from w n x k (drop (496 * i) body) ++ rest) (zero-add i) in
        ap (take 512) f ∙ blocks-first k w n i (drop (496 * i) body) rest (omega arith)

-- the header of the first block
pub told-header : (s : List ℕ) (w m : ℕ) → Bytes s → w < 65536 → Told s w m → (version_in (take 512 s) ≡ w) × (count_in (take 512 s) ≡ m)
told-header s w m k h t = go (t.part 0 t.some)
  where
    go : (p : List ℕ) × (may_hold 0 m (length p) ≡ true) × (take 512 s ≡ block w 0 m p) → (version_in (take 512 s) ≡ w) × (count_in (take 512 s) ≡ m)
    go (p, y, f) =
        let l = t.most in
        let q : Bytes (block w 0 m p) = rw f at (bytes_take 512 s k) in
        let r : Reads (block w 0 m p) w 0 m (length p) = reads-there w 0 m p (may-some 0 m (length p) y).2 h (omega arith) (omega arith) q in
        rw f (reads-version (block w 0 m p) w 0 m (length p) r, reads-count (block w 0 m p) w 0 m (length p) r)

-- a block that is none of the run's
pub told-not : (s : List ℕ) (w m v n i : ℕ) → Told s w m → w ≡ v → m ≡ n → i < n → UsedIn (take 512 (drop (512 * i) s)) v i n None → ⊥
told-not s w m v n i t ev en h x = go (t.part i (omega arith))
  where
    go : (p : List ℕ) × (may_hold i m (length p) ≡ true) × (take 512 (drop (512 * i) s) ≡ block w i m p) → ⊥
    go (p, y, e) = x p (rw en at y) (rw (ev, en) at e)

-- ---- a turn of the reading loop
pub run_more : (s xs p : List ℕ) (v n i : ℕ) → length xs ≡ 496 * i → length p ≤ 496 → take 512 (drop (512 * i) s) ≡ block v i n p
    → s ≡ blocks_from v n 0 i xs ++ drop (512 * i) s → s ≡ blocks_from v n 0 (i + 1) (xs ++ p) ++ drop (512 * (i + 1)) s
run_more s xs p v n i h l e inv =
    let j : 512 * i + 512 ≡ 512 * (i + 1) = omega arith in
    let b : drop (512 * i) s ≡ block v i n p ++ drop (512 * (i + 1)) s = sym (take-append-drop 512 (drop (512 * i) s)) ∙ ap (λ (x : List ℕ). x ++ drop 512 (drop (512 * i) s)) e ∙ ap (λ (x : List ℕ). block v i n p ++ x) (drop-drop 512 (512 * i) s ∙ ap (λ (x : ℕ). drop x s) j) in
    let g : blocks_from v n 0 (i + 1) (xs ++ p) ≡ blocks_from v n 0 i xs ++ block v i n p = blocks_more i v n 0 xs p h l ∙ ap (λ (x : ℕ). blocks_from v n 0 i xs ++ block v x n p) (zero-add i) in
    inv
    ∙ ap (λ (x : List ℕ). blocks_from v n 0 i xs ++ x) b
    ∙ sym (append_assoc (blocks_from v n 0 i xs) (block v i n p) (drop (512 * (i + 1)) s))
    ∙ ap (λ (x : List ℕ). x ++ drop (512 * (i + 1)) s) (sym g)

pub run-whole : (s xs : List ℕ) (v n i : ℕ) → i ≡ n → count_of (length xs) ≡ n → s ≡ blocks_from v n 0 i xs ++ drop (512 * i) s → s ≡ run_of v xs ++ drop (512 * n) s
unfolding run_of
run-whole s xs v n i h c e = rw c (rw h at e)

pub run_none : (s xs : List ℕ) (v n : ℕ) → s ≡ blocks_from v n 0 0 (take 0 xs) ++ drop (512 * 0) s
unfolding blocks_from
run_none s xs v n = refl

-- the part of a block that was checked
pub part-facts : (b : List ℕ) (v i n u : ℕ) → length b ≡ 512 → u ≤ 496 → UsedIn b v i n (Some u)
    → let p = take u (drop 8 b) in (length p ≡ u) × (b ≡ block v i n p) × (0 < u) × (i + 1 < n → u ≡ 496)
part-facts b v i n u l m x =
    let e : length (take u (drop 8 b)) ≡ u = length-take-le u (drop 8 b) (omega (arith, length-drop 8 b)) in
    let f = may-some i n (length (take u (drop 8 b))) x.1 in
    (e, x.0, omega arith, λ q. sym e ∙ f.3 q)
