-- A run is known by its bytes: what checks was written from one body of one version, and what follows it is one. Assumes nothing.
use mathlib.Core.Path.{◌≡◌, refl, sym, ap, ◌∙◌}
use mathlib.Core.List.{List, [], ◌∷◌, ◌++◌, append_assoc}
use Prim.Native.Nat.{ℕ, zero, suc, ◌+◌, ◌-◌, ◌*◌, ◌<◌, ◌≤◌}
use native.Mathlib.Omega.{arith}
use lib.ListN.{length, take, drop, replicate, length-take, length-drop, take-append-drop}
use lib.Seq.{take_at, drop_at}
use Rattle.le_bytes.specs.Bytes.{bytes, Bytes}
use Rattle.blocks.specs.Block.{sum_from, headed, filled, block}
use Rattle.blocks.specs.Run.{blocks_from, count_of, run_of, Body}
use Rattle.le_bytes.proofs.Little.{bytes_take, bytes_drop, bytes-bytes, bytes-append}
use Rattle.le_bytes.proofs.Widths.{bytes-encoded}
use Rattle.blocks.proofs.RunBlocks.{blocks-first}
use Rattle.blocks.proofs.Blocks.{Reads, length-block, length-headed, reads-there, reads-used, reads-version, reads-count}

-- ---- blocks are bytes
zeros-bytes : (n : ℕ) → Bytes (replicate n 0)
zeros-bytes zero = tt
zeros-bytes (suc n) = (omega arith, zeros-bytes n)

block-bytes : (v i n : ℕ) (p : List ℕ) → Bytes p → Bytes (block v i n p)
unfolding block filled headed
block-bytes v i n p h =
    bytes-append (filled v i n p) (bytes 4 (sum_from 0 (take 504 (filled v i n p))))
    (bytes-append (headed v i n (length p)) (p ++ replicate (500 - length p) 0) (bytes-encoded (2 ∷ 2 ∷ 2 ∷ 2 ∷ []) (v ∷ i ∷ n ∷ length p ∷ [])) (bytes-append p (replicate (500 - length p) 0) h (zeros-bytes (500 - length p))))
    (bytes-bytes 4 (sum_from 0 (take 504 (filled v i n p))))

-- the part that a block holds
block-part : (v i n : ℕ) (p : List ℕ) → take (length p) (drop 8 (block v i n p)) ≡ p
unfolding block filled
block-part v i n p =
    let hd = headed v i n (length p) in
    let z = replicate {A = ℕ} (500 - length p) 0 in
    let t = bytes 4 (sum_from 0 (take 504 (hd ++ (p ++ z)))) in
    let e : (hd ++ (p ++ z)) ++ t ≡ hd ++ (p ++ (z ++ t)) = simp append_assoc in
    rw (e, drop_at hd (p ++ (z ++ t)) 8 (length-headed v i n (length p)), take_at p (z ++ t) (length p) refl)

-- ---- a block is known by its bytes
module _ (v w i n m : ℕ) (p q : List ℕ) (hp : length p ≤ 496) (hq : length q ≤ 496) (kp : Bytes p) (kq : Bytes q)
    (hv : v < 65536) (hw : w < 65536) (hi : i < 65536) (hn : n < 65536) (hm : m < 65536) (e : block v i n p ≡ block w i m q) where
  read-p : Reads (block v i n p) v i n (length p)
  read-p = reads-there v i n p hp hv hi hn (block-bytes v i n p kp)

  read-q : Reads (block v i n p) w i m (length q)
  read-q = rw e (reads-there w i m q hq hw hi hm (block-bytes w i m q kq))

  pub same_version : v ≡ w
  same_version = sym (reads-version (block v i n p) v i n (length p) read-p) ∙ reads-version (block v i n p) w i m (length q) read-q

  pub same_count : n ≡ m
  same_count = sym (reads-count (block v i n p) v i n (length p) read-p) ∙ reads-count (block v i n p) w i m (length q) read-q

  pub same-part : p ≡ q
  same-part =
      let u : length p ≡ length q = sym (reads-used (block v i n p) v i n (length p) read-p) ∙ reads-used (block v i n p) w i m (length q) read-q in
      sym (block-part v i n p) ∙ ap (λ (k : ℕ). take k (drop 8 (block v i n p))) u ∙ ap (λ (b : List ℕ). take (length q) (drop 8 b)) e ∙ block-part w i m q

-- ---- blocks one after another
blocks-one : (k v n i : ℕ) (b c r t : List ℕ) → length b ≤ 496 * k → length c ≤ 496 * k → Bytes b → Bytes c → v < 65536 → n < 65536 → i + k ≤ 65536
    → blocks_from v n i k b ++ r ≡ blocks_from v n i k c ++ t → (b ≡ c) × (r ≡ t)
unfolding blocks_from
blocks-one zero v n i [] [] r t hb hc kb kc hv hn hi e = (refl, e)
blocks-one zero v n i [] (y ∷ c) r t hb hc kb kc hv hn hi e = absurd (omega arith)
blocks-one zero v n i (x ∷ b) c r t hb hc kb kc hv hn hi e = absurd (omega arith)
blocks-one (suc k) v n i b c r t hb hc kb kc hv hn hi e =
    let x = block v i n (take 496 b) in
    let y = block v i n (take 496 c) in
    let xs = blocks_from v n (i + 1) k (drop 496 b) ++ r in
    let ys = blocks_from v n (i + 1) k (drop 496 c) ++ t in
    let lx : length x ≡ 512 = length-block v i n (take 496 b) (omega (arith, length-take 496 b)) in
    let ly : length y ≡ 512 = length-block v i n (take 496 c) (omega (arith, length-take 496 c)) in
    let f : x ++ xs ≡ y ++ ys = sym (append_assoc x (blocks_from v n (i + 1) k (drop 496 b)) r) ∙ e ∙ append_assoc y (blocks_from v n (i + 1) k (drop 496 c)) t in
    let g : x ≡ y = sym (take_at x xs 512 lx) ∙ ap (λ (z : List ℕ). take 512 z) f ∙ take_at y ys 512 ly in
    let d : xs ≡ ys = sym (drop_at x xs 512 lx) ∙ ap (λ (z : List ℕ). drop 512 z) f ∙ drop_at y ys 512 ly in
    let p = same-part v v i n n (take 496 b) (take 496 c) (omega (arith, length-take 496 b)) (omega (arith, length-take 496 c)) (bytes_take 496 b kb) (bytes_take 496 c kc) hv hv (omega arith) hn hn g in
    let s = blocks-one k v n (i + 1) (drop 496 b) (drop 496 c) r t (omega (arith, length-drop 496 b)) (omega (arith, length-drop 496 c)) (bytes_drop 496 b kb) (bytes_drop 496 c kc) hv hn (omega arith) d in
    (sym (take-append-drop 496 b) ∙ ap (λ (z : List ℕ). z ++ drop 496 b) p ∙ ap (λ (z : List ℕ). take 496 c ++ z) s.0 ∙ take-append-drop 496 c, s.1)

-- ---- a run is known by its bytes, whatever follows it
pub run-one : (v w : ℕ) (b c r t : List ℕ) → Body v b → Body w c → run_of v b ++ r ≡ run_of w c ++ t → (v ≡ w) × (b ≡ c) × (r ≡ t)
unfolding run_of
run-one v w b c r t f g e =
    let n = count_of (length b) in
    let m = count_of (length c) in
    let fs = f.some in
    let fm = f.most in
    let gs = g.some in
    let gm = g.most in
    let x : block v 0 n (take 496 b) ≡ block w 0 m (take 496 c) = sym (blocks-first n v n 0 b r (omega arith)) ∙ ap (λ (z : List ℕ). take 512 z) e ∙ blocks-first m w m 0 c t (omega arith) in
    let lb : length (take 496 b) ≤ 496 = omega (arith, length-take 496 b) in
    let lc : length (take 496 c) ≤ 496 = omega (arith, length-take 496 c) in
    let kb = bytes_take 496 b f.bytes in
    let kc = bytes_take 496 c g.bytes in
    let ev : v ≡ w = same_version v w 0 n m (take 496 b) (take 496 c) lb lc kb kc f.two_bytes g.two_bytes (omega arith) (omega arith) (omega arith) x in
    let en : n ≡ m = same_count v w 0 n m (take 496 b) (take 496 c) lb lc kb kc f.two_bytes g.two_bytes (omega arith) (omega arith) (omega arith) x in
    let h : blocks_from w m 0 m c ++ t ≡ blocks_from v n 0 n c ++ t = ap (λ (z : ℕ). blocks_from z m 0 m c ++ t) (sym ev) ∙ ap (λ (z : ℕ). blocks_from v z 0 z c ++ t) (sym en) in
    let s = blocks-one n v n 0 b c r t (omega arith) (omega (arith, en)) f.bytes g.bytes f.two_bytes (omega arith) (omega arith) (e ∙ h) in
    (ev, s.0, s.1)
