-- The body bytes of blocks, joined: their length, one block more, a part of them. Assumes nothing.
use mathlib.Core.Path.{◌≡◌, refl, sym, ap, ◌∙◌}
use mathlib.Core.List.{List, ◌++◌, append_assoc, append-nil}
use Prim.Native.Nat.{ℕ, zero, suc, ◌+◌, ◌-◌, ◌*◌, ◌<◌, ◌≤◌}
use native.Mathlib.Nat.{zero-add}
use native.Mathlib.Omega.{arith}
use lib.ListN.{length, take, drop, length-append, length-drop, take-append-drop, drop_of_length-le}
use borrow.Author.Tests.{le-leb}
use Rattle.std.proofs.lemmas.List.{drop-take}
use lib.Seq.{take-length, take_at, take_all, drop_at, take-take, take-append-le, take-append-add, drop-drop, length-take-le}
use Rattle.le_bytes.specs.Bytes.{Bytes, written}
use Rattle.le_bytes.proofs.Little.{bytes-append, bytes_take, bytes_drop}
use Rattle.le_bytes.proofs.Written.{put_in}
use Rattle.blocks.specs.Run.{count_of, run_of, Body, joined, body_in, put_run, put_body, Finds}
use Rattle.std.proofs.Common.{Some}
use Rattle.blocks.proofs.RunBlocks.{length-blocks}

pub length-joined : (k : ℕ) (bs : List ℕ) → 512 * k ≤ length bs → length (joined k bs) ≡ 496 * k
unfolding joined
length-joined zero bs h = refl
length-joined (suc k) bs h =
    let d : length (drop 512 bs) ≡ length bs - 512 = length-drop 512 bs in
    let a : length (take 496 (drop 8 bs)) ≡ 496 = length-take-le 496 (drop 8 bs) (omega (arith, length-drop 8 bs)) in
    simp length-append (omega (arith, a, length-joined k (drop 512 bs) (omega arith)))

pub bytes-joined : (k : ℕ) (bs : List ℕ) → Bytes bs → Bytes (joined k bs)
unfolding joined
bytes-joined zero bs h = tt
bytes-joined (suc k) bs h = bytes-append (take 496 (drop 8 bs)) (joined k (drop 512 bs)) (bytes_take 496 (drop 8 bs) (bytes_drop 8 bs h)) (bytes-joined k (drop 512 bs) (bytes_drop 512 bs h))

pub joined-split : (j k : ℕ) (bs : List ℕ) → joined (j + k) bs ≡ joined j bs ++ joined k (drop (512 * j) bs)
unfolding joined
joined-split zero k bs = rw zero-add
joined-split (suc j) k bs =
    let e : suc j + k ≡ suc (j + k) = omega arith in
    let f : 512 * suc j ≡ 512 + 512 * j = omega arith in
    rw (e, f, joined-split j k (drop 512 bs), drop-drop (512 * j) 512 bs) (sym (append_assoc (take 496 (drop 8 bs)) (joined j (drop 512 bs)) (joined k (drop (512 + 512 * j) bs))))

pub joined-drop : (j k : ℕ) (bs : List ℕ) → 512 * j ≤ length bs → drop (496 * j) (joined (j + k) bs) ≡ joined k (drop (512 * j) bs)
joined-drop j k bs h = rw (joined-split j k bs) (drop_at (joined j bs) (joined k (drop (512 * j) bs)) (496 * j) (length-joined j bs h))

joined-one : (bs : List ℕ) → joined 1 bs ≡ take 496 (drop 8 bs)
unfolding joined
joined-one bs = append-nil (take 496 (drop 8 bs))

joined-first : (m : ℕ) (bs : List ℕ) → joined (suc m) bs ≡ take 496 (drop 8 bs) ++ joined m (drop 512 bs)
unfolding joined
joined-first m bs = refl

-- a part of a block's body
pub part_of : (bs : List ℕ) (i d : ℕ) → 512 * (i + 1) ≤ length bs → d ≤ 496 → take d (drop 8 (take 512 (drop (512 * i) bs))) ≡ take d (drop 8 (drop (512 * i) bs))
part_of bs i d h l =
    let y = drop (512 * i) bs in
    ap (take d) (drop-take 8 504 y) ∙ take-take d 504 (drop 8 y) (omega arith)

-- ---- one block more
pub joined-more : (bs : List ℕ) (i used : ℕ) → 512 * (i + 1) ≤ length bs → used ≤ 496
    → take (496 * i + used) (joined (i + 1) bs) ≡ take (496 * i) (joined i bs) ++ take used (drop 8 (take 512 (drop (512 * i) bs)))
joined-more bs i used h l =
    let a = joined i bs in
    let y = drop (512 * i) bs in
    let k : length a ≡ 496 * i = length-joined i bs (omega arith) in
    let n : length y ≡ length bs - 512 * i = length-drop (512 * i) bs in
    let e : take (496 * i + used) (joined (i + 1) bs) ≡ a ++ take used (joined 1 y) =
    ap (λ (x : List ℕ). take (496 * i + used) x) (joined-split i 1 bs) ∙ ap (λ (x : ℕ). take (x + used) (a ++ joined 1 y)) (sym k) ∙ take-append-add a (joined 1 y) used in
    let f : take used (joined 1 y) ≡ take used (drop 8 y) = ap (λ (x : List ℕ). take used x) (joined-one y) ∙ take-take used 496 (drop 8 y) l in
    let t = part_of bs i used h l in
    let w : take (496 * i) a ≡ a = ap (λ (x : ℕ). take x a) (sym k) ∙ take_whole a in
    e ∙ ap (λ (x : List ℕ). a ++ x) (f ∙ sym t) ∙ ap (λ (x : List ℕ). x ++ take used (drop 8 (take 512 y))) (sym w)
  where
    take_whole : (s : List ℕ) → take (length s) s ≡ s
    take_whole s = take-length s

-- ---- a part of the body
pub body-part : (bs : List ℕ) (size i d : ℕ) → i * 496 < size → 512 * count_of size ≤ length bs → d ≤ 496 → i * 496 + d ≤ size
    → take d (drop 8 (take 512 (drop (512 * i) bs))) ≡ take d (drop (i * 496) (body_in size bs))
body-part bs size i d h l m o =
    let n = count_of size in
    let k = n - (i + 1) in
    let a = 496 * i in
    let r = size - a in
    let y = drop (512 * i) bs in
    let ea : i * 496 ≡ a = omega arith in
    let en : n ≡ i + suc k = omega arith in
    let es : size ≡ a + r = omega arith in
    let lx : length (joined n bs) ≡ 496 * n = length-joined n bs l in
    let ly : length y ≡ length bs - 512 * i = length-drop (512 * i) bs in
    let la : length (take 496 (drop 8 y)) ≡ 496 = length-take-le 496 (drop 8 y) (omega (arith, length-drop 8 y)) in
    let u : drop a (take size (joined n bs)) ≡ take r (drop a (joined n bs)) = ap (λ (x : ℕ). drop a (take x (joined n bs))) es ∙ drop-take a r (joined n bs) in
    let v : drop a (joined n bs) ≡ take 496 (drop 8 y) ++ joined k (drop 512 y) = ap (λ (x : ℕ). drop a (joined x bs)) en ∙ joined-drop i (suc k) bs (omega arith) ∙ joined-first k y in
    let w : take d (drop a (take size (joined n bs))) ≡ take d (drop 8 y) =
    ap (take d) u
    ∙ take-take d r (drop a (joined n bs)) (omega arith)
    ∙ ap (take d) v
    ∙ take-append-le d (take 496 (drop 8 y)) (joined k (drop 512 y)) (omega arith)
    ∙ take-take d 496 (drop 8 y) m in
    rw ea (part_of bs i d (omega arith) m ∙ sym w)

pub length-body : (bs : List ℕ) (size : ℕ) → 512 * count_of size ≤ length bs → length (body_in size bs) ≡ size
length-body bs size l = length-take-le size (joined (count_of size) bs) (omega (arith, length-joined (count_of size) bs l))

-- ---- a turn of the joining loop
pub join-turn : (body out part tail : List ℕ) (at end : ℕ) → at ≤ end → end ≤ length body → length out ≡ length body → part ≡ take (end - at) (drop at body)
    → take end (take at out ++ (part ++ tail)) ++ drop end body ≡ take at out ++ drop at body
join-turn body out part tail at end h l m e =
    let d = end - at in
    let lp : length part ≡ d = ap length e ∙ length-take-le d (drop at body) (omega (arith, length-drop at body)) in
    let en : end ≡ at + d = omega arith in
    let q : length (take at out ++ part) ≡ end = simp (length-append, length-take-le at out (omega arith), lp) (omega arith) in
    let r : drop end body ≡ drop d (drop at body) = ap (λ (x : ℕ). drop x body) en ∙ sym (drop-drop d at body) in
    rw (← append_assoc (take at out) part tail, take_at (take at out ++ part) tail end q, append_assoc, r, e, take-append-drop)

pub join-end : (body out : List ℕ) (at : ℕ) → length body ≤ at → length out ≡ length body → take at out ++ drop at body ≡ out
join-end body out at h l = rw (drop_of_length-le body {i = at} h, append-nil, take_all at out (omega arith))

-- ---- a run and a body over a buffer, where they fit
pub length_run : (v : ℕ) (body : List ℕ) → length (run_of v body) ≡ 512 * count_of (length body)
unfolding run_of
length_run v body = length-blocks (count_of (length body)) v (count_of (length body)) 0 body

module _ (at v : ℕ) (body s : List ℕ) where
  pub run_in : length body ≤ 63488 → at + 512 * count_of (length body) ≤ length s → written at (run_of v body) s ≡ put_run at v body s
  run_in h l = simp (le-leb (length body) 63488 h) (put_in at (run_of v body) s (omega (arith, length_run v body)))

module _ (size : ℕ) (bs s : List ℕ) where
  pub body-in : size ≤ 63488 → size ≤ length s → 512 * count_of size ≤ length bs → written 0 (body_in size bs) s ≡ put_body size bs s
  body-in h l m = simp (le-leb size 63488 h, le-leb size (length s) l, le-leb (512 * count_of size) (length bs) m)

-- what was walked whole is found
pub finds-run : (s : List ℕ) (v n size : ℕ) → n ≡ count_of size → Body v (take size (joined n s)) → length (take size (joined n s)) ≡ size
    → s ≡ run_of v (take size (joined n s)) ++ drop (512 * n) s → Finds s (Some (record { version = v; size = size }))
finds-run s v n size e b l w = (rw e at b, rw e at l, rw e at w)
