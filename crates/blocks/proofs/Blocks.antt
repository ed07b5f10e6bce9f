-- Laws of a block: the sum of its bytes, what it holds, and that it is known by what is read of it. Assumes nothing.
use Rattle.std.specs.Prelude.{if◌then◌else◌}
use mathlib.Core.Path.{◌≡◌, refl, sym, ap, ◌∙◌}
use mathlib.Core.Bool.{Bool, true, false, ◌&&◌, false≢true}
use mathlib.Core.List.{List, [], ◌∷◌, ◌++◌, append_assoc}
use Prim.Native.Nat.{ℕ, zero, suc, ◌+◌, ◌-◌, ◌*◌, ◌^◌, ◌<◌, ◌≤◌}
use native.Mathlib.Nat.{mul-le-mul}
use native.Mathlib.Omega.{arith}
use lib.ListN.{length, get_or, take, drop, replicate, length-append, length-replicate, length-drop, take-append-drop, drop_of_length-le}
use lib.Seq.{take_at, drop_at, take_all, take-take, take-append-le, drop-drop, length-take-le, take-add}
use lib.Dec.{ltb, leb, eqb}
use borrow.Author.Tests.{ltb-true, ltb-false, leb-true, eqb-true}
use Rattle.std.proofs.Common.{Some, None}
use Rattle.std.specs.List.{list_all}
use Rattle.le_bytes.specs.Bytes.{bytes, number, encoded, decoded, Bytes, room}
use Rattle.le_bytes.specs.Bytes.{written, put_at}
use Rattle.error.proofs.Choice.{and_split}
use Rattle.blocks.specs.Block.{sum_from, headed, filled, block, may_hold, zeros, summed, version_in, index_in, count_in, used_in}
use Rattle.blocks.specs.Run.{UsedIn}
use Rattle.le_bytes.proofs.Little.{front, length-bytes, bytes-number, number-bytes, bytes_take, bytes_drop}
use Rattle.le_bytes.proofs.Written.{put_in, written_after, written_from, written-mid, written-whole, length-written}
use Rattle.le_bytes.proofs.Widths.{decoded-encoded, encoded-decoded}

-- ---- the sum
-- a term is at most 255 * 504
pub term : (b p : ℕ) → b < 256 → p < 504 → b * (p + 1) ≤ 128520
term b p h l = mul-le-mul {n₁ = b} {m₁ = p + 1} {n₂ = 255} {m₂ = 504} (omega arith) (omega arith)

pub sum-turn : (s : List ℕ) (i : ℕ) → i < length s → sum_from i (drop i s) ≡ get_or s i 0 * (i + 1) + sum_from (i + 1) (drop (i + 1) s)
unfolding sum_from
sum-turn s i h = rw (front s i h)

pub sum-end : (s : List ℕ) (i : ℕ) → length s ≤ i → sum_from i (drop i s) ≡ 0
unfolding sum_from
sum-end s i h = rw (drop_of_length-le s {i = i} h)

-- ---- a number of two bytes
pub number-two : (s : List ℕ) (at : ℕ) → at + 2 ≤ length s → number (take 2 (drop at s)) ≡ get_or s at 0 + get_or s (at + 1) 0 * 256
unfolding number
number-two s at h = rw (front s at (omega arith), front s (at + 1) (omega arith)) (omega arith)

-- ---- zeros
pub zeros-all : (s : List ℕ) → zeros s ≡ true → s ≡ replicate (length s) 0
unfolding zeros
zeros-all [] e = refl
zeros-all (b ∷ bs) e =
    let a = and_split (eqb b 0) (zeros bs) e in
    let z : b ≡ 0 = eqb-true b 0 a.0 in
    rw z (ap (λ (t : List ℕ). 0 ∷ t) (zeros-all bs a.1))

pub all-zeros : (n : ℕ) → zeros (replicate n 0) ≡ true
unfolding zeros
all-zeros zero = refl
all-zeros (suc n) = all-zeros n

-- every byte is 0
pub zeros-each : (s : List ℕ) → zeros s ≡ list_all (λ b. eqb b 0) s
unfolding zeros
zeros-each [] = refl
zeros-each (b ∷ bs) = ap (λ (t : Bool). eqb b 0 && t) (zeros-each bs)

-- ---- what a block may hold
pub may-some : (i n u : ℕ) → may_hold i n u ≡ true → (i < n) × (0 < u) × (u ≤ 496) × (i + 1 < n → u ≡ 496)
unfolding may_hold
may-some i n u e = go (ltb i n) (ltb (i + 1) n) (eqb u 496) (ltb 0 u) (leb u 496) refl refl refl refl refl e
  where
    go : (x y z v w : Bool) → ltb i n ≡ x → ltb (i + 1) n ≡ y → eqb u 496 ≡ z → ltb 0 u ≡ v → leb u 496 ≡ w
        → (x && (if y then z else v && w)) ≡ true → (i < n) × (0 < u) × (u ≤ 496) × (i + 1 < n → u ≡ 496)
    go true true true v w a b c d f e = let q = eqb-true u 496 c in (ltb-true i n a, omega arith, omega arith, λ _. q)
    go true true false v w a b c d f e = absurd (false≢true e)
    go true false z true true a b c d f e = (ltb-true i n a, ltb-true 0 u d, leb-true u 496 f, λ h. absurd (omega (arith, ltb-false (i + 1) n b)))
    go true false z true false a b c d f e = absurd (false≢true e)
    go true false z false w a b c d f e = absurd (false≢true e)
    go false y z v w a b c d f e = absurd (false≢true e)

-- ---- how a block is written
pub length-headed : (v i n u : ℕ) → length (headed v i n u) ≡ 8
unfolding headed encoded
length-headed v i n u = simp (length-append, length-bytes)

pub length-filled : (v i n : ℕ) (part : List ℕ) → length part ≤ 496 → length (filled v i n part) ≡ 508
unfolding filled
length-filled v i n part h = simp (length-append, length-headed, length-replicate) (omega arith)

pub length-block : (v i n : ℕ) (part : List ℕ) → length part ≤ 496 → length (block v i n part) ≡ 512
unfolding block
length-block v i n part h = simp (length-append, length-bytes, length-filled v i n part h)

module _ (out part : List ℕ) (v i n : ℕ) (l : length out ≡ 512) (h : length part ≤ 496) where
  -- header, part and zeros
  pub filled-by : (a b z : List ℕ) → a ≡ written 0 (headed v i n (length part)) out → b ≡ written 8 part a
      → z ≡ replicate (length (take (508 - (8 + length part)) (drop (8 + length part) b))) 0
      → take (8 + length part) b ++ (z ++ drop (508 - (8 + length part)) (drop (8 + length part) b)) ≡ written 0 (filled v i n part) out
  unfolding filled
  filled-by a b z p q r =
      let u = length part in
      let hd = headed v i n u in
      let k = length-headed v i n u in
      let e : b ≡ written 0 (hd ++ part) out = rw (q, p) (written_after out 0 8 hd part k (omega arith)) in
      let m : length (hd ++ part) ≡ 8 + u = simp (length-append, k) in
      let lb : length b ≡ 512 = rw e (length-written out 0 (hd ++ part) (omega arith) ∙ l) in
      let t : length (take (508 - (8 + u)) (drop (8 + u) b)) ≡ 500 - u = length-take-le (508 - (8 + u)) (drop (8 + u) b) (omega (arith, length-drop (8 + u) b)) ∙ (omega arith) in
      let y : z ≡ replicate (500 - u) 0 = r ∙ ap (λ (n : ℕ). replicate n 0) t in
      let w : length z ≡ 508 - (8 + u) = ap length y ∙ length-replicate (500 - u) 0 ∙ (omega arith) in
      written-mid b z (8 + u) (508 - (8 + u)) w
      ∙ ap (λ (x : List ℕ). written (8 + u) z x) e
      ∙ ap (λ (x : List ℕ). written (8 + u) x (written 0 (hd ++ part) out)) y
      ∙ written_from out (8 + u) (hd ++ part) (replicate (500 - u) 0) m (omega arith)
      ∙ ap (λ (x : List ℕ). written 0 x out) (append_assoc hd part (replicate (500 - u) 0))

  -- the copy and the sum, where they fit
  pub copied : (a b : List ℕ) → a ≡ written 0 (headed v i n (length part)) out → b ≡ put_at 8 part a → b ≡ written 8 part a
  copied a b p q =
      let k = length-headed v i n (length part) in
      q ∙ sym (put_in 8 part a (omega (arith, ap length p, length-written out 0 (headed v i n (length part)) (omega arith))))

  pub sum-put : (d e : List ℕ) (sum : ℕ) → d ≡ written 0 (filled v i n part) out → e ≡ put_at 508 (bytes 4 sum) d → e ≡ written 508 (bytes 4 sum) d
  sum-put d e sum p q =
      let k = length-filled v i n part h in
      q ∙ sym (put_in 508 (bytes 4 sum) d (omega (arith, length-bytes 4 sum, ap length p, length-written out 0 (filled v i n part) (omega arith))))

  pub summed-over : take 504 (written 0 (filled v i n part) out) ≡ take 504 (filled v i n part)
  summed-over = take-append-le 504 (filled v i n part) (drop (0 + length (filled v i n part)) out) (omega (arith, length-filled v i n part h))

  -- and the sum
  pub block-by : (d e : List ℕ) (sum : ℕ) → d ≡ written 0 (filled v i n part) out → sum ≡ sum_from 0 (take 504 d) → e ≡ written 508 (bytes 4 sum) d → e ≡ block v i n part
  unfolding block
  block-by d e sum p q r =
      let k = length-filled v i n part h in
      let s : sum ≡ sum_from 0 (take 504 (filled v i n part)) = q ∙ ap (λ (x : List ℕ). sum_from 0 (take 504 x)) p ∙ ap (λ (x : List ℕ). sum_from 0 x) summed-over in
      r
      ∙ ap (λ (x : List ℕ). written 508 (bytes 4 sum) x) p
      ∙ written_after out 0 508 (filled v i n part) (bytes 4 sum) k (omega arith)
      ∙ written-whole out (filled v i n part ++ bytes 4 sum) (simp (length-append, k, length-bytes) (omega arith))
      ∙ ap (λ (x : ℕ). filled v i n part ++ bytes 4 x) s

-- ---- a block is known by what is read of it
pub record Reads (b : List ℕ) (v i n u : ℕ) : Type 0 where
  pub long : length b ≡ 512
  pub header : decoded (2 ∷ 2 ∷ 2 ∷ 2 ∷ []) b ≡ v ∷ i ∷ n ∷ u ∷ []
  pub rest : zeros (take (500 - u) (drop (8 + u) b)) ≡ true
  pub sum : number (take 4 (drop 508 b)) ≡ sum_from 0 (take 504 b)

sum_below : (p : ℕ) (s : List ℕ) → Bytes s → p + length s ≤ 504 → sum_from p s ≤ 128520 * length s
unfolding sum_from
sum_below p [] h l = omega arith
sum_below p (b ∷ bs) h l = omega (arith, term b p h.0 (omega arith), sum_below (p + 1) bs h.1 (omega arith))

header-room : (b : List ℕ) → length b ≡ 512 → room (2 ∷ 2 ∷ 2 ∷ 2 ∷ []) ≤ length b
unfolding room
header-room b l = omega arith

pub header-numbers : (b : List ℕ) → decoded (2 ∷ 2 ∷ 2 ∷ 2 ∷ []) b ≡ number (take 2 (drop 0 b)) ∷ number (take 2 (drop 2 b)) ∷ number (take 2 (drop 4 b)) ∷ number (take 2 (drop 6 b)) ∷ []
unfolding decoded
header-numbers b = let e : drop 2 (drop 2 b) ≡ drop 4 b = drop-drop 2 2 b in let f : drop 2 (drop 4 b) ≡ drop 6 b = drop-drop 2 4 b in rw (e, f)

module _ (v i n : ℕ) (p : List ℕ) (h : length p ≤ 496) (hv : v < 65536) (hi : i < 65536) (hn : n < 65536) where
  header-there : (t : List ℕ) → decoded (2 ∷ 2 ∷ 2 ∷ 2 ∷ []) (filled v i n p ++ t) ≡ v ∷ i ∷ n ∷ length p ∷ []
  unfolding filled headed
  header-there t =
      rw (append_assoc (encoded (2 ∷ 2 ∷ 2 ∷ 2 ∷ []) (v ∷ i ∷ n ∷ length p ∷ [])) (p ++ replicate (500 - length p) 0) t)
      (decoded-encoded (2 ∷ 2 ∷ 2 ∷ 2 ∷ []) (v ∷ i ∷ n ∷ length p ∷ []) ((p ++ replicate (500 - length p) 0) ++ t) (omega arith, (omega arith, (omega arith, (omega arith, tt)))))

  zeros-there : (t : List ℕ) → zeros (take (500 - length p) (drop (8 + length p) (filled v i n p ++ t))) ≡ true
  unfolding filled
  zeros-there t =
      let u = length p in
      let hd = headed v i n u in
      let z = replicate {A = ℕ} (500 - u) 0 in
      let e : (hd ++ (p ++ z)) ++ t ≡ (hd ++ p) ++ (z ++ t) = simp append_assoc in
      let m : length (hd ++ p) ≡ 8 + u = simp (length-append, length-headed v i n u) in
      rw (e, drop_at (hd ++ p) (z ++ t) (8 + u) m, take_at z t (500 - u) (length-replicate (500 - u) 0)) (all-zeros (500 - u))

  pub reads-there : Bytes (block v i n p) → Reads (block v i n p) v i n (length p)
  unfolding block
  reads-there k =
      let f = filled v i n p in
      let t = bytes 4 (sum_from 0 (take 504 f)) in
      let lf = length-filled v i n p h in
      let s : take 504 (f ++ t) ≡ take 504 f = take-append-le 504 f t (omega arith) in
      let d : drop 508 (f ++ t) ≡ t = drop_at f t 508 lf in
      let lt : length t ≡ 4 = length-bytes 4 (sum_from 0 (take 504 f)) in
      let ls = length-take-le 504 f (omega arith) in
      let m : sum_from 0 (take 504 f) < 256 ^ 4 = omega (arith, sum_below 0 (take 504 f) (rw s at (bytes_take 504 (f ++ t) k)) (omega arith)) in
      record {
        long = length-block v i n p h;
        header = header-there t;
        rest = zeros-there t;
        sum = rw (d, s, take_all 4 t (omega arith)) (number-bytes 4 (sum_from 0 (take 504 f)) m);
      }

pub reads-back : (b : List ℕ) (v i n u : ℕ) → Bytes b → u ≤ 496 → Reads b v i n u → b ≡ block v i n (take u (drop 8 b))
unfolding block filled headed room
reads-back b v i n u k h r =
    let p = take u (drop 8 b) in
    let tail = drop 508 b in
    let l = r.long in
    let z = replicate {A = ℕ} (500 - u) 0 in
    let hd = encoded (2 ∷ 2 ∷ 2 ∷ 2 ∷ []) (v ∷ i ∷ n ∷ u ∷ []) in
    let lp : length p ≡ u = length-take-le u (drop 8 b) (omega (arith, length-drop 8 b)) in
    let eh : take 8 b ≡ hd = sym (encoded-decoded (2 ∷ 2 ∷ 2 ∷ 2 ∷ []) b k (header-room b l)) ∙ ap (λ (vs : List ℕ). encoded (2 ∷ 2 ∷ 2 ∷ 2 ∷ []) vs) r.header in
    let lm : length (take (500 - u) (drop (8 + u) b)) ≡ 500 - u = length-take-le (500 - u) (drop (8 + u) b) (omega (arith, length-drop (8 + u) b)) in
    let ez : take (500 - u) (drop (8 + u) b) ≡ z = zeros-all (take (500 - u) (drop (8 + u) b)) r.rest ∙ ap (λ (x : ℕ). replicate x 0) lm in
    let lt : length tail ≡ 4 = omega (arith, length-drop 508 b) in
    let ta : take 4 tail ≡ tail = take_all 4 tail (omega arith) in
    let j : 508 ≡ 8 + (u + (500 - u)) = omega arith in
    let ef : take 508 b ≡ hd ++ (p ++ z) =
    ap (λ (x : ℕ). take x b) j
    ∙ take-add 8 (u + (500 - u)) b
    ∙ ap (λ (x : List ℕ). x ++ take (u + (500 - u)) (drop 8 b)) eh
    ∙ ap (λ (x : List ℕ). hd ++ x) (take-add u (500 - u) (drop 8 b) ∙ ap (λ (x : List ℕ). p ++ take (500 - u) x) (drop-drop u 8 b) ∙ ap (λ (x : List ℕ). p ++ x) ez) in
    let es : take 504 b ≡ take 504 (hd ++ (p ++ z)) = sym (take-take 504 508 b (omega arith)) ∙ ap (λ (x : List ℕ). take 504 x) ef in
    let et : tail ≡ bytes 4 (sum_from 0 (take 504 (hd ++ (p ++ z)))) =
    sym (bytes-number tail (bytes_drop 508 b k))
    ∙ ap (λ (x : ℕ). bytes x (number tail)) lt
    ∙ ap (λ (x : List ℕ). bytes 4 (number x)) (sym ta)
    ∙ ap (λ (x : ℕ). bytes 4 x) (r.sum ∙ ap (λ (x : List ℕ). sum_from 0 x) es) in
    rw lp (sym (take-append-drop 508 b) ∙ ap (λ (x : List ℕ). x ++ tail) ef ∙ ap (λ (x : List ℕ). (hd ++ (p ++ z)) ++ x) et)

pub reads_of : (b : List ℕ) (v i n u : ℕ) → length b ≡ 512 → summed b ≡ true → version_in b ≡ v → index_in b ≡ i → count_in b ≡ n → used_in b ≡ u
    → zeros (take (500 - u) (drop (8 + u) b)) ≡ true → Reads b v i n u
reads_of b v i n u l s ev ei en eu z =
    record { long = l; header = header-numbers b ∙ cc (ev, ei, en, eu); rest = z; sum = eqb-true (number (take 4 (drop 508 b))) (sum_from 0 (take 504 b)) s }

-- ---- what the header says
module _ (b : List ℕ) (v i n u : ℕ) (r : Reads b v i n u) where
  numbers : number (take 2 (drop 0 b)) ∷ number (take 2 (drop 2 b)) ∷ number (take 2 (drop 4 b)) ∷ number (take 2 (drop 6 b)) ∷ [] ≡ v ∷ i ∷ n ∷ u ∷ []
  numbers = sym (header-numbers b) ∙ r.header

  pub reads-version : number (take 2 (drop 0 b)) ≡ v
  reads-version = let e = numbers in cc

  pub reads-index : number (take 2 (drop 2 b)) ≡ i
  reads-index = let e = numbers in cc

  pub reads-count : number (take 2 (drop 4 b)) ≡ n
  reads-count = let e = numbers in cc

  pub reads-used : number (take 2 (drop 6 b)) ≡ u
  reads-used = let e = numbers in cc

-- ---- the answer of a check
module _ (b : List ℕ) (v i n : ℕ) (k : Bytes b) where
  pub no_block : v < 65536 → i < 65536 → n < 65536 → ((u : ℕ) → Reads b v i n u → may_hold i n u ≡ true → ⊥) → UsedIn b v i n None
  no_block hv hi hn none p m e = none (length p) (rw e (reads-there v i n p (may-some i n (length p) m).2 hv hi hn (rw e at k))) m

  pub is_block : (u : ℕ) → Reads b v i n u → may_hold i n u ≡ true → UsedIn b v i n (Some u)
  is_block u r m =
      let s = may-some i n u m in
      let l = r.long in
      let e : length (take u (drop 8 b)) ≡ u = length-take-le u (drop 8 b) (omega (arith, length-drop 8 b)) in
      (reads-back b v i n u k s.2 r, rw e m)
