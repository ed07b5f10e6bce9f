-- The record and its numbers: each is known by the other, and they fit their widths. Assumes nothing.
use mathlib.Core.Path.{◌≡◌, refl, sym, ap, subst, ◌∙◌}
use mathlib.Core.List.{List, [], ◌∷◌, ◌++◌}
use Prim.Native.Nat.{ℕ, zero, suc, ◌+◌, ◌<◌, ◌≤◌}
use native.Mathlib.Omega.{arith}
use borrow.Author.Rules.{rules}
use lib.ListN.{length, get_or, set, take, drop, length-drop, length-set, drop_of_length-le}
use Rattle.breaker.specs.declared.Breaker.{Breaker}
use Rattle.le_bytes.specs.Bytes.{bytes, encoded, decoded, room, written, put_at, number_at, Fit, Bytes}
use Rattle.le_bytes.proofs.Little.{front, length-bytes, bytes_drop}
use Rattle.le_bytes.proofs.Written.{number_in, put_in, length-written}
use Rattle.le_bytes.proofs.Widths.{decoded-encoded, encoded-decoded, fit-decoded, length-decoded, fit_length, wider-at, room-front, read-turn, read-end, write-turn, write-end}
use Rattle.body.specs.Save.{widths, fields_of}
use Rattle.body.specs.Record.{breaker_of}

-- ---- a list of known length, element by element
unfoldable reads : ℕ → ℕ → List ℕ → List ℕ
reads zero i vs = []
reads (suc k) i vs = get_or vs i 0 ∷ reads k (i + 1) vs

reads-drop : (k i : ℕ) (vs : List ℕ) → i + k ≡ length vs → reads k i vs ≡ drop i vs
unfolding reads
reads-drop zero i vs h = sym (drop_of_length-le vs {i = i} (omega arith))
reads-drop (suc k) i vs h = rw (reads-drop k (i + 1) vs (omega arith)) (sym (front vs i (omega arith)))

-- ---- numbers and record
pub breaker-fields : (b : Breaker) → breaker_of (fields_of b) ≡ b
unfolding breaker_of
breaker-fields b = refl

pub fields-breaker : (vs : List ℕ) → length vs ≡ 16 → fields_of (breaker_of vs) ≡ vs
unfolding breaker_of reads
fields-breaker vs h = reads-drop 16 0 vs (omega arith)

pub fields_fit : (vs : List ℕ) → Fit widths vs → Fit widths (fields_of (breaker_of vs))
fields_fit vs f = subst (λ (x : List ℕ). Fit widths x) (sym (fields-breaker vs (fit_length widths vs f))) f

-- ---- widths
pub room-widths : room widths ≡ 78
unfolding room
room-widths = refl

pub ruleset record_room = (room-widths)

pub widths-narrow : (i : ℕ) → get_or widths i 0 ≤ 8
widths-narrow = wider-at widths 8 (search rules)

-- ---- a record that fits is read again, and what is read was written
pub record-there : (b : Breaker) (rest : List ℕ) → Fit widths (fields_of b) → breaker_of (decoded widths (encoded widths (fields_of b) ++ rest)) ≡ b
record-there b rest f = rw (decoded-encoded widths (fields_of b) rest f) (breaker-fields b)

pub record-back : (bs : List ℕ) → Bytes bs → 78 ≤ length bs
    → let b = breaker_of (decoded widths bs) in (encoded widths (fields_of b) ≡ take 78 bs) × Fit widths (fields_of b)
record-back bs h l =
    let e : fields_of (breaker_of (decoded widths bs)) ≡ decoded widths bs = fields-breaker (decoded widths bs) (length-decoded widths bs) in
    let r : room widths ≤ length bs = omega (arith, room-widths) in
    (ap (λ (vs : List ℕ). encoded widths vs) e ∙ encoded-decoded widths bs h r ∙ ap (λ (n : ℕ). take n bs) room-widths, subst (λ (x : List ℕ). Fit widths x) (sym e) (fit-decoded widths bs h r))

-- ---- a turn of the loop that reads: i numbers are behind it
pub record ReadTo (s : List ℕ) (at : ℕ) (values : List ℕ) (i next : ℕ) : Type 0 where
  pub long : length values ≡ 16
  pub place : next + room (drop i widths) ≡ at + 78
  pub completed : take i values ++ decoded (drop i widths) (drop next s) ≡ decoded widths (drop at s)

pub read_none : (s values : List ℕ) (at : ℕ) → length values ≡ 16 → ReadTo s at values 0 at
read_none s values at l = record { long = l; place = omega (arith, room-widths); completed = refl }

pub read_more : (s values : List ℕ) (at i next v : ℕ) → ReadTo s at values i next → at + 78 ≤ length s → i < 16 → v ≡ number_at next (get_or widths i 0) s
    → ReadTo s at (set values i v) (i + 1) (next + get_or widths i 0)
read_more s values at i next v r l h e =
    let w = get_or widths i 0 in
    let f = room-front widths i h in
    record {
      long = length-set values i v ∙ r.long;
      place = omega (arith, f, r.place);
      completed = read-turn widths s values i next v h (omega (arith, r.long)) (e ∙ sym (number_in next w s (widths-narrow i) (omega (arith, f, r.place)))) ∙ r.completed;
    }

pub read_all : (s values : List ℕ) (at i next : ℕ) → ReadTo s at values i next → 16 ≤ i → values ≡ decoded widths (drop at s)
read_all s values at i next r h = sym (read-end widths (drop next s) values i h (omega (arith, r.long))) ∙ r.completed

-- the numbers that are read fit their widths
pub read_fit : (s values : List ℕ) (at : ℕ) → Bytes s → at + 78 ≤ length s → values ≡ decoded widths (drop at s) → Fit widths values
read_fit s values at b l e = rw e (fit-decoded widths (drop at s) (bytes_drop at s b) (omega (arith, length-drop at s, room-widths)))

-- ---- a turn of the loop that writes: i numbers are behind it
pub record PutTo (out : List ℕ) (at : ℕ) (b : Breaker) (now : List ℕ) (i next : ℕ) : Type 0 where
  pub long : length now ≡ length out
  pub place : next + room (drop i widths) ≡ at + 78
  pub completed : written next (encoded (drop i widths) (drop i (fields_of b))) now ≡ written at (encoded widths (fields_of b)) out

pub put_none : (out : List ℕ) (at : ℕ) (b : Breaker) → PutTo out at b out 0 at
put_none out at b = record { long = refl; place = omega (arith, room-widths); completed = refl }

pub put_place : (out : List ℕ) (at : ℕ) (b : Breaker) (now : List ℕ) (i next w : ℕ) → PutTo out at b now i next → i < 16 → w ≡ get_or widths i 0 → next + w ≤ at + 78
put_place out at b now i next w r h e = omega (arith, room-front widths i h, r.place, e)

pub put_more : (out : List ℕ) (at : ℕ) (b : Breaker) (now put : List ℕ) (i next w v : ℕ) → PutTo out at b now i next → at + 78 ≤ length out → i < 16
    → w ≡ get_or widths i 0 → v ≡ get_or (fields_of b) i 0 → put ≡ put_at next (bytes w v) now → PutTo out at b put (i + 1) (next + w)
put_more out at b now put i next w v r l h ew ev e =
    let f = room-front widths i h in
    let m : next + length (bytes w v) ≤ length now = omega (arith, put_place out at b now i next w r h ew, r.long, length-bytes w v) in
    let p : put ≡ written next (bytes w v) now = e ∙ sym (put_in next (bytes w v) now m) in
    record {
      long = ap length p ∙ length-written now next (bytes w v) m ∙ r.long;
      place = omega (arith, f, r.place, ew);
      completed = rw (p, ew, ev) (write-turn widths (fields_of b) now i next h h (omega (arith, f, r.place, r.long)) ∙ r.completed);
    }

pub put_all : (out : List ℕ) (at : ℕ) (b : Breaker) (now : List ℕ) (i next : ℕ) → PutTo out at b now i next → 16 ≤ i → now ≡ written at (encoded widths (fields_of b)) out
put_all out at b now i next r h = sym (write-end widths (fields_of b) now i next h) ∙ r.completed
