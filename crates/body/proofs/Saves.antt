-- Laws of a save's body: it is read again, and what is read was written. Assumes nothing.
use mathlib.Core.Path.{◌≡◌, refl, sym, ap, subst, ◌∙◌}
use mathlib.Core.Bool.{Bool, true, false, ◌&&◌, false≢true, and-true}
use mathlib.Core.List.{List, [], ◌∷◌, ◌++◌, append_assoc, append-nil}
use Prim.Native.Nat.{ℕ, zero, suc, ◌+◌, ◌-◌, ◌*◌, ◌^◌, ◌<◌, ◌≤◌}
use native.Mathlib.Omega.{arith}
use Rattle.std.proofs.Common.{None, fold, ltb, lt-ltb}
use Rattle.std.proofs.lemmas.List.{drop-replicate}
use Rattle.std.specs.Bool.{then_some}
use lib.Bits.{bit_or}
use lib.Pow.{pow_pos}
use lib.Dec.{eqb}
use lib.ListN.{length, take, drop, replicate, length-append, length-drop, length-replicate, take-append-drop}
use lib.Seq.{take_at, drop_at, take_all, drop-drop, length-take-le}
use borrow.Author.Tests.{eqb-true, eq-eqb, ne_eqb, le-leb}
use Rattle.error.proofs.Choice.{and_split}
use Rattle.history.specs.declared.Items.{Items}
use Rattle.history.specs.declared.Items.TheVariants as ItemsIs
use Rattle.history.specs.Items.{all_below, are_items, fits, padded, sound_list, view}
use Rattle.history.proofs.Laws.{BitsOf, bits-more}
use Rattle.history.proofs.Sound as List·
use Rattle.breaker.specs.declared.Breaker.{Breaker}
use Rattle.breaker.specs.Record.{sound_record, sound_config, sound_shared, items_of}
use Rattle.breaker.proofs.Record.{sound→, →sound}
use Rattle.le_bytes.specs.Bytes.{number, encoded, decoded, room, written, put_at, put_items, items_at, Fit, Bytes}
use Rattle.le_bytes.proofs.Written.{put_in, written_from, length-written, items-in}
use Rattle.le_bytes.proofs.Little.{bytes_drop}
use Rattle.le_bytes.proofs.Widths.{length-encoded, length-encoded-any, length-encoded-same, put-items-in, length-decoded, fit-decoded, decoded-encoded, encoded-decoded, room-same}
use Rattle.body.specs.Save.{Save, Good, BodyRead, is_name, widths, fields_of, width_of, item_width, body_of, size_of, save_of, put_save}
use Rattle.body.specs.Record.{breaker_of}
use Rattle.body.proofs.Records.{record-there, record-back, room-widths}

-- ---- a name
pub name-eight : (n : List ℕ) → is_name n ≡ true → length n ≡ 8
name-eight n e = eqb-true (length n) 8 (and_split (eqb (length n) 8) (all_below 128 n) e).0

pub name-ascii : (n : List ℕ) → is_name n ≡ true → all_below 128 n ≡ true
name-ascii n e = (and_split (eqb (length n) 8) (all_below 128 n) e).1

pub name-not : (n : List ℕ) → (length n ≡ 8 → ⊥) → false ≡ is_name n
name-not n e = simp (ne_eqb (length n) 8 e)

-- ---- the bits of bytes
bits_after : (done bs : List ℕ) (a : ℕ) → BitsOf a done → BitsOf (fold bit_or a bs) (done ++ bs)
unfolding all_below
bits_after done [] a h = rw append-nil h
bits_after done (b ∷ bs) a h =
    rw (← append_assoc done (b ∷ []) bs)
    (bits_after (done ++ b ∷ []) bs (bit_or a b) (bits-more a b done (b ∷ []) (done ++ b ∷ []) h (λ k. sym (and-true (ltb b (2 ^ k)))) refl))

pub bits_below : (bs : List ℕ) → BitsOf (fold bit_or 0 bs) bs
unfolding all_below
bits_below bs = bits_after [] bs 0 (λ k. lt-ltb 0 (2 ^ k) (pow_pos k))

-- ---- the save that is read of bytes
abbrev pub record_in : List ℕ → Breaker
record_in bs = breaker_of (decoded widths (drop 8 bs))

abbrev pub list_in : List ℕ → List ℕ
list_in bs = decoded (replicate (record_in bs).shared.len (width_of (record_in bs))) (drop 86 bs)

abbrev pub save_in : List ℕ → Save
save_in bs = record { name = take 8 bs; breaker = record_in bs; items = list_in bs }

-- ---- the body of a save, part by part
module _ (s : Save) (g : Good s) where
  length-r : length (encoded widths (fields_of s.breaker)) ≡ 78
  length-r = length-encoded widths (fields_of s.breaker) g.fields ∙ room-widths

  pub body-name : take 8 (body_of s) ≡ s.name
  body-name = take_at s.name (encoded widths (fields_of s.breaker) ++ encoded (replicate (length s.items) (width_of s.breaker)) s.items) 8 (name-eight s.name g.named)

  body-rest : drop 8 (body_of s) ≡ encoded widths (fields_of s.breaker) ++ encoded (replicate (length s.items) (width_of s.breaker)) s.items
  body-rest = drop_at s.name (encoded widths (fields_of s.breaker) ++ encoded (replicate (length s.items) (width_of s.breaker)) s.items) 8 (name-eight s.name g.named)

  pub body-record : record_in (body_of s) ≡ s.breaker
  body-record = ap (λ (x : List ℕ). breaker_of (decoded widths x)) body-rest ∙ record-there s.breaker (encoded (replicate (length s.items) (width_of s.breaker)) s.items) g.fields

  pub body-list : drop 86 (body_of s) ≡ encoded (replicate (length s.items) (width_of s.breaker)) s.items
  body-list =
      sym (drop-drop 78 8 (body_of s)) ∙ ap (λ (x : List ℕ). drop 78 x) body-rest
      ∙ drop_at (encoded widths (fields_of s.breaker)) (encoded (replicate (length s.items) (width_of s.breaker)) s.items) 78 length-r

  pub body-items : decoded (replicate (length s.items) (width_of s.breaker)) (drop 86 (body_of s)) ≡ s.items
  body-items =
      ap (λ (x : List ℕ). decoded (replicate (length s.items) (width_of s.breaker)) x) (body-list ∙ sym (append-nil (encoded (replicate (length s.items) (width_of s.breaker)) s.items)))
      ∙ decoded-encoded (replicate (length s.items) (width_of s.breaker)) s.items [] g.items

  pub body-length : length (body_of s) ≡ size_of s.breaker
  body-length =
      let a = length-encoded-same (width_of s.breaker) s.items in
      let b = g.counted in
      let c : length s.items * width_of s.breaker ≡ s.breaker.shared.len * width_of s.breaker = ap (λ (n : ℕ). n * width_of s.breaker) (sym b) in
      simp (length-append, length-r, a, c, name-eight s.name g.named, room-widths) (omega arith)

  pub body-least : 86 ≤ length (body_of s)
  body-least = omega (arith, body-length, room-widths)

  -- what is sound of it
  facts : List·.Sound (items_of s.breaker.config) s.breaker.shared.len (padded s.items)
  facts = List·.sound→ (items_of s.breaker.config) s.breaker.shared.len (padded s.items) (sound→ s.breaker (padded s.items) g.is_sound).list

  pub good-record : sound_record s.breaker ≡ true
  good-record = let f = sound→ s.breaker (padded s.items) g.is_sound in simp (f.config, f.shared)

  pub good-most : s.breaker.shared.len ≤ 4096
  good-most = facts.le

  pub good-fits : fits (items_of s.breaker.config) s.breaker.shared.len ≡ true
  good-fits = facts.length_fits

  pub good-items : are_items (items_of s.breaker.config) s.items ≡ true
  good-items =
      let e : view s.breaker.shared.len (padded s.items) ≡ s.items = ap (λ (n : ℕ). view n (padded s.items)) g.counted ∙ List·.view-padded s.items in
      ap (λ (xs : List ℕ). are_items (items_of s.breaker.config) xs) (sym e) ∙ facts.of_its_kind

-- ---- one byte an item: the bytes are the items
pub decoded-ones : (n : ℕ) (bs : List ℕ) → n ≤ length bs → decoded (replicate n 1) bs ≡ take n bs
unfolding decoded number
decoded-ones zero bs h = refl
decoded-ones (suc n) [] h = absurd (omega arith)
decoded-ones (suc n) (b ∷ bs) h = let e : b + 256 * 0 ≡ b = omega arith in rw (e, decoded-ones n bs (omega arith))

-- ---- bytes that pass the tests are the body of what is read of them
module _ (bs : List ℕ) (k : Bytes bs) (h : 86 ≤ length bs) (sz : length bs ≡ size_of (record_in bs)) where
  rest-long : length (drop 8 bs) ≡ length bs - 8
  rest-long = length-drop 8 bs

  list-long : length (drop 86 bs) ≡ (record_in bs).shared.len * width_of (record_in bs)
  list-long = omega (arith, length-drop 86 bs, sz, room-widths)

  list-bytes : Bytes (drop 86 bs)
  list-bytes = bytes_drop 86 bs k

  list-room : room (replicate (record_in bs).shared.len (width_of (record_in bs))) ≡ length (drop 86 bs)
  list-room = room-same (record_in bs).shared.len (width_of (record_in bs)) ∙ sym list-long

  items-length : length (list_in bs) ≡ (record_in bs).shared.len
  items-length = length-decoded (replicate (record_in bs).shared.len (width_of (record_in bs))) (drop 86 bs) ∙ length-replicate (record_in bs).shared.len (width_of (record_in bs))

  pub body_back : bs ≡ body_of (save_in bs)
  body_back =
      let rc = (record-back (drop 8 bs) (bytes_drop 8 bs k) (omega (arith, rest-long))).0 in
      let w = width_of (record_in bs) in
      let n = (record_in bs).shared.len in
      let i : encoded (replicate n w) (list_in bs) ≡ drop 86 bs = encoded-decoded (replicate n w) (drop 86 bs) list-bytes (omega (arith, list-room)) ∙ take_all (room (replicate n w)) (drop 86 bs) (omega (arith, list-room)) in
      let j : encoded (replicate (length (list_in bs)) w) (list_in bs) ≡ drop 86 bs = ap (λ (m : ℕ). encoded (replicate m w) (list_in bs)) items-length ∙ i in
      let d : drop 78 (drop 8 bs) ≡ drop 86 bs = drop-drop 78 8 bs in
      sym
      (ap (λ (y : List ℕ). take 8 bs ++ (y ++ encoded (replicate (length (list_in bs)) w) (list_in bs))) rc
      ∙ ap (λ (y : List ℕ). take 8 bs ++ (take 78 (drop 8 bs) ++ y)) (j ∙ sym d)
      ∙ ap (λ (y : List ℕ). take 8 bs ++ y) (take-append-drop 78 (drop 8 bs))
      ∙ take-append-drop 8 bs)

  pub good-back : is_name (take 8 bs) ≡ true → sound_record (record_in bs) ≡ true → fits (items_of (record_in bs).config) (record_in bs).shared.len ≡ true
      → are_items (items_of (record_in bs).config) (list_in bs) ≡ true → Good (save_in bs)
  good-back a sr f ai =
      let p = and_split (sound_config (record_in bs).config) (sound_shared (record_in bs).config (record_in bs).shared) sr in
      let w = width_of (record_in bs) in
      let n = (record_in bs).shared.len in
      let fn : fits (items_of (record_in bs).config) (length (list_in bs)) ≡ true = ap (λ (m : ℕ). fits (items_of (record_in bs).config) m) items-length ∙ f in
      let sl : sound_list (items_of (record_in bs).config) n (padded (list_in bs)) ≡ true = ap (λ (m : ℕ). sound_list (items_of (record_in bs).config) m (padded (list_in bs))) (sym items-length) ∙ List·.→sound (items_of (record_in bs).config) (list_in bs) fn ai in
      record {
        named = a;
        fields = (record-back (drop 8 bs) (bytes_drop 8 bs k) (omega (arith, rest-long))).1;
        counted = sym items-length;
        items = ap-fit (sym items-length) (fit-decoded (replicate n w) (drop 86 bs) list-bytes (omega (arith, list-room)));
        is_sound = →sound (record_in bs) (padded (list_in bs)) (record { config = p.0; shared = p.1; list = sl });
      }
    where
      ap-fit : {m n : ℕ} → m ≡ n → Fit (replicate m (width_of (record_in bs))) (list_in bs) → Fit (replicate n (width_of (record_in bs))) (list_in bs)
      ap-fit e f = rw e at f

-- ---- the width of an item
item-width-le : (i : Items) → item_width i ≤ 8
item-width-le ItemsIs.Nothing = omega arith
item-width-le (ItemsIs.Outcomes w) = omega arith
item-width-le ItemsIs.Times = omega arith

pub width-le : (b : Breaker) → width_of b ≤ 8
width-le b = item-width-le (items_of b.config)

-- ---- bytes of the list may be items exactly where the items are
pub items_alike : (i : Items) (n : ℕ) (bs : List ℕ) → length bs ≡ n * item_width i → are_items i bs ≡ are_items i (decoded (replicate n (item_width i)) bs)
items_alike ItemsIs.Nothing n bs h = refl
items_alike (ItemsIs.Outcomes w) n bs h =
    let m : length bs ≡ n = omega arith in
    ap (λ (xs : List ℕ). all_below 2 xs) (sym (decoded-ones n bs (omega arith) ∙ take_all n bs (omega arith)))
items_alike ItemsIs.Times n bs h = refl

-- ---- the body written part by part
module _ (name : List ℕ) (b : Breaker) (s out : List ℕ) where
  pub save-fits : length name ≡ 8 → b.shared.len ≤ length s → size_of b ≤ length out → written 0 (body_of (save_of name b s)) out ≡ put_save name b s out
  save-fits n l r = simp (eq-eqb (length name) 8 n, le-leb b.shared.len (length s) l, le-leb (size_of b) (length out) r)

  pub save-length : length name ≡ 8 → b.shared.len ≤ length s → length (body_of (save_of name b s)) ≡ size_of b
  save-length n l =
      let li : length (take b.shared.len s) ≡ b.shared.len = length-take-le b.shared.len s l in
      let lr : length (encoded widths (fields_of b)) ≡ 78 = length-encoded-any widths (fields_of b) refl ∙ room-widths in
      let le : length (take b.shared.len s) * width_of b ≡ b.shared.len * width_of b = ap (λ (m : ℕ). m * width_of b) li in
      simp (length-append, n, lr, length-encoded-same (width_of b) (take b.shared.len s), le, room-widths) (omega arith)

  pub save-by : (a c d : List ℕ) → length name ≡ 8 → b.shared.len ≤ length s → size_of b ≤ length out → a ≡ put_at 0 name out → c ≡ written 8 (encoded widths (fields_of b)) a
      → d ≡ put_items 86 (width_of b) (take b.shared.len s) c → d ≡ put_save name b s out
  save-by a c d n l r p q z =
      let rec = encoded widths (fields_of b) in
      let items = take b.shared.len s in
      let li : length items ≡ b.shared.len = length-take-le b.shared.len s l in
      let w = width_of b in
      let enc = encoded (replicate (length items) w) items in
      let lr : length rec ≡ 78 = length-encoded-any widths (fields_of b) refl ∙ room-widths in
      let le : length items * w ≡ b.shared.len * w = ap (λ (m : ℕ). m * w) li in
      let so : 86 + b.shared.len * w ≤ length out = omega (arith, r, room-widths) in
      let pa : a ≡ written 0 name out = p ∙ sym (put_in 0 name out (omega arith)) in
      let la : length a ≡ length out = ap length pa ∙ length-written out 0 name (omega arith) in
      let pc : c ≡ written 0 (name ++ rec) out = q ∙ ap (λ (x : List ℕ). written 8 rec x) pa ∙ written_from out 8 name rec n (omega arith) in
      let lnr : length (name ++ rec) ≡ 86 = simp (length-append, n, lr) in
      let lc : length c ≡ length out = ap length pc ∙ length-written out 0 (name ++ rec) (omega arith) in
      z
      ∙ sym (put-items-in 86 w items c (width-le b) (omega (arith, le, lc, so)))
      ∙ ap (λ (x : List ℕ). written 86 enc x) pc
      ∙ written_from out 86 (name ++ rec) enc lnr (omega arith)
      ∙ ap (λ (x : List ℕ). written 0 x out) (append_assoc name rec enc)
      ∙ save-fits n l r

-- ---- the list read into zeros
pub list_read : (x : Save) (g : Good x) (bs zeros got : List ℕ) → bs ≡ body_of x → zeros ≡ padded [] → got ≡ items_at 86 (width_of x.breaker) (take x.breaker.shared.len zeros) bs
    → got ++ drop x.breaker.shared.len zeros ≡ padded x.items
list_read x g bs zeros got e z p =
    let n = x.breaker.shared.len in
    let w = width_of x.breaker in
    let en : n ≡ length x.items = g.counted in
    let le = (facts x g).le in
    let lz : length zeros ≡ 4096 = ap length z ∙ length-replicate {A = ℕ} 4096 0 in
    let lt : length (take n zeros) ≡ n = length-take-le n zeros (omega arith) in
    let ln : length (take n zeros) ≡ length x.items = lt ∙ en in
    let lw : length (take n zeros) * w ≡ n * w = ap (λ (m : ℕ). m * w) lt in
    let lb : length bs ≡ size_of x.breaker = ap length e ∙ body-length x g in
    let room : 86 + length (take n zeros) * w ≤ length bs = omega (arith, lb, room-widths, lw) in
    let it : got ≡ x.items =
    p
    ∙ sym (items-in 86 w (take n zeros) bs (width-le x.breaker) room)
    ∙ ap (λ (m : ℕ). decoded (replicate m w) (drop 86 bs)) ln
    ∙ ap (λ (y : List ℕ). decoded (replicate (length x.items) w) (drop 86 y)) e
    ∙ body-items x g in
    let dz : drop n zeros ≡ replicate (4096 - length x.items) 0 = ap (λ (y : List ℕ). drop n y) z ∙ drop-replicate n 4096 0 ∙ ap (λ (m : ℕ). replicate (4096 - m) 0) en in
    ap (λ (y : List ℕ). y ++ drop n zeros) it ∙ ap (λ (y : List ℕ). x.items ++ y) dz

-- the bytes of the list of a body, and of bytes of its length
pub body_alike : (bs : List ℕ) → 86 ≤ length bs → length bs ≡ size_of (record_in bs) → are_items (items_of (record_in bs).config) (drop 86 bs) ≡ are_items (items_of (record_in bs).config) (list_in bs)
body_alike bs h sz = items_alike (items_of (record_in bs).config) (record_in bs).shared.len (drop 86 bs) (omega (arith, length-drop 86 bs, sz, room-widths))

pub good-bytes : (s : Save) (g : Good s) → are_items (items_of s.breaker.config) (drop 86 (body_of s)) ≡ true
good-bytes s g =
    items_alike (items_of s.breaker.config) (length s.items) (drop 86 (body_of s)) (ap length (body-list s g) ∙ length-encoded-same (width_of s.breaker) s.items)
    ∙ ap (λ (xs : List ℕ). are_items (items_of s.breaker.config) xs) (body-items s g)
    ∙ good-items s g

-- the same by the record that was read
pub list-read-as : (x : Save) (g : Good x) (b : Breaker) (bs zeros got : List ℕ) → bs ≡ body_of x → x.breaker ≡ b → zeros ≡ padded []
    → got ≡ items_at 86 (width_of b) (take b.shared.len zeros) bs → got ++ drop b.shared.len zeros ≡ padded x.items
list-read-as x g b bs zeros got e q z p =
    subst (λ (y : Breaker). got ≡ items_at 86 (width_of y) (take y.shared.len zeros) bs → got ++ drop y.shared.len zeros ≡ padded x.items) q
    (λ r. list_read x g bs zeros got e z r) p

-- ---- what is read of bytes
body_named : (bs : List ℕ) (x : Save) → Good x → bs ≡ body_of x → is_name (take 8 bs) ≡ true
body_named bs x g e = ap (λ (y : List ℕ). is_name (take 8 y)) e ∙ ap is_name (body-name x g) ∙ g.named

-- too short, or without a name
pub read_short : (bs : List ℕ) → length bs < 86 → BodyRead bs None
read_short bs h x g e = omega (arith, body-least x g, ap length e)

pub read_unnamed : (bs : List ℕ) → is_name (take 8 bs) ≡ false → BodyRead bs None
read_unnamed bs f x g e = false≢true (sym f ∙ body_named bs x g e)

-- a test, and then another
pub and_on : (a b r : Bool) → a ≡ true → r ≡ b → r ≡ (a && b)
and_on a b r h e = rw h e

pub and_off : (a b r : Bool) → a ≡ false → r ≡ false → r ≡ (a && b)
and_off a b r h e = rw h e

-- the test of the list
abbrev pub is_list : Items → ℕ → List ℕ → Bool
is_list i n bs = fits i n && (eqb (length bs) (n * item_width i) && are_items i bs)

list_passes : (x : Save) → Good x → is_list (items_of x.breaker.config) x.breaker.shared.len (drop 86 (body_of x)) ≡ true
list_passes x g =
    let l : eqb (length (drop 86 (body_of x))) (x.breaker.shared.len * width_of x.breaker) ≡ true = eq-eqb _ _ (omega (arith, length-drop 86 (body_of x), body-length x g, room-widths)) in
    simp (good-fits x g, l, good-bytes x g)

pub read_by : (bs : List ℕ) (b : Breaker) (t : Bool) → Bytes bs → 86 ≤ length bs → is_name (take 8 bs) ≡ true → b ≡ record_in bs
    → t ≡ (sound_record b && is_list (items_of b.config) b.shared.len (drop 86 bs)) → BodyRead bs (then_some t b)
read_by bs b t k h n r e = subst (λ (b : Breaker). t ≡ (sound_record b && is_list (items_of b.config) b.shared.len (drop 86 bs)) → BodyRead bs (then_some t b)) (sym r) (go t) e
  where
    go : (t : Bool) → t ≡ (sound_record (record_in bs) && is_list (items_of (record_in bs).config) (record_in bs).shared.len (drop 86 bs)) → BodyRead bs (then_some t (record_in bs))
    go true e =
        let p = and_split (sound_record (record_in bs)) _ (sym e) in
        let q = and_split (fits (items_of (record_in bs).config) (record_in bs).shared.len) _ p.1 in
        let u = and_split (eqb (length (drop 86 bs)) ((record_in bs).shared.len * width_of (record_in bs))) _ q.1 in
        let z : length bs ≡ size_of (record_in bs) = omega (arith, h, length-drop 86 bs, room-widths, eqb-true (length (drop 86 bs)) _ u.0) in
        (save_in bs, good-back bs k h z n p.0 q.0 (sym (body_alike bs h z) ∙ u.1), body_back bs k h z, refl)
    go false e = λ x g d.
        let r : record_in bs ≡ x.breaker = ap record_in d ∙ body-record x g in
        false≢true
        (e ∙ ap (λ (b : Breaker). sound_record b && is_list (items_of b.config) b.shared.len (drop 86 bs)) r
        ∙ ap (λ (y : List ℕ). sound_record x.breaker && is_list (items_of x.breaker.config) x.breaker.shared.len (drop 86 y)) d
        ∙ simp (good-record x g, list_passes x g))
