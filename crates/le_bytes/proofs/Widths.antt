-- Laws of numbers one after another, over any widths: there and back. Assumes nothing.
use mathlib.Core.Path.{◌≡◌, refl, sym, ap, ◌∙◌}
use mathlib.Core.List.{List, [], ◌∷◌, ◌++◌, append_assoc, append-nil}
use Prim.Native.Nat.{ℕ, zero, suc, ◌+◌, ◌-◌, ◌*◌, ◌<◌, ◌≤◌}
use native.Mathlib.Nat.{suc-mul, zero-mul, mul-le-mul, pow-le-pow_right}
use native.Mathlib.Numerals.{add-one}
use native.Mathlib.Omega.{arith}
use lib.ListN.{length, get_or, set, take, drop, replicate, length-append, length-drop, drop_of_length-le}
use borrow.Author.Tests.{le-leb}
use lib.Seq.{take_at, drop_at, take_all, take-take, length-take-le, take-add, take-suc-set, drop-drop}
use Rattle.std.proofs.lemmas.List.{drop-take}
use Rattle.le_bytes.specs.Bytes.{bytes, number, encoded, decoded, room, Fit, Bytes}
use Rattle.le_bytes.specs.Bytes.{written, put_items}
use Rattle.le_bytes.proofs.Written.{written_after, written-nil, put_in}
use Rattle.le_bytes.proofs.Little.{front, length-bytes, bytes-bytes, number-bytes, bytes-number, number-below, bytes-append, bytes_take, bytes_drop}

pub length-encoded : (ws vs : List ℕ) → Fit ws vs → length (encoded ws vs) ≡ room ws
unfolding encoded room
length-encoded [] [] f = refl
length-encoded [] (v ∷ vs) f = absurd f
length-encoded (w ∷ ws) [] f = absurd f
length-encoded (w ∷ ws) (v ∷ vs) f = simp (length-append, length-bytes, length-encoded ws vs f.1)

-- whatever the numbers are
pub length-encoded-any : (ws vs : List ℕ) → length vs ≡ length ws → length (encoded ws vs) ≡ room ws
unfolding encoded room
length-encoded-any [] [] e = refl
length-encoded-any [] (v ∷ vs) e = absurd (omega arith)
length-encoded-any (w ∷ ws) [] e = absurd (omega arith)
length-encoded-any (w ∷ ws) (v ∷ vs) e = simp (length-append, length-bytes, length-encoded-any ws vs (omega arith))

pub bytes-encoded : (ws vs : List ℕ) → Bytes (encoded ws vs)
unfolding encoded
bytes-encoded [] vs = tt
bytes-encoded (w ∷ ws) [] = tt
bytes-encoded (w ∷ ws) (v ∷ vs) = bytes-append (bytes w v) (encoded ws vs) (bytes-bytes w v) (bytes-encoded ws vs)

-- numbers that fit are read again
pub decoded-encoded : (ws vs rest : List ℕ) → Fit ws vs → decoded ws (encoded ws vs ++ rest) ≡ vs
unfolding encoded decoded
decoded-encoded [] [] rest f = refl
decoded-encoded [] (v ∷ vs) rest f = absurd f
decoded-encoded (w ∷ ws) [] rest f = absurd f
decoded-encoded (w ∷ ws) (v ∷ vs) rest f =
    let more = encoded ws vs ++ rest in
    rw (append_assoc, take_at (bytes w v) more w (length-bytes w v), drop_at (bytes w v) more w (length-bytes w v), number-bytes w v f.0, decoded-encoded ws vs rest f.1)

-- bytes are those of the numbers that they are
pub encoded-decoded : (ws bs : List ℕ) → Bytes bs → room ws ≤ length bs → encoded ws (decoded ws bs) ≡ take (room ws) bs
unfolding encoded decoded room
encoded-decoded [] bs h l = refl
encoded-decoded (w ∷ ws) bs h l =
    let n : length (take w bs) ≡ w = length-take-le w bs (omega arith) in
    let b : bytes w (number (take w bs)) ≡ take w bs = rw n at (bytes-number (take w bs) (bytes_take w bs h)) in
    rw (b, encoded-decoded ws (drop w bs) (bytes_drop w bs h) (omega (arith, length-drop w bs))) (sym (take-add w (room ws) bs))

pub fit-decoded : (ws bs : List ℕ) → Bytes bs → room ws ≤ length bs → Fit ws (decoded ws bs)
unfolding decoded room
fit-decoded [] bs h l = tt
fit-decoded (w ∷ ws) bs h l =
    let n : length (take w bs) ≡ w = length-take-le w bs (omega arith) in
    (rw n at (number-below (take w bs) (bytes_take w bs h)), fit-decoded ws (drop w bs) (bytes_drop w bs h) (omega (arith, length-drop w bs)))

pub length-decoded : (ws bs : List ℕ) → length (decoded ws bs) ≡ length ws
unfolding decoded
length-decoded [] bs = refl
length-decoded (w ∷ ws) bs = ap suc (length-decoded ws (drop w bs))

-- ---- many numbers of one width
pub room-same : (n w : ℕ) → room (replicate n w) ≡ n * w
unfolding room
room-same zero w = rw zero-mul
room-same (suc n) w = rw (room-same n w, suc-mul) (omega arith)

-- ---- a turn of a loop over widths: i numbers are behind it
pub room-front : (ws : List ℕ) (i : ℕ) → i < length ws → room (drop i ws) ≡ get_or ws i 0 + room (drop (i + 1) ws)
unfolding room
room-front ws i h = rw (front ws i h)

pub read-turn : (ws s out : List ℕ) (i next v : ℕ) → i < length ws → i < length out → v ≡ number (take (get_or ws i 0) (drop next s))
    → take (i + 1) (set out i v) ++ decoded (drop (i + 1) ws) (drop (next + get_or ws i 0) s) ≡ take i out ++ decoded (drop i ws) (drop next s)
unfolding decoded
read-turn ws s out i next v h l e =
    let t : take (i + 1) (set out i v) ≡ take i out ++ (v ∷ []) = rw add-one (take-suc-set out i v l) in
    rw (t, front ws i h, append_assoc, ← e, drop-drop)

pub read-end : (ws bs out : List ℕ) (i : ℕ) → length ws ≤ i → length out ≤ i → take i out ++ decoded (drop i ws) bs ≡ out
unfolding decoded
read-end ws bs out i h l = rw (drop_of_length-le ws {i = i} h, append-nil, take_all i out l)

pub write-turn : (ws vs out : List ℕ) (i next : ℕ) → i < length ws → i < length vs → next + get_or ws i 0 ≤ length out
    → written (next + get_or ws i 0) (encoded (drop (i + 1) ws) (drop (i + 1) vs)) (written next (bytes (get_or ws i 0) (get_or vs i 0)) out) ≡ written next (encoded (drop i ws) (drop i vs)) out
unfolding encoded
write-turn ws vs out i next h l m =
    let w = get_or ws i 0 in
    rw (front ws i h, front vs i l) (written_after out next w (bytes w (get_or vs i 0)) (encoded (drop (i + 1) ws) (drop (i + 1) vs)) (length-bytes w (get_or vs i 0)) m)

pub write-end : (ws vs out : List ℕ) (i next : ℕ) → length ws ≤ i → written next (encoded (drop i ws) (drop i vs)) out ≡ out
unfolding encoded
write-end ws vs out i next h = rw (drop_of_length-le ws {i = i} h) (sym (written-nil out next))

-- ---- a turn of a loop over numbers of one width: i of them are behind it
pub rest-less : (n w i : ℕ) (s : List ℕ) → i < n → length s ≡ (n - i) * w → length (drop w s) ≡ (n - (i + 1)) * w
rest-less n w i s h l =
    let k : n - i ≡ suc (n - (i + 1)) = omega arith in
    let m : length s ≡ (n - (i + 1)) * w + w = l ∙ ap (λ (x : ℕ). x * w) k ∙ suc-mul (n - (i + 1)) w in
    length-drop w s ∙ (omega arith)

pub items-turn : (w : ℕ) (s out : List ℕ) (i v : ℕ) → i < length out → v ≡ number (take w s)
    → take (i + 1) (set out i v) ++ decoded (replicate (length out - (i + 1)) w) (drop w s) ≡ take i out ++ decoded (replicate (length out - i) w) s
unfolding decoded
items-turn w s out i v h e =
    let k : length out - i ≡ suc (length out - (i + 1)) = omega arith in
    let t : take (i + 1) (set out i v) ≡ take i out ++ (v ∷ []) = rw add-one (take-suc-set out i v h) in
    rw (t, k, append_assoc, e)

-- numbers read of so many bytes as they take
pub decoded-part : (n w k : ℕ) (s : List ℕ) → k ≡ n * w → decoded (replicate n w) (take k s) ≡ decoded (replicate n w) s
unfolding decoded
decoded-part zero w k s e = refl
decoded-part (suc n) w k s e =
    let m : k ≡ w + n * w = e ∙ suc-mul n w ∙ (omega arith) in
    rw (m, take-take w (w + n * w) s (omega arith), drop-take w (n * w) s) (ap (λ (vs : List ℕ). number (take w s) ∷ vs) (decoded-part n w (n * w) (drop w s) refl))

pub items-end : (w : ℕ) (s out : List ℕ) (i : ℕ) → length out ≤ i → take i out ++ decoded (replicate (length out - i) w) s ≡ out
unfolding decoded
items-end w s out i h = let k : length out - i ≡ zero = omega arith in rw (k, append-nil, take_all i out h)

-- b is what is written of one of them, in its place
pub put-turn : (w : ℕ) (vs out b more : List ℕ) (i : ℕ) → i < length vs → length out ≡ length vs * w → b ≡ bytes (length (take (i * w + w - i * w) (drop (i * w) out))) (get_or vs i 0)
    → take ((i + 1) * w) (take (i * w) out ++ (b ++ more)) ++ encoded (replicate (length vs - (i + 1)) w) (drop (i + 1) vs) ≡ take (i * w) out ++ encoded (replicate (length vs - i) w) (drop i vs)
unfolding encoded
put-turn w vs out b more i h l e =
    let k : length vs - i ≡ suc (length vs - (i + 1)) = omega arith in
    let m : (i + 1) * w ≤ length vs * w = mul-le-mul {n₁ = i + 1} {m₁ = w} {n₂ = length vs} {m₂ = w} (omega arith) (omega arith) in
    let p : length (take (i * w + w - i * w) (drop (i * w) out)) ≡ w = length-take-le (i * w + w - i * w) (drop (i * w) out) (omega (arith, length-drop (i * w) out)) ∙ (omega arith) in
    let f : b ≡ bytes w (get_or vs i 0) = rw p at e in
    let n : length (take (i * w) out ++ b) ≡ (i + 1) * w = simp (length-append, length-take-le (i * w) out (omega arith), f, length-bytes) (omega arith) in
    rw (← append_assoc (take (i * w) out) b more, take_at (take (i * w) out ++ b) more ((i + 1) * w) n, k, front vs i h, f, append_assoc)

pub put-end : (w : ℕ) (vs out : List ℕ) (i : ℕ) → length vs ≤ i → length out ≡ length vs * w → i ≤ length vs → take (i * w) out ++ encoded (replicate (length vs - i) w) (drop i vs) ≡ out
unfolding encoded
put-end w vs out i h l m =
    let e : i ≡ length vs = omega arith in
    let k : length vs - length vs ≡ zero = omega arith in
    rw (e, k, append-nil, take_all (length vs * w) out (omega arith))

-- ---- lists of widths and of numbers that fit
pub fit_length : (ws vs : List ℕ) → Fit ws vs → length vs ≡ length ws
fit_length [] [] f = refl
fit_length [] (v ∷ vs) f = absurd f
fit_length (w ∷ ws) [] f = absurd f
fit_length (w ∷ ws) (v ∷ vs) f = ap suc (fit_length ws vs f.1)

-- widths as wide as others, one by one
abbrev pub Wider : List ℕ → List ℕ → Type 0
Wider [] [] = Unit
Wider [] (u ∷ us) = ⊥
Wider (w ∷ ws) [] = ⊥
Wider (w ∷ ws) (u ∷ us) = (w ≤ u) × Wider ws us

pub fit-wider : (ws us vs : List ℕ) → Wider ws us → Fit ws vs → Fit us vs
fit-wider [] [] vs l f = f
fit-wider [] (u ∷ us) vs l f = absurd l
fit-wider (w ∷ ws) [] vs l f = absurd l
fit-wider (w ∷ ws) (u ∷ us) [] l f = f
fit-wider (w ∷ ws) (u ∷ us) (v ∷ vs) l f =
    (omega (arith, f.0, pow-le-pow_right {n = 256} (omega arith) {i = w} {j = u} l.0), fit-wider ws us vs l.1 f.1)

pub wider-at : (ws : List ℕ) (n : ℕ) → Wider ws (replicate (length ws) n) → (i : ℕ) → get_or ws i 0 ≤ n
wider-at [] n l i = omega arith
wider-at (w ∷ ws) n l zero = l.0
wider-at (w ∷ ws) n l (suc i) = wider-at ws n l.1 i

-- ---- numbers of one width, where they fit and where they don't
pub length-encoded-same : (w : ℕ) (vs : List ℕ) → length (encoded (replicate (length vs) w) vs) ≡ length vs * w
unfolding encoded
length-encoded-same w [] = sym (zero-mul w)
length-encoded-same w (v ∷ vs) = simp (length-append, length-bytes, length-encoded-same w vs, suc-mul) (omega arith)

module _ (at w : ℕ) (vs s : List ℕ) where
  length-items : length (encoded (replicate (length vs) w) vs) ≡ length vs * w
  length-items = length-encoded-same w vs

  pub put-items-in : w ≤ 8 → at + length vs * w ≤ length s → written at (encoded (replicate (length vs) w) vs) s ≡ put_items at w vs s
  put-items-in l h = simp (le-leb w 8 l) (put_in at (encoded (replicate (length vs) w) vs) s (omega (arith, length-items)))

-- how long what is written is, and that numbers are read of their bytes alone
pub ruleset sizes = (length-bytes, length-encoded-same, decoded-part)
