-- Laws of numbers in bytes, over any width: there and back. Assumes nothing.
use mathlib.Core.Path.{◌≡◌, refl, ap}
use mathlib.Core.List.{List, [], ◌∷◌, ◌++◌, append_assoc, append-nil}
use Prim.Native.Nat.{ℕ, zero, suc, ◌+◌, ◌-◌, ◌*◌, ◌/◌, ◌%◌, ◌^◌, ◌<◌, ◌≤◌}
use native.Mathlib.Nat.{pow-suc}
use native.Mathlib.Numerals.{add-one}
use native.Mathlib.Omega.{arith}
use lib.ListN.{length, get_or, set, take, drop, replicate}
use lib.Seq.{drop-cons, take-suc-set, take_all}
use Rattle.std.proofs.Common.{w64}
use Rattle.std.specs.Int.{from_le_bytes}
use Rattle.le_bytes.specs.Bytes.{bytes, number, Bytes}

pub length-bytes : (k n : ℕ) → length (bytes k n) ≡ k
unfolding bytes
length-bytes zero n = refl
length-bytes (suc k) n = ap suc (length-bytes k (n / 256))

pub bytes-bytes : (k n : ℕ) → Bytes (bytes k n)
unfolding bytes
bytes-bytes zero n = tt
bytes-bytes (suc k) n = (omega arith, bytes-bytes k (n / 256))

-- a number that fits is read again
pub number-bytes : (k n : ℕ) → n < 256 ^ k → number (bytes k n) ≡ n
unfolding bytes number
number-bytes zero n h = omega arith
number-bytes (suc k) n h =
    let ih : number (bytes k (n / 256)) ≡ n / 256 = number-bytes k (n / 256) (omega (arith, pow-suc 256 k)) in
    omega arith

-- bytes are those of the number that they are
pub bytes-number : (bs : List ℕ) → Bytes bs → bytes (length bs) (number bs) ≡ bs
unfolding bytes number
bytes-number [] h = refl
bytes-number (b ∷ bs) h =
    let m : (b + 256 * number bs) % 256 ≡ b = omega (arith, h.0) in
    let d : (b + 256 * number bs) / 256 ≡ number bs = omega (arith, h.0) in
    rw (m, d, bytes-number bs h.1)

pub number-below : (bs : List ℕ) → Bytes bs → number bs < 256 ^ length bs
unfolding number
number-below [] h = omega arith
number-below (b ∷ bs) h = omega (arith, h.0, number-below bs h.1, pow-suc 256 (length bs))

-- ---- bytes
pub bytes-all : (s : List ℕ) → ((i : ℕ) → get_or s i 0 < 256) → Bytes s
bytes-all [] f = tt
bytes-all (b ∷ bs) f = (f 0, bytes-all bs (λ i. f (suc i)))

pub bytes-append : (s t : List ℕ) → Bytes s → Bytes t → Bytes (s ++ t)
bytes-append [] t h l = l
bytes-append (b ∷ bs) t h l = (h.0, bytes-append bs t h.1 l)

pub bytes_take : (n : ℕ) (s : List ℕ) → Bytes s → Bytes (take n s)
bytes_take zero s h = tt
bytes_take (suc n) [] h = tt
bytes_take (suc n) (b ∷ bs) h = (h.0, bytes_take n bs h.1)

pub bytes_drop : (n : ℕ) (s : List ℕ) → Bytes s → Bytes (drop n s)
bytes_drop zero s h = h
bytes_drop (suc n) [] h = tt
bytes_drop (suc n) (b ∷ bs) h = bytes_drop n bs h.1

-- ---- the byte at a place
pub front : (s : List ℕ) (i : ℕ) → i < length s → drop i s ≡ get_or s i 0 ∷ drop (i + 1) s
front s i h = rw add-one (drop-cons s i 0 h)

-- ---- at most eight bytes, with zeros behind them, are read at once
pub number-read : (s : List ℕ) → length s ≤ 8 → from_le_bytes w64 (s ++ drop (length s) (replicate 8 0)) ≡ number s
unfolding number
number-read [] l = omega arith
number-read (a ∷ []) l = omega arith
number-read (a ∷ b ∷ []) l = omega arith
number-read (a ∷ b ∷ c ∷ []) l = omega arith
number-read (a ∷ b ∷ c ∷ d ∷ []) l = omega arith
number-read (a ∷ b ∷ c ∷ d ∷ e ∷ []) l = omega arith
number-read (a ∷ b ∷ c ∷ d ∷ e ∷ f ∷ []) l = omega arith
number-read (a ∷ b ∷ c ∷ d ∷ e ∷ f ∷ g ∷ []) l = omega arith
number-read (a ∷ b ∷ c ∷ d ∷ e ∷ f ∷ g ∷ h ∷ []) l = omega arith
number-read (a ∷ b ∷ c ∷ d ∷ e ∷ f ∷ g ∷ h ∷ i ∷ s) l = absurd (omega arith)

-- ---- a turn of the writing loop
pub bytes-turn : (s : List ℕ) (i n : ℕ) → i < length s → take (i + 1) (set s i (n % 256)) ++ bytes (length s - (i + 1)) (n / 256) ≡ take i s ++ bytes (length s - i) n
unfolding bytes
bytes-turn s i n h =
    let k : length s - i ≡ suc (length s - (i + 1)) = omega arith in
    let t : take (i + 1) (set s i (n % 256)) ≡ take i s ++ (n % 256 ∷ []) = rw add-one (take-suc-set s i (n % 256) h) in
    rw (t, k, append_assoc)

pub bytes-end : (s : List ℕ) (i n : ℕ) → length s ≤ i → take i s ++ bytes (length s - i) n ≡ s
unfolding bytes
bytes-end s i n h = let k : length s - i ≡ zero = omega arith in rw (k, append-nil, take_all i s h)
