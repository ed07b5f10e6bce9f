-- "Numbers are little-endian": numbers in bytes, numbers of given widths one after another, and what is written over a buffer. Definitions only.
use Rattle.std.specs.Prelude.{ℕ, zero, suc, ◌+◌, ◌*◌, ◌/◌, ◌%◌, ◌^◌, ◌<◌, Bool, ◌&&◌, List, [], ◌∷◌, ◌++◌, leb, length, take, drop, replicate, if◌then◌else◌}

-- n in k bytes, the least first
unfoldable pub bytes : ℕ → ℕ → List ℕ
bytes zero n = []
bytes (suc k) n = n % 256 ∷ bytes k (n / 256)

-- the number that bytes are
unfoldable pub number : List ℕ → ℕ
number [] = 0
number (b ∷ bs) = b + 256 * number bs

-- numbers one after another, each in its width
unfoldable pub encoded : List ℕ → List ℕ → List ℕ
encoded [] vs = []
encoded (w ∷ ws) [] = []
encoded (w ∷ ws) (v ∷ vs) = bytes w v ++ encoded ws vs

-- the numbers at the front of bytes, by their widths
unfoldable pub decoded : List ℕ → List ℕ → List ℕ
decoded [] bs = []
decoded (w ∷ ws) bs = number (take w bs) ∷ decoded ws (drop w bs)

-- how many bytes widths take
unfoldable pub room : List ℕ → ℕ
room [] = 0
room (w ∷ ws) = w + room ws

-- each number fits its width: a width of 0 holds 0 alone
abbrev pub Fit : List ℕ → List ℕ → Type 0
Fit [] [] = Unit
Fit [] (v ∷ vs) = ⊥
Fit (w ∷ ws) [] = ⊥
Fit (w ∷ ws) (v ∷ vs) = (v < 256 ^ w) × Fit ws vs

-- every element is a byte
abbrev pub Bytes : List ℕ → Type 0
Bytes [] = Unit
Bytes (b ∷ bs) = (b < 256) × Bytes bs

-- ---- a buffer

-- whether n bytes from a place on lie in it
abbrev pub within : ℕ → ℕ → List ℕ → Bool
within at n s = leb (at + n) (length s)

-- xs written over s from a place on
abbrev pub written : ℕ → List ℕ → List ℕ → List ℕ
written at xs s = take at s ++ (xs ++ drop (at + length xs) s)

-- the same where they fit; else nothing is written
abbrev pub put_at : ℕ → List ℕ → List ℕ → List ℕ
put_at at xs s = if within at (length xs) s then written at xs s else s

-- the number of w bytes at a place, of which a u64 holds eight; 0 where there are not so many
abbrev pub number_at : ℕ → ℕ → List ℕ → ℕ
number_at at w s = if leb w 8 && within at w s then number (take w (drop at s)) else 0

-- numbers of w bytes each, written where they fit
abbrev pub put_items : ℕ → ℕ → List ℕ → List ℕ → List ℕ
put_items at w vs s = if leb w 8 then put_at at (encoded (replicate (length vs) w) vs) s else s

-- as many numbers of w bytes as xs has; xs where there are not so many
abbrev pub items_at : ℕ → ℕ → List ℕ → List ℕ → List ℕ
items_at at w xs s = if leb w 8 && within at (length xs * w) s then decoded (replicate (length xs) w) (drop at s) else xs
