-- W-201: a buffer of saves: what its used part holds, and the refusals in their order, "each over all used blocks". Definitions only.
use Rattle.std.specs.Prelude.{ℕ, ◌/◌, ◌%◌, ◌≡◌, Bool, true, false, ◌&&◌, ◌||◌, List, [], ◌∷◌, ◌++◌, leb, eqb, length, take}
use Rattle.error.specs.declared.Refusal.{Refusal}
use Rattle.error.specs.declared.Refusal.TheVariants.{Damaged, Version}
use Rattle.blocks.specs.Block.{summed, versioned}
use Rattle.blocks.specs.Run.{every, run_of}
use Rattle.body.specs.Save.{Save, Good, body_of}

-- ---- the saves that bytes hold, by writing alone

-- their runs, of version 1, one after another
unfoldable pub runs_of : List Save → List ℕ
runs_of [] = []
runs_of (s ∷ ss) = run_of 1 (body_of s) ++ runs_of ss

-- "a name is equal when its eight bytes are"
unfoldable pub same_bytes : List ℕ → List ℕ → Bool
same_bytes [] [] = true
same_bytes [] (y ∷ ys) = false
same_bytes (x ∷ xs) [] = false
same_bytes (x ∷ xs) (y ∷ ys) = eqb x y && same_bytes xs ys

-- whether there is a save of this name
unfoldable pub is_there : List ℕ → List Save → Bool
is_there name [] = false
is_there name (s ∷ ss) = same_bytes name s.name || is_there name ss

-- every save is good, and no name is there twice
abbrev pub AllGood : List Save → Type 0
AllGood [] = Unit
AllGood (s ∷ ss) = Good s × (is_there s.name ss ≡ false) × AllGood ss

-- ---- what is read of a buffer and its used length

pub data Reading : Type 0 where
  wrong : Refusal → Reading
  saves : List Save → Reading

-- "a buffer over 65,536 bytes, a used length past it, either not whole blocks"
unfoldable pub framed : ℕ → ℕ → Bool
framed size used = leb size 65536 && (leb used size && (eqb (size % 512) 0 && eqb (used % 512) 0))

-- "13 for … or a wrong sum; 14 for a version other than 1; 13 again for a wrong header, body or zero byte, a name twice or a record that isn't
-- sound": then no saves make these bytes. A buffer is read in one way only (`one-reading` of proofs/One.antt).
pub data Reads (buffer : List ℕ) (used : ℕ) : Reading → Type 0 where
  sizes : framed (length buffer) used ≡ false → Reads buffer used (wrong Damaged)
  sums : framed (length buffer) used ≡ true → every summed (used / 512) (take used buffer) ≡ false → Reads buffer used (wrong Damaged)
  versions : framed (length buffer) used ≡ true → every summed (used / 512) (take used buffer) ≡ true → every versioned (used / 512) (take used buffer) ≡ false
      → Reads buffer used (wrong Version)
  rest : framed (length buffer) used ≡ true → every summed (used / 512) (take used buffer) ≡ true → every versioned (used / 512) (take used buffer) ≡ true
      → ((ss : List Save) → AllGood ss → take used buffer ≡ runs_of ss → ⊥) → Reads buffer used (wrong Damaged)
  all : framed (length buffer) used ≡ true → every summed (used / 512) (take used buffer) ≡ true → every versioned (used / 512) (take used buffer) ≡ true
      → (ss : List Save) → AllGood ss → take used buffer ≡ runs_of ss → Reads buffer used (saves ss)
