-- W-201: "A save is a run of 512-byte blocks". A body's run, and what is found of one, by writing alone. Definitions only.
use Rattle.std.specs.Prelude.{ℕ, zero, suc, ◌+◌, ◌*◌, ◌/◌, ◌<◌, ◌≤◌, ◌≡◌, Bool, true, ◌&&◌, List, [], ◌++◌, Option, Some, None, leb, length, take, drop, if◌then◌else◌}
use Rattle.le_bytes.specs.Bytes.{Bytes, put_at, written}
use Rattle.blocks.specs.Block.{block, may_hold, summed}
use Rattle.blocks.specs.declared.Run.{Run}

-- ---- how it is written

-- k blocks from an index on, of what is left of a body
unfoldable pub blocks_from : ℕ → ℕ → ℕ → ℕ → List ℕ → List ℕ
blocks_from version count index zero body = []
blocks_from version count index (suc k) body = block version index count (take 496 body) ++ blocks_from version count (index + 1) k (drop 496 body)

-- how many blocks a body takes: "no block is empty, and none but the last is part full"
abbrev pub count_of : ℕ → ℕ
count_of size = (size + 495) / 496

-- the run of a body
unfoldable pub run_of : ℕ → List ℕ → List ℕ
run_of version body = blocks_from version (count_of (length body)) 0 (count_of (length body)) body

-- a body that a run of a buffer can hold: at most 128 blocks
pub record Body (version : ℕ) (body : List ℕ) : Type 0 where
  pub two_bytes : version < 65536
  pub some : 0 < length body
  pub most : length body ≤ 63488
  pub bytes : Bytes body

-- its run over a buffer, where it fits
abbrev pub put_run : ℕ → ℕ → List ℕ → List ℕ → List ℕ
put_run at version body s = if leb (length body) 63488 then put_at at (run_of version body) s else s

-- ---- what is read of it

-- every block (k of them) passes a test
unfoldable pub every : (List ℕ → Bool) → ℕ → List ℕ → Bool
every p zero bs = true
every p (suc k) bs = p (take 512 bs) && every p k (drop 512 bs)

-- the sum of every block is right
abbrev pub Summed : List ℕ → Type 0
Summed bs = every summed (length bs / 512) bs ≡ true

-- the body bytes of k blocks, joined
unfoldable pub joined : ℕ → List ℕ → List ℕ
joined zero bs = []
joined (suc k) bs = take 496 (drop 8 bs) ++ joined k (drop 512 bs)

-- the first n of them
abbrev pub body_in : ℕ → List ℕ → List ℕ
body_in n bs = take n (joined (count_of n) bs)

-- put at the front of a buffer, where it is there and fits
abbrev pub put_body : ℕ → List ℕ → List ℕ → List ℕ
put_body n bs s = if leb n 63488 && (leb n (length s) && leb (512 * count_of n) (length bs)) then written 0 (body_in n bs) s else s

-- Internal: what is found of one block, its used length, or that it is none of this version, index and count
abbrev pub UsedIn : List ℕ → ℕ → ℕ → ℕ → Option ℕ → Type 0
UsedIn b version index count (Some used) = (b ≡ block version index count (take used (drop 8 b))) × (may_hold index count (length (take used (drop 8 b))) ≡ true)
UsedIn b version index count None = (part : List ℕ) → may_hold index count (length part) ≡ true → b ≡ block version index count part → ⊥

-- what stands at the front of bytes: the run of one body, or none
abbrev pub Finds : List ℕ → Option Run → Type 0
Finds bs (Some r) =
    Body r.version (body_in r.size bs) × (length (body_in r.size bs) ≡ r.size) × (bs ≡ run_of r.version (body_in r.size bs) ++ drop (512 * count_of r.size) bs)
Finds bs None = (version : ℕ) (body rest : List ℕ) → Body version body → bs ≡ run_of version body ++ rest → ⊥
