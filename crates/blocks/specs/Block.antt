-- W-201: a block of 512 bytes, how it is written and what its check meets. Definitions only.
use Rattle.std.specs.Prelude.{ℕ, ◌+◌, ◌-◌, ◌*◌, Bool, true, not, ◌&&◌, List, [], ◌∷◌, ◌++◌, Result, Ok, Err, ltb, leb, eqb, length, take, drop, replicate, if◌then◌else◌}
use Rattle.error.specs.Told.{Told, tell, told_by}
use Rattle.error.specs.declared.Refusal.{Refusal}
use Rattle.error.specs.declared.Refusal.TheVariants.{Damaged, Version}
use Rattle.le_bytes.specs.Bytes.{bytes, number, encoded}

-- ---- how it is written

-- "the sum of byte × (position + 1)", from position p on
unfoldable pub sum_from : ℕ → List ℕ → ℕ
sum_from p [] = 0
sum_from p (b ∷ bs) = b * (p + 1) + sum_from (p + 1) bs

-- "Bytes 0 and 1 of a block are the version … Bytes 2 and 3 are its index from 0, 4 and 5 the run's block count, 6 and 7 its used body length."
unfoldable pub headed : ℕ → ℕ → ℕ → ℕ → List ℕ
headed version index count used = encoded (2 ∷ 2 ∷ 2 ∷ 2 ∷ []) (version ∷ index ∷ count ∷ used ∷ [])

-- "Bytes 8 to 503 are body; unused ones and 504 to 507 are 0."
unfoldable pub filled : ℕ → ℕ → ℕ → List ℕ → List ℕ
filled version index count part = headed version index count (length part) ++ (part ++ replicate (500 - length part) 0)

-- "Bytes 508 to 511 hold the sum of byte × (position + 1) over positions 0 to 503."
unfoldable pub block : ℕ → ℕ → ℕ → List ℕ → List ℕ
block version index count part = filled version index count part ++ bytes 4 (sum_from 0 (take 504 (filled version index count part)))

-- "no block is empty, and none but the last is part full"
unfoldable pub may_hold : ℕ → ℕ → ℕ → Bool
may_hold index count used = ltb index count && (if ltb (index + 1) count then eqb used 496 else ltb 0 used && leb used 496)

-- ---- what is read of it

abbrev pub version_in : List ℕ → ℕ
version_in b = number (take 2 (drop 0 b))

abbrev pub index_in : List ℕ → ℕ
index_in b = number (take 2 (drop 2 b))

abbrev pub count_in : List ℕ → ℕ
count_in b = number (take 2 (drop 4 b))

abbrev pub used_in : List ℕ → ℕ
used_in b = number (take 2 (drop 6 b))

-- "a wrong sum"
abbrev pub summed : List ℕ → Bool
summed b = eqb (number (take 4 (drop 508 b))) (sum_from 0 (take 504 b))

-- "a version other than 1"
abbrev pub known : ℕ → Bool
known version = eqb version 1

abbrev pub versioned : List ℕ → Bool
versioned b = known (version_in b)

-- every byte is 0
unfoldable pub zeros : List ℕ → Bool
zeros [] = true
zeros (b ∷ bs) = eqb b 0 && zeros bs

-- "a wrong header … or zero byte", of one block alone
abbrev pub proper : List ℕ → Bool
proper b = may_hold (index_in b) (count_in b) (used_in b) && zeros (take (500 - used_in b) (drop (8 + used_in b) b))

-- ---- the check of a block by itself: 13, 14, 13

abbrev pub judged_block : {A : Type 0} → (Refusal → A) → A → List ℕ → A
judged_block refusal passes b =
    if not (eqb (length b) 512 && summed b) then refusal Damaged
    else if not (versioned b) then refusal Version
    else if not (proper b) then refusal Damaged
    else passes

-- "A check that passes gives back the used body as a part of the caller's block." No block is empty: an empty part is a check that doesn't pass.
abbrev pub used_body : List ℕ → List ℕ
used_body b = judged_block (λ r. []) (take (used_in b) (drop 8 b)) b

-- told as numbers: where the used body begins in the block, and how long it is
abbrev pub judged_told : Result ℕ Refusal → Told
judged_told r = told_by (λ used. tell 0 (8 ∷ used ∷ [])) r

abbrev pub check_told : List ℕ → Told
check_told b = judged_told (judged_block Err (Ok (used_in b)) b)
