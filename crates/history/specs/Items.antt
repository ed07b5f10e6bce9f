-- "The list lies in lent storage of 4,096 places, oldest first from place 0: outcomes (1 failed, 0 good) for Ratio, readings for
-- Windowed, empty for Consecutive; places past its length hold 0."
use Rattle.std.specs.Prelude.{ℕ, ◌+◌, ◌-◌, Bool, true, ◌&&◌, List, [], ◌∷◌, ◌++◌, length, take, drop, replicate, ◌==◌, nat_le, nat_lt, if◌then◌else◌}
use Rattle.history.specs.declared.Items.{Items}
use Rattle.history.specs.declared.Items.TheVariants.{Nothing, Outcomes, Times}

-- the list that lies in the storage s at the length len
abbrev pub view : ℕ → List ℕ → List ℕ
view len s = take len s

-- the storage of a list: the list, then 0 up to 4,096 places
abbrev pub padded : List ℕ → List ℕ
padded xs = xs ++ replicate (4096 - length xs) 0

-- whether every item is below b
unfoldable pub all_below : ℕ → List ℕ → Bool
all_below b [] = true
all_below b (x ∷ xs) = nat_lt x b && all_below b xs

-- "length ≤ window for Ratio, ≤ 4,096 for Windowed", "empty for Consecutive"; the window is within number 2's limit
abbrev pub fits : Items → ℕ → Bool
fits Nothing len = len == 0
fits (Outcomes window) len = nat_le 1 window && (nat_le window 4096 && nat_le len window)
fits Times len = nat_le len 4096

-- "outcomes (1 failed, 0 good)"
abbrev pub are_items : Items → List ℕ → Bool
are_items Nothing xs = true
are_items (Outcomes window) xs = all_below 2 xs
are_items Times xs = true

-- whether the storage s with the length len holds a list of the kind
unfoldable pub sound_list : Items → ℕ → List ℕ → Bool
sound_list items len s = length s == 4096 && (fits items len && (all_below 1 (drop len s) && are_items items (view len s)))

-- the sum of what each item counts
unfoldable pub sum_of : (ℕ → ℕ) → List ℕ → ℕ
sum_of f [] = 0
sum_of f (x ∷ xs) = f x + sum_of f xs

-- how many outcomes failed
abbrev pub failures : List ℕ → ℕ
failures xs = sum_of (λ x. if x == 1 then 1 else 0) xs

-- the sum of the items, which is `failures` for a list of outcomes (`sum-failures` of proofs/Counts.antt)
abbrev pub item_sum : List ℕ → ℕ
item_sum xs = sum_of (λ x. x) xs

-- "the times ≥ cutoff": how many
abbrev pub recent : ℕ → List ℕ → ℕ
recent cutoff ts = sum_of (λ t. if nat_le cutoff t then 1 else 0) ts

-- "the newest `window` outcomes"
abbrev pub newest : ℕ → List ℕ → List ℕ
newest window xs = drop (length xs - window) xs

-- "times at the front below the cutoff go"
unfoldable pub evicted : ℕ → List ℕ → List ℕ
evicted cutoff [] = []
evicted cutoff (t ∷ ts) = if nat_lt t cutoff then evicted cutoff ts else t ∷ ts

-- ---- what a policy records

-- "cutoff = reading − period, not below 0"
abbrev pub cutoff_of : ℕ → ℕ → ℕ
cutoff_of reading period = reading - period

-- Ratio: the outcome is appended, and "the newest `window` outcomes" stay
abbrev pub with_outcome : ℕ → ℕ → List ℕ → List ℕ
with_outcome window o xs = newest window (xs ++ o ∷ [])

-- Windowed: "A failure's reading is appended; then times at the front below the cutoff go."
abbrev pub with_time : ℕ → ℕ → List ℕ → List ℕ
with_time reading period xs = evicted (cutoff_of reading period) (xs ++ reading ∷ [])

-- "A success evicts too."
abbrev pub without_expired : ℕ → ℕ → List ℕ → List ℕ
without_expired reading period xs = evicted (cutoff_of reading period) xs
