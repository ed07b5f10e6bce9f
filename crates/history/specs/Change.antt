-- What a call that changes the list answers, and what it leaves in every place.
use Rattle.std.specs.Prelude.{ℕ, ◌-◌, max, Bool, not, leb, List, [], ◌∷◌, ◌++◌, length, drop, replicate, ◌==◌, nat_le, Result, Ok, Err, if◌then◌else◌}
use Rattle.error.specs.Told.{Told, tell, told_by}
use Rattle.error.specs.declared.Refusal.{Refusal}
use Rattle.error.specs.declared.Refusal.TheVariants.{Storage, Unsound, Full}
use Rattle.history.specs.declared.Items.{Items}
use Rattle.history.specs.declared.Items.TheVariants.{Times}
use Rattle.history.specs.Items.{view, padded, fits, evicted}

-- the number of the table, 0 for a change that was made, with the new length
abbrev pub told : Result ℕ Refusal → Told
told answer = told_by (λ n. tell 0 (n ∷ [])) answer

-- what a call leaves: what it told and every place
pub record Left : Type 0 where
  pub answer : Told
  pub places : List ℕ

abbrev pub left : Told → List ℕ → Left
left a s = record { answer = a; places = s }

-- the list xs laid over the n items in s: places of the n items past xs hold 0, and places past both are as they were
abbrev pub laid : ℕ → List ℕ → List ℕ → List ℕ
laid n xs s = xs ++ (replicate (n - length xs) 0 ++ drop (max n (length xs)) s)

-- the n items in s become xs
abbrev pub become : List ℕ → ℕ → List ℕ → Left
become xs n s = left (told (Ok (length xs))) (laid n xs s)

-- the list xs in storage of its own: what a change leaves of a sound list
abbrev pub held : List ℕ → Left
held xs = left (told (Ok (length xs))) (padded xs)

-- refused with every place as it was
abbrev pub refuse : Refusal → List ℕ → Left
refuse r s = left (told (Err r)) s

-- 3 for storage of other than 4,096 places, then 4 for a length that a list of the kind can't have, else the change
abbrev pub on_list : Items → ℕ → List ℕ → Left → Left
on_list items n s change =
    if not (length s == 4096) then refuse Storage s
    else if not (fits items n) then refuse Unsound s
    else change

-- number 5's cause: "4,096 older times left after eviction"
abbrev pub full : ℕ → List ℕ → Bool
full cutoff xs = nat_le 4096 (length (evicted cutoff xs))

-- so many of the oldest items go, and new ones are appended, if there is room for them
unfoldable pub replaced : ℕ → List ℕ → ℕ → List ℕ → Left
replaced gone new n s =
    let xs = drop gone (view n s) ++ new in
    on_list Times n s (if leb (length xs) 4096 then become xs n s else refuse Full s)

-- the list is emptied
unfoldable pub cleared : ℕ → List ℕ → Left
cleared n s = on_list Times n s (become [] n s)
