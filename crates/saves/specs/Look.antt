-- What a look over a buffer finds: `LookedAs`. The rest is between the functions that it is made of.
use Rattle.std.specs.Prelude.{ℕ, ◌*◌, ◌≤◌, ◌≡◌, ◌==◌, nat_eq, Option, Some, None, Result, Ok, Err, Bool, true, false, List, [], ◌∷◌, ◌++◌, length, take, drop}
use Rattle.std.specs.List.{list_any}
use Rattle.std.specs.Option.{option_eq}
use Rattle.error.specs.declared.Refusal.{Refusal}
use Rattle.error.specs.declared.Refusal.TheVariants.{Damaged}
use Rattle.le_bytes.specs.Bytes.{number}
use Rattle.blocks.specs.Run.{count_of, run_of}
use Rattle.body.specs.Save.{Save, Good, body_of}
use Rattle.saves.specs.declared.Stands.{Stands}
use Rattle.saves.specs.Buffer.{runs_of, same_bytes, is_there, AllGood, wrong, saves, Reads}

-- what stands at the front of bytes: the run of one save, or none
abbrev pub StandsAs : List ℕ → Option Stands → Type 0
StandsAs bs (Some x) =
    (s : Save) × Good s × (bs ≡ run_of 1 (body_of s) ++ drop (512 * count_of x.size) bs) × (512 * count_of x.size ≤ length bs) × (length (body_of s) ≡ x.size) × (number s.name ≡ x.name)
StandsAs bs None = (s : Save) (rest : List ℕ) → Good s → bs ≡ run_of 1 (body_of s) ++ rest → ⊥

-- how long the body of a save is
abbrev pub SizeFits : Option Stands → Type 0
SizeFits (Some x) = (86 ≤ x.size) × (x.size ≤ 32854)
SizeFits None = Unit

-- whether a number is among others
unfoldable pub is_listed : ℕ → List ℕ → Bool
is_listed n xs = list_any (λ x. x == n) xs

-- whether a name, as a number, is the asked one
abbrev pub is_asked : Option ℕ → ℕ → Bool
is_asked asked n = option_eq nat_eq asked (Some n)

-- the names of saves, as numbers
unfoldable pub numbers_of : List Save → List ℕ
numbers_of [] = []
numbers_of (s ∷ ss) = number s.name ∷ numbers_of ss

-- where a name is among saves: past those before it, or nowhere
pub data Placed (asked : Option ℕ) (ss : List Save) : Option ℕ → Type 0 where
  absent : list_any (is_asked asked) (numbers_of ss) ≡ false → Placed asked ss None
  present : (before : List Save) (x : Save) (behind : List Save) → ss ≡ before ++ x ∷ behind → is_asked asked (number x.name) ≡ true → Placed asked ss (Some (length (runs_of before)))

-- what a walk over bytes finds: the saves that they are, and the place of the asked name; 13 where they are no saves
abbrev pub WalkedAs : List ℕ → Option ℕ → Result (Option ℕ) Refusal → Type 0
WalkedAs bs asked (Ok place) = (ss : List Save) × AllGood ss × (bs ≡ runs_of ss) × Placed asked ss place
WalkedAs bs asked (Err r) = (r ≡ Damaged) × ((ss : List Save) → AllGood ss → bs ≡ runs_of ss → ⊥)

-- what is found in a buffer, and the save of the asked name with its place
abbrev pub LookedAs : List ℕ → ℕ → List ℕ → Result (Option ℕ) Refusal → Type 0
LookedAs buffer used name (Err r) = Reads buffer used (wrong r)
LookedAs buffer used name (Ok None) = (ss : List Save) × Reads buffer used (saves ss) × (is_there name ss ≡ false)
LookedAs buffer used name (Ok (Some p)) =
    (ss : List Save) × Reads buffer used (saves ss) × (before : List Save) × (x : Save) × (behind : List Save) × AllGood (before ++ x ∷ behind) × (ss ≡ before ++ x ∷ behind) × (p ≡ length (runs_of before))
    × (same_bytes name x.name ≡ true) × (take used buffer ≡ runs_of (before ++ x ∷ behind))
