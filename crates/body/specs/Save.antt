-- W-201: a breaker saved under a name, and its bytes: "The joined body is the name, the record in document 01's order, then the list, 1 or 8
-- bytes an item". Definitions only.
use Rattle.std.specs.Prelude.{ℕ, ◌+◌, ◌*◌, ◌≡◌, Option, Some, None, Bool, true, ◌&&◌, List, ◌++◌, map, eqb, leb, length, replicate, if◌then◌else◌}
use Rattle.history.specs.declared.Items.{Items}
use Rattle.history.specs.declared.Items.TheVariants as ItemsIs
use Rattle.history.specs.Items.{all_below, padded, view}
use Rattle.breaker.specs.declared.Breaker.{Breaker}
use Rattle.breaker.specs.Record.{record_fields, items_of, sound}
use Rattle.le_bytes.specs.Bytes.{encoded, room, written, Fit}

pub record Save : Type 0 where
  pub name : List ℕ
  pub breaker : Breaker
  pub items : List ℕ

-- ---- "the record in document 01's order"

abbrev pub widths : List ℕ
widths = map (λ f. f.width) record_fields

abbrev pub fields_of : Breaker → List ℕ
fields_of b = map (λ f. f.value b) record_fields

-- ---- "then the list, 1 or 8 bytes an item"

abbrev pub item_width : Items → ℕ
item_width ItemsIs.Nothing = 1
item_width (ItemsIs.Outcomes window) = 1
item_width ItemsIs.Times = 8

abbrev pub width_of : Breaker → ℕ
width_of b = item_width (items_of b.config)

-- ---- the body

abbrev pub body_of : Save → List ℕ
body_of s =
    s.name ++ (encoded widths (fields_of s.breaker) ++ encoded (replicate (length s.items) (width_of s.breaker)) s.items)

-- its length: 8 for the name, the record, the list
abbrev pub size_of : Breaker → ℕ
size_of b = 8 + room widths + b.shared.len * width_of b

-- "a name of eight ASCII bytes"
abbrev pub is_name : List ℕ → Bool
is_name name = eqb (length name) 8 && all_below 128 name

-- a save that may stand in a buffer: a name, and a sound breaker of numbers that fit their widths
pub record Good (s : Save) : Type 0 where
  pub named : is_name s.name ≡ true
  pub fields : Fit widths (fields_of s.breaker)
  pub counted : s.breaker.shared.len ≡ length s.items
  pub items : Fit (replicate (length s.items) (width_of s.breaker)) s.items
  pub is_sound : sound s.breaker (padded s.items) ≡ true

-- what is saved of a breaker and its storage
abbrev pub save_of : List ℕ → Breaker → List ℕ → Save
save_of name b s = record { name = name; breaker = b; items = view b.shared.len s }

-- its body at the front of a buffer, where there is a name, a list and room
abbrev pub put_save : List ℕ → Breaker → List ℕ → List ℕ → List ℕ
put_save name b s out =
    if eqb (length name) 8 && (leb b.shared.len (length s) && leb (size_of b) (length out)) then written 0 (body_of (save_of name b s)) out
    else out

-- what is read of bytes: the breaker of the save that they are the body of, or that they are none, by writing alone
abbrev pub BodyRead : List ℕ → Option Breaker → Type 0
BodyRead bs (Some b) = (s : Save) × Good s × (bs ≡ body_of s) × (s.breaker ≡ b)
BodyRead bs None = (s : Save) → Good s → bs ≡ body_of s → ⊥
