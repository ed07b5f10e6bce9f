-- What is found in a buffer, from its passes. Assumes nothing.
use Rattle.std.proofs.Common.{◌≡◌, ℕ, ◌/◌, Bool, true, ◌||◌, List, [], ◌∷◌, ◌++◌, Option, Some, None, Result, Ok, Err, length, take, sym, refl, ap, ap₂, subst, ◌∙◌, length-take-le}
use Rattle.saves.proofs.Names.{framed→}
use Rattle.std.specs.List.{list_any}
use Rattle.error.specs.declared.Refusal.{Refusal}
use Rattle.le_bytes.specs.Bytes.{number}
use Rattle.blocks.specs.Block.{summed, versioned}
use Rattle.blocks.specs.Run.{every}
use Rattle.body.specs.Save.{Save, Good, is_name}
use Rattle.saves.specs.Buffer.{runs_of, same_bytes, is_there, AllGood, framed, all, rest}
use Rattle.saves.specs.Look.{is_asked, numbers_of, Placed, absent, present, WalkedAs, LookedAs}

-- the asked name, by its number
abbrev pub Asks : List ℕ → Option ℕ → Type 0
Asks name asked = (n : List ℕ) → is_name n ≡ true → is_asked asked (number n) ≡ same_bytes name n

asked-there : (name : List ℕ) (asked : Option ℕ) (ss : List Save) → Asks name asked → AllGood ss → list_any (is_asked asked) (numbers_of ss) ≡ is_there name ss
unfolding numbers_of is_there
asked-there name asked [] q a = refl
asked-there name asked (x ∷ xs) q a = ap₂ (λ (b c : Bool). b || c) (q x.name a.0.named) (asked-there name asked xs q a.2)

pub middle : (before : List Save) (x : Save) (behind : List Save) → AllGood (before ++ x ∷ behind) → Good x
middle [] x behind a = a.0
middle (h ∷ hs) x behind a = middle hs x behind a.2

-- a test of every used block
pub every_used : (p : List ℕ → Bool) (buffer : List ℕ) (used : ℕ) (r : Bool) → framed (length buffer) used ≡ true → r ≡ every p (length (take used buffer) / 512) (take used buffer)
    → every p (used / 512) (take used buffer) ≡ r
every_used p buffer used r f e =
    let l : length (take used buffer) ≡ used = length-take-le used buffer (framed→ (length buffer) used f).1 in
    ap (λ (n : ℕ). every p (n / 512) (take used buffer)) (sym l) ∙ sym e

module _ (buffer : List ℕ) (used : ℕ) (name : List ℕ) (asked : Option ℕ) (q : Asks name asked)
    (f : framed (length buffer) used ≡ true) (s : every summed (used / 512) (take used buffer) ≡ true) (v : every versioned (used / 512) (take used buffer) ≡ true) where
  pub look_at : (place : Option ℕ) (ss : List Save) → AllGood ss → take used buffer ≡ runs_of ss → Placed asked ss place → LookedAs buffer used name (Ok place)
  look_at None ss a e (absent u) = (ss, all f s v ss a e, sym (asked-there name asked ss q a) ∙ u)
  look_at (Some p) ss a e (present before x behind w n) =
      let b : AllGood (before ++ x ∷ behind) = subst AllGood w a in
      let g = middle before x behind b in
      (ss, all f s v ss a e, before, x, behind, b, w, refl, sym (q x.name g.named) ∙ n, e ∙ ap runs_of w)

  -- what the walk found, as what is answered
  pub look_by : (r : Result (Option ℕ) Refusal) → WalkedAs (take used buffer) asked r → LookedAs buffer used name r
  look_by (Err r) w = subst (λ (r : Refusal). LookedAs buffer used name (Err r)) (sym w.0) (rest f s v w.1)
  look_by (Ok place) w = look_at place w.0 w.1 w.2 w.3
