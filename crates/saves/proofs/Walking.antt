-- A turn of the walk over saves. Assumes nothing.
use mathlib.Core.Path.{◌≡◌, refl, sym, ap, subst, ◌∙◌}
use mathlib.Core.Bool.{Bool, true, false, ◌||◌}
use mathlib.Core.List.{List, [], ◌∷◌, ◌++◌, append_assoc, append-nil}
use Prim.Native.Nat.{ℕ, zero, suc, ◌+◌, ◌*◌, ◌/◌, ◌%◌, ◌<◌, ◌≤◌}
use native.Mathlib.Numerals.{add-one}
use native.Mathlib.Omega.{arith}
use lib.ListN.{length, take, drop, set, length-append, length-drop, drop_of_length-le}
use lib.Seq.{drop-drop, take-suc-set}
use Rattle.std.proofs.Common.{if◌then◌else◌}
use Rattle.error.proofs.Choice.{and_split}
use Rattle.le_bytes.specs.Bytes.{number}
use Rattle.blocks.specs.Block.{summed}
use Rattle.blocks.specs.Run.{count_of, run_of, every}
use Rattle.blocks.proofs.Joins.{length_run}
use Rattle.blocks.proofs.Unique.{run-one}
use Rattle.body.specs.Save.{Save, body_of}
use Rattle.body.proofs.Saves.{body-least}
use Rattle.std.proofs.Common.{Option, Some, None, Ok, Err, ap₂}
use Rattle.std.specs.Option.{ok_or}
use Rattle.error.specs.declared.Refusal.{Refusal}
use Rattle.error.specs.declared.Refusal.TheVariants.{Damaged}
use Rattle.std.specs.List.{list_any}
use Rattle.std.proofs.lemmas.List.Folds.{list_any-append}
use Rattle.saves.specs.declared.Stands.{Stands}
use Rattle.saves.specs.Buffer.{runs_of, AllGood}
use Rattle.saves.specs.Look.{StandsAs, is_asked, is_listed, numbers_of, Placed, absent, present}
use Rattle.saves.proofs.Stand.{good-body}
use Rattle.saves.proofs.Walks.{save-one, runs_append, runs-one, numbers-append, runs-left, listed-clash, all_snoc}

-- ---- sums right of all blocks are right of those behind a place
every_drop : (p : List ℕ → Bool) (j k : ℕ) (s : List ℕ) → every p (j + k) s ≡ true → every p k (drop (512 * j) s) ≡ true
unfolding every
every_drop p zero k s e = let z : 0 + k ≡ k = omega arith in ap (λ (n : ℕ). every p n s) (sym z) ∙ e
every_drop p (suc j) k s e =
    let z : suc j + k ≡ suc (j + k) = omega arith in
    let d : 512 * suc j ≡ 512 + 512 * j = omega arith in
    let f : every p (suc (j + k)) s ≡ true = ap (λ (n : ℕ). every p n s) (sym z) ∙ e in
    ap (λ (n : ℕ). every p k (drop n s)) d
    ∙ ap (λ (x : List ℕ). every p k x) (sym (drop-drop (512 * j) 512 s))
    ∙ every_drop p j k (drop 512 s) (and_split (p (take 512 s)) (every p (j + k) (drop 512 s)) f).1

pub sums-behind : (s : List ℕ) (at : ℕ) → at % 512 ≡ 0 → at ≤ length s → every summed (length s / 512) s ≡ true → every summed (length (drop at s) / 512) (drop at s) ≡ true
sums-behind s at z h e =
    let l = length-drop at s in
    let j = at / 512 in
    let k = length (drop at s) / 512 in
    let q : length s / 512 ≡ j + k = omega arith in
    let a : 512 * j ≡ at = omega arith in
    ap (λ (n : ℕ). every summed k (drop n s)) (sym a) ∙ every_drop summed j k s (ap (λ (n : ℕ). every summed n s) (sym q) ∙ e)

pub all-behind : (hs ss : List Save) → AllGood (hs ++ ss) → AllGood ss
all-behind [] ss a = a
all-behind (h ∷ hs) ss a = all-behind hs ss a.2

numbers-single : (v : Save) → numbers_of (v ∷ []) ≡ number v.name ∷ []
unfolding numbers_of
numbers-single v = refl

-- ---- what stands at a place, or 13
pub stands-there : (o : Option Stands) (x : Stands) → ok_or o Damaged ≡ Ok x → o ≡ Some x
stands-there None x e = cc
stands-there (Some y) x e = cc

pub stands-none : (o : Option Stands) (r : Refusal) → ok_or o Damaged ≡ Err r → (o ≡ None) × (r ≡ Damaged)
stands-none None r e = (refl, cc)
stands-none (Some y) r e = cc

-- ---- what is behind a place: good saves, the numbers of their names, and where the asked one is
pub record Behind (s : List ℕ) (asked : Option ℕ) (names : List ℕ) (count at : ℕ) (place : Option ℕ) : Type 0 where
  pub held : List Save
  pub good : AllGood held
  pub bytes : s ≡ runs_of held ++ drop at s
  pub reached : length (runs_of held) ≡ at
  pub listed : take count names ≡ numbers_of held
  pub where-asked : Placed asked held place

pub behind-none : (s : List ℕ) (asked : Option ℕ) (names : List ℕ) → Behind s asked names 0 0 None
unfolding runs_of numbers_of
behind-none s asked names = record { held = []; good = tt; bytes = refl; reached = refl; listed = refl; where-asked = absent refl }

module _ (s : List ℕ) (asked : Option ℕ) (names : List ℕ) (count at : ℕ) (place : Option ℕ) (b : Behind s asked names count at place) where
  -- if all is saves, so is what is before
  before : (ss : List Save) → AllGood ss → s ≡ runs_of ss → (rest : List Save) × (ss ≡ b.held ++ rest) × (drop at s ≡ runs_of rest)
  before ss a e = runs-left b.held ss (drop at s) b.good a (sym b.bytes ∙ e)

  -- none stands there
  pub walk-wrong : at < length s → StandsAs (drop at s) None → (ss : List Save) → AllGood ss → s ≡ runs_of ss → ⊥
  unfolding runs_of
  walk-wrong h n ss a e = go (before ss a e).0 (before ss a e).1 (before ss a e).2
    where
      go : (rest : List Save) → ss ≡ b.held ++ rest → drop at s ≡ runs_of rest → ⊥
      go [] q d = absurd (omega (arith, length-drop at s, ap length d))
      go (y ∷ ys) q d = n y (runs_of ys) (all-behind b.held (y ∷ ys) (subst AllGood q a)).0 d

  module _ (t : Stands) (x : StandsAs (drop at s) (Some t)) where
    -- its name is there twice
    pub walk-twice : is_listed t.name (take count names) ≡ true → (ss : List Save) → AllGood ss → s ≡ runs_of ss → ⊥
    unfolding runs_of
    walk-twice l ss a e = go (before ss a e).0 (before ss a e).1 (before ss a e).2
      where
        go : (rest : List Save) → ss ≡ b.held ++ rest → drop at s ≡ runs_of rest → ⊥
        go [] q d =
            absurd (omega (arith, x.3, ap length d, x.4, body-least x.0 x.1))
        go (y ∷ ys) q d =
            let all = subst AllGood q a in
            let g = (all-behind b.held (y ∷ ys) all).0 in
            let one = run-one 1 1 (body_of x.0) (body_of y) (drop (512 * count_of t.size) (drop at s)) (runs_of ys) (good-body x.0 x.1) (good-body y g) (sym x.2 ∙ d) in
            let same : x.0 ≡ y = save-one x.0 y x.1 g one.1 in
            let n : t.name ≡ number y.name = sym x.5 ∙ ap (λ (z : Save). number z.name) same in
            listed-clash b.held y ys all g (ap (λ (m : ℕ). is_listed m (numbers_of b.held)) (sym n) ∙ ap (is_listed t.name) (sym b.listed) ∙ l)

    -- one more
    pub walk-on : is_listed t.name (take count names) ≡ false → count < length names → (next : Option ℕ) → next ≡ (if is_asked asked t.name then Some at else place)
        → Behind s asked (set names count t.name) (count + 1) (at + 512 * count_of t.size) next
    walk-on l h next e =
        let v = x.0 in
        let hs = b.held in
        let run = run_of 1 (body_of v) in
        let lr : length run ≡ 512 * count_of t.size = length_run 1 (body_of v) ∙ ap (λ (n : ℕ). 512 * count_of n) x.4 in
        let ra : runs_of (hs ++ v ∷ []) ≡ runs_of hs ++ run = runs_append hs (v ∷ []) ∙ ap (λ (r : List ℕ). runs_of hs ++ r) (runs-one v) in
        let unlisted : is_listed (number v.name) (numbers_of hs) ≡ false = ap (λ (m : ℕ). is_listed m (numbers_of hs)) x.5 ∙ ap (is_listed t.name) (sym b.listed) ∙ l in
        record {
          held = hs ++ v ∷ [];
          good = all_snoc hs v b.good x.1 unlisted;
          bytes =
              b.bytes
              ∙ ap (λ (d : List ℕ). runs_of hs ++ d) (x.2 ∙ ap (λ (d : List ℕ). run ++ d) (drop-drop (512 * count_of t.size) at s))
              ∙ sym (append_assoc (runs_of hs) run (drop (at + 512 * count_of t.size) s))
              ∙ ap (λ (r : List ℕ). r ++ drop (at + 512 * count_of t.size) s) (sym ra);
          reached = ap length ra ∙ length-append (runs_of hs) run ∙ (omega (arith, b.reached, lr));
          listed =
              ap (λ (n : ℕ). take n (set names count t.name)) (add-one count) ∙ take-suc-set names count t.name h
              ∙ ap (λ (ns : List ℕ). ns ++ (t.name ∷ [])) b.listed ∙ ap (λ (n : ℕ). numbers_of hs ++ (n ∷ [])) (sym x.5) ∙ sym (numbers-one hs v);
          where-asked = placed_on (is_asked asked t.name) refl;
        }
      where
        numbers-one : (hs : List Save) (v : Save) → numbers_of (hs ++ v ∷ []) ≡ numbers_of hs ++ (number v.name ∷ [])
        numbers-one hs v = numbers-append hs (v ∷ []) ∙ ap (λ (r : List ℕ). numbers_of hs ++ r) (numbers-single v)

        grown : (p : Option ℕ) → is_asked asked t.name ≡ false → Placed asked b.held p → Placed asked (b.held ++ x.0 ∷ []) p
        grown None f (absent u) =
            absent
            (ap (list_any (is_asked asked)) (numbers-one b.held x.0) ∙ list_any-append (is_asked asked) (numbers_of b.held) (number x.0.name ∷ [])
            ∙ ap₂ (λ (c d : Bool). c || (d || false)) u (ap (is_asked asked) x.5 ∙ f))
        grown (Some p) f (present ahead y behind q n) =
            present ahead y (behind ++ x.0 ∷ []) (ap (λ (hs : List Save). hs ++ x.0 ∷ []) q ∙ append_assoc ahead (y ∷ behind) (x.0 ∷ [])) n

        placed_on : (c : Bool) → is_asked asked t.name ≡ c → Placed asked (b.held ++ x.0 ∷ []) next
        placed_on true f =
            subst (λ (p : Option ℕ). Placed asked (b.held ++ x.0 ∷ []) p)
            (ap Some b.reached ∙ sym (e ∙ ap (λ (c : Bool). if c then Some at else place) f))
            (present b.held x.0 [] refl (ap (is_asked asked) x.5 ∙ f))
        placed_on false f =
            subst (λ (p : Option ℕ). Placed asked (b.held ++ x.0 ∷ []) p) (sym (e ∙ ap (λ (c : Bool). if c then Some at else place) f)) (grown place f b.where-asked)

  pub walk-done : length s ≤ at → (ss : List Save) × AllGood ss × (s ≡ runs_of ss) × Placed asked ss place
  walk-done h = (b.held, b.good, b.bytes ∙ ap (λ (d : List ℕ). runs_of b.held ++ d) (drop_of_length-le s {i = at} h) ∙ append-nil (runs_of b.held), b.where-asked)
