-- Saves one after another: known by their bytes, and by the numbers of their names. Assumes nothing.
use mathlib.Core.Path.{◌≡◌, refl, sym, ap, ◌∙◌}
use mathlib.Core.Bool.{Bool, true, false, ◌||◌, false≢true, or-true}
use mathlib.Core.List.{List, [], ◌∷◌, ◌++◌, append_assoc, append-nil}
use Prim.Native.Nat.{ℕ, ◌≤◌}
use native.Mathlib.Omega.{arith}
use lib.Dec.{eqb}
use lib.ListN.{length, drop, replicate, length-append}
use Rattle.breaker.specs.declared.Breaker.{Breaker}
use Rattle.le_bytes.specs.Bytes.{number, decoded}
use Rattle.blocks.specs.Run.{run_of}
use Rattle.blocks.proofs.Joins.{length_run}
use Rattle.blocks.proofs.Unique.{run-one}
use Rattle.body.specs.Save.{Save, Good, body_of, width_of}
use Rattle.body.proofs.Saves.{save_in, record_in, list_in, body-name, body-record, body-items, body-least}
use Rattle.saves.specs.Buffer.{runs_of, same_bytes, is_there, AllGood}
use Rattle.saves.specs.Look.{is_listed, numbers_of}
use Rattle.saves.proofs.Names.{names_same}
use Rattle.saves.proofs.Stand.{good-body}

-- ---- a save is known by its body
pub save-there : (x : Save) → Good x → save_in (body_of x) ≡ x
save-there x g =
    let r = body-record x g in
    let i : list_in (body_of x) ≡ x.items =
    ap (λ (b : Breaker). decoded (replicate b.shared.len (width_of b)) (drop 86 (body_of x))) r
    ∙ ap (λ (n : ℕ). decoded (replicate n (width_of x.breaker)) (drop 86 (body_of x))) g.counted
    ∙ body-items x g in
    ap (λ (n : List ℕ). record { name = n; breaker = record_in (body_of x); items = list_in (body_of x) }) (body-name x g)
    ∙ ap (λ (b : Breaker). record { name = x.name; breaker = b; items = list_in (body_of x) }) r
    ∙ ap (λ (is : List ℕ). record { name = x.name; breaker = x.breaker; items = is }) i

pub save-one : (x y : Save) → Good x → Good y → body_of x ≡ body_of y → x ≡ y
save-one x y g h e = sym (save-there x g) ∙ ap save_in e ∙ save-there y h

pub run-some : (x : Save) → Good x → 512 ≤ length (run_of 1 (body_of x))
run-some x g = omega (arith, length_run 1 (body_of x), body-least x g)

-- ---- saves behind others
pub runs_append : (hs ss : List Save) → runs_of (hs ++ ss) ≡ runs_of hs ++ runs_of ss
unfolding runs_of
runs_append [] ss = refl
runs_append (h ∷ hs) ss = ap (λ (r : List ℕ). run_of 1 (body_of h) ++ r) (runs_append hs ss) ∙ sym (append_assoc (run_of 1 (body_of h)) (runs_of hs) (runs_of ss))

pub runs-one : (x : Save) → runs_of (x ∷ []) ≡ run_of 1 (body_of x)
unfolding runs_of
runs-one x = append-nil (run_of 1 (body_of x))

pub numbers-append : (hs ss : List Save) → numbers_of (hs ++ ss) ≡ numbers_of hs ++ numbers_of ss
unfolding numbers_of
numbers-append [] ss = refl
numbers-append (h ∷ hs) ss = ap (λ (r : List ℕ). number h.name ∷ r) (numbers-append hs ss)

-- ---- bytes that begin with good saves and are saves: what is behind them is saves
pub runs-left : (hs ss : List Save) (d : List ℕ) → AllGood hs → AllGood ss → runs_of hs ++ d ≡ runs_of ss → (rest : List Save) × (ss ≡ hs ++ rest) × (d ≡ runs_of rest)
unfolding runs_of
runs-left [] ss d a b e = (ss, refl, e)
runs-left (h ∷ hs) [] d a b e =
    absurd (omega (arith, run-some h a.0, ap length e, length-append (run_of 1 (body_of h) ++ runs_of hs) d, length-append (run_of 1 (body_of h)) (runs_of hs)))
runs-left (h ∷ hs) (x ∷ xs) d a b e =
    let one = run-one 1 1 (body_of h) (body_of x) (runs_of hs ++ d) (runs_of xs) (good-body h a.0) (good-body x b.0) (sym (append_assoc (run_of 1 (body_of h)) (runs_of hs) d) ∙ e) in
    let more = runs-left hs xs d a.2 b.2 one.2 in
    let hx : x ≡ h = sym (save-one h x a.0 b.0 one.1) in
    (more.0, ap (λ (y : Save). y ∷ xs) hx ∙ ap (λ (ys : List Save). h ∷ ys) more.1, more.2)

-- ---- names
pub there-append : (n : List ℕ) (hs : List Save) (x : Save) (rest : List Save) → same_bytes n x.name ≡ true → is_there n (hs ++ x ∷ rest) ≡ true
unfolding is_there
there-append n [] x rest e = ap (λ (b : Bool). b || is_there n rest) e
there-append n (h ∷ hs) x rest e = ap (λ (b : Bool). same_bytes n h.name || b) (there-append n hs x rest e) ∙ or-true (same_bytes n h.name)

or_cases : (b c : Bool) → (b || c) ≡ false → (b ≡ false) × (c ≡ false)
or_cases true c e = absurd (false≢true (sym e))
or_cases false c e = (refl, e)

-- a name that is listed before is there twice
pub listed-clash : (hs : List Save) (x : Save) (rest : List Save) → AllGood (hs ++ x ∷ rest) → Good x → is_listed (number x.name) (numbers_of hs) ≡ true → ⊥
unfolding is_listed numbers_of
listed-clash [] x rest a g e = absurd (false≢true e)
listed-clash (h ∷ hs) x rest a g e = go (eqb (number h.name) (number x.name)) refl (λ q. listed-clash hs x rest a.2 g q)
  where
    go : (b : Bool) → eqb (number h.name) (number x.name) ≡ b → (is_listed (number x.name) (numbers_of hs) ≡ true → ⊥) → ⊥
    go true q more = absurd (false≢true (sym a.1 ∙ there-append h.name hs x rest (sym (names_same h.name x.name a.0.named g.named) ∙ q)))
    go false q more = more (sym (ap (λ (b : Bool). b || is_listed (number x.name) (numbers_of hs)) q) ∙ e)

-- one more whose name is not listed
there-snoc : (n : List ℕ) (hs : List Save) (x : Save) → is_there n hs ≡ false → same_bytes n x.name ≡ false → is_there n (hs ++ x ∷ []) ≡ false
unfolding is_there
there-snoc n [] x e f = ap (λ (b : Bool). b || false) f
there-snoc n (h ∷ hs) x e f = let p = or_cases (same_bytes n h.name) (is_there n hs) e in ap (λ (b : Bool). b || is_there n (hs ++ x ∷ [])) p.0 ∙ there-snoc n hs x p.1 f

pub all_snoc : (hs : List Save) (x : Save) → AllGood hs → Good x → is_listed (number x.name) (numbers_of hs) ≡ false → AllGood (hs ++ x ∷ [])
unfolding is_listed numbers_of is_there
all_snoc [] x a g e = (g, refl, tt)
all_snoc (h ∷ hs) x a g e =
    let p = or_cases (eqb (number h.name) (number x.name)) (is_listed (number x.name) (numbers_of hs)) e in
    let s : same_bytes h.name x.name ≡ false = sym (names_same h.name x.name a.0.named g.named) ∙ p.0 in
    (a.0, there-snoc h.name hs x a.1 s, all_snoc hs x a.2 g p.1)
