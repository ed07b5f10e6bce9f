-- A save and a return, from what was found in the buffer. Assumes nothing.
use mathlib.Core.Path.{◌≡◌, refl, sym, ap, ap₂, subst, ◌∙◌}
use mathlib.Core.Bool.{Bool, true, false, ◌||◌, false≢true}
use mathlib.Core.List.{List, [], ◌∷◌, ◌++◌}
use Prim.Native.Nat.{ℕ, ◌+◌, ◌-◌, ◌*◌, ◌/◌, ◌%◌, ◌<◌, ◌≤◌}
use native.Mathlib.Omega.{arith}
use lib.ListN.{length, take, drop, length-append}
use lib.Seq.{take_at, drop_at, length-take-le}
use borrow.Author.Tests.{le-leb, lt-leb}
use Rattle.std.proofs.Common.{if◌then◌else◌, Some, Result, Ok, Err}
use Rattle.error.specs.Told.{refused, nothing}
use Rattle.error.specs.declared.Refusal.{Refusal}
use Rattle.error.specs.declared.Refusal.TheVariants.{Name}
use Rattle.history.specs.Items.{padded}
use Rattle.history.proofs.Laws.{take-drop}
use Rattle.history.proofs.Sound as List·
use Rattle.trip.specs.declared.Config.{Config}
use Rattle.breaker.specs.declared.Breaker.{Breaker}
use Rattle.breaker.specs.Record.{State, state, stored, items_of, sound}
use Rattle.breaker.specs.Rules.{done, returned}
use Rattle.breaker.specs.Calls.{after, kept, guarded}
use Rattle.breaker.proofs.Guard.{guarded-done}
use Rattle.breaker.proofs.Record.{sound→, stored-state, padded-state}
use Rattle.le_bytes.specs.Bytes.{written}
use Rattle.le_bytes.proofs.Written.{width-most}
use Rattle.blocks.specs.Block.{summed}
use Rattle.blocks.specs.Run.{count_of, run_of, every, put_run}
use Rattle.blocks.proofs.Joins.{run_in, length_run}
use Rattle.body.specs.Save.{Save, Good, is_name, body_of, size_of, save_of, put_save, width_of, BodyRead}
use Rattle.body.proofs.Records.{room-widths}
use Rattle.body.proofs.Saves.{name-eight, save-fits, save-length, width-le}
use Rattle.saves.specs.Buffer.{runs_of, same_bytes, is_there, AllGood, Reads, saves, all}
use Rattle.checkpoints.specs.Calls.{save_after, saving_told, saved_new, saved_in, came_back}
use Rattle.saves.proofs.Names.{same_not, framed→}
use Rattle.saves.proofs.Walking.{sums-behind}
use Rattle.saves.proofs.Walks.{save-one, there-append, runs_append}

-- ---- a sound breaker
module _ (b : Breaker) (s : List ℕ) (ok : sound b s ≡ true) where
  facts : List·.Sound (items_of b.config) b.shared.len s
  facts = List·.sound→ (items_of b.config) b.shared.len s (sound→ b s ok).list

  pub sound-len : b.shared.len ≤ length s
  sound-len = omega (arith, facts.le, facts.places)

  pub sound-size : (86 ≤ size_of b) × (size_of b ≤ 32854)
  sound-size = (omega (arith, room-widths), omega (arith, room-widths, facts.le, width-most b.shared.len (width_of b) (width-le b)))

pub refused-unsound : (b : Breaker) (s : List ℕ) (r : Refusal) → Err r ≡ guarded Err (Ok (tt {0})) b s → sound b s ≡ true → ⊥
refused-unsound b s r e ok = false≢true (ap is_ok (e ∙ sym (guarded-done Err (Ok (tt {0})) b s ok)))
  where
    is_ok : Result (Unit {0}) Refusal → Bool
    is_ok (Ok u) = true
    is_ok (Err r) = false

-- ---- a new save
module _ (name : List ℕ) (b : Breaker) (s buffer : List ℕ) (used : ℕ) where
  pub new-unnamed : is_name name ≡ false → save_after (refused Name) buffer ≡ saved_new name b s buffer used
  new-unnamed e = simp e

  pub new-room : is_name name ≡ true → length buffer < used + 512 * count_of (size_of b) → save_after (refused Name) buffer ≡ saved_new name b s buffer used
  new-room e h = simp (e, lt-leb (used + 512 * count_of (size_of b)) (length buffer) h)

  pub new-saved : is_name name ≡ true → used + 512 * count_of (size_of b) ≤ length buffer → sound b s ≡ true → (room body next : List ℕ) → 32854 ≤ length room
      → body ≡ put_save name b s room → next ≡ put_run used 1 (take (size_of b) body) buffer
      → save_after (saving_told (Ok (used + 512 * count_of (size_of b)))) next ≡ saved_new name b s buffer used
  new-saved e h ok room body next l p q =
      let n = name-eight name e in
      let z = sound-size b s ok in
      let xs = body_of (save_of name b s) in
      let lx : length xs ≡ size_of b = save-length name b s room n (sound-len b s ok) in
      let bw : body ≡ written 0 xs room = p ∙ sym (save-fits name b s room n (sound-len b s ok) (omega arith)) in
      let bt : take (size_of b) body ≡ xs = ap (λ (y : List ℕ). take (size_of b) y) bw ∙ take_at xs (drop (0 + length xs) room) (size_of b) lx in
      let nw : next ≡ written used (run_of 1 xs) buffer =
      q ∙ ap (λ (y : List ℕ). put_run used 1 y buffer) bt ∙ sym (run_in used 1 xs buffer (omega arith) (subst (λ (k : ℕ). used + 512 * count_of k ≤ length buffer) (sym lx) h)) in
      simp (e, le-leb (used + 512 * count_of (size_of b)) (length buffer) h) (ap (λ (y : List ℕ). save_after (saving_told (Ok (used + 512 * count_of (size_of b)))) y) nw)

-- ---- a return
pub back-absent : (name : List ℕ) (ss : List Save) (b : Breaker) (s : List ℕ) → is_there name ss ≡ false → after (refused Name) b s ≡ came_back name ss b s
unfolding is_there
back-absent name [] b s e = refl
back-absent name (x ∷ xs) b s e =
    let p = or_cases (same_bytes name x.name) (is_there name xs) e in
    back-absent name xs b s p.1 ∙ sym (ap (λ (c : Bool). if c then kept x.breaker.config (done (returned b.shared.generation (state x.breaker (padded x.items)))) else came_back name xs b s) p.0)
  where
    or_cases : (b c : Bool) → (b || c) ≡ false → (b ≡ false) × (c ≡ false)
    or_cases true c e = absurd (false≢true (sym e))
    or_cases false c e = (refl, e)

pub back_at : (name : List ℕ) (before : List Save) (x : Save) (behind : List Save) (b : Breaker) (s : List ℕ) → AllGood (before ++ x ∷ behind) → same_bytes name x.name ≡ true
    → kept x.breaker.config (done (returned b.shared.generation (state x.breaker (padded x.items)))) ≡ came_back name (before ++ x ∷ behind) b s
back_at name [] x behind b s a e =
    sym (ap (λ (c : Bool). if c then kept x.breaker.config (done (returned b.shared.generation (state x.breaker (padded x.items)))) else came_back name behind b s) e)
back_at name (h ∷ hs) x behind b s a e =
    let n : same_bytes name h.name ≡ false =
    same_not name h.name (λ q. absurd (false≢true (sym a.1 ∙ there-append h.name hs x behind (ap (λ (m : List ℕ). same_bytes m x.name) (sym q) ∙ e)))) in
    back_at name hs x behind b s a.2 e
    ∙ sym (ap (λ (c : Bool). if c then kept h.breaker.config (done (returned b.shared.generation (state h.breaker (padded h.items)))) else came_back name (hs ++ x ∷ behind) b s) n)

-- where the run of the asked save stands
pub run-at-place : (bs : List ℕ) (before : List Save) (x : Save) (behind : List Save) → bs ≡ runs_of (before ++ x ∷ behind) → drop (length (runs_of before)) bs ≡ run_of 1 (body_of x) ++ runs_of behind
unfolding runs_of
run-at-place bs before x behind e =
    ap (λ (y : List ℕ). drop (length (runs_of before)) y) (e ∙ runs_append before (x ∷ behind)) ∙ drop_at (runs_of before) (run_of 1 (body_of x) ++ runs_of behind) (length (runs_of before)) refl

-- ---- a save beside those of a buffer
module _ (name : List ℕ) (ss : List Save) (b : Breaker) (s buffer : List ℕ) (used : ℕ) where
  pub saved-absent : is_there name ss ≡ false → saved_new name b s buffer used ≡ saved_in (saves ss) name b s buffer used
  saved-absent e = sym (ap (λ (c : Bool). if c then save_after (refused Name) buffer else saved_new name b s buffer used) e)

  pub saved-there : is_there name ss ≡ true → save_after (refused Name) buffer ≡ saved_in (saves ss) name b s buffer used
  saved-there e = sym (ap (λ (c : Bool). if c then save_after (refused Name) buffer else saved_new name b s buffer used) e)

-- a buffer that was read is framed
pub read-frame : (buffer : List ℕ) (used : ℕ) (ss : List Save) → Reads buffer used (saves ss) → (used ≤ length buffer) × (length buffer ≤ 65536)
read-frame buffer used ss (all f s v ws a e) = let z = framed→ (length buffer) used f in (z.1, z.0)

-- ---- what coming back leaves
pub came-back : (x : Save) (g : Good x) (saved present : Breaker) (part list : List ℕ) (next : Breaker) → part ≡ body_of x → BodyRead part (Some saved)
    → ((y : Save) → Good y → part ≡ body_of y → y.breaker ≡ saved → list ≡ padded y.items)
    → ((c : Config) (st : State) → saved ≡ stored c st → next ≡ stored c (returned present.shared.generation st))
    → after nothing next list ≡ kept x.breaker.config (done (returned present.shared.generation (state x.breaker (padded x.items))))
came-back x g saved present part list next ep r fl fn =
    let y = r.0 in
    let same : y ≡ x = save-one y x r.1 g (sym r.2 ∙ ep) in
    let eb : x.breaker ≡ saved = ap (λ (z : Save). z.breaker) (sym same) ∙ r.3 in
    let st = state x.breaker (padded x.items) in
    let so : saved ≡ stored x.breaker.config st = sym eb ∙ stored-state x.breaker (padded x.items) g.is_sound in
    let el : list ≡ padded x.items = fl x g ep eb in
    let en : next ≡ stored x.breaker.config (returned present.shared.generation st) = fn x.breaker.config st so in
    let ev : padded x.items ≡ padded st.list = padded-state x.breaker (padded x.items) g.is_sound in
    ap₂ (λ (n : Breaker) (l : List ℕ). after nothing n l) en (el ∙ ev)

-- ---- the part of the buffer where a save stands
runs-whole : (hs : List Save) → length (runs_of hs) % 512 ≡ 0
unfolding runs_of
runs-whole [] = refl
runs-whole (h ∷ hs) = omega (arith, length-append (run_of 1 (body_of h)) (runs_of hs), length_run 1 (body_of h), runs-whole hs)

module _ (buffer : List ℕ) (used p : ℕ) (before : List Save) (x : Save) (behind : List Save) (l : used ≤ length buffer) (ep : p ≡ length (runs_of before))
    (e : take used buffer ≡ runs_of (before ++ x ∷ behind)) where
  long : length (take used buffer) ≡ used
  long = length-take-le used buffer l

  pub place-within : p ≤ used
  place-within = omega (arith, ep, long, ap length e, ap length (runs_append before (x ∷ behind)), length-append (runs_of before) (runs_of (x ∷ behind)))

  part : take (used - p) (drop p buffer) ≡ drop p (take used buffer)
  part = let k : p + (used - p) ≡ used = omega (arith, place-within) in take-drop p (used - p) buffer ∙ ap (λ (n : ℕ). drop p (take n buffer)) k

  pub part-run : take (used - p) (drop p buffer) ≡ run_of 1 (body_of x) ++ runs_of behind
  part-run = part ∙ ap (λ (n : ℕ). drop n (take used buffer)) ep ∙ run-at-place (take used buffer) before x behind e

  pub part-summed : every summed (used / 512) (take used buffer) ≡ true
      → every summed (length (take (used - p) (drop p buffer)) / 512) (take (used - p) (drop p buffer)) ≡ true
  part-summed ok =
      let z : p % 512 ≡ 0 = ap (λ (n : ℕ). n % 512) ep ∙ runs-whole before in
      let a : every summed (length (take used buffer) / 512) (take used buffer) ≡ true = ap (λ (n : ℕ). every summed (n / 512) (take used buffer)) long ∙ ok in
      ap (λ (s : List ℕ). every summed (length s / 512) s) part ∙ sums-behind (take used buffer) p z (omega (arith, place-within, long)) a

pub read-summed : (buffer : List ℕ) (used : ℕ) (ss : List Save) → Reads buffer used (saves ss) → every summed (used / 512) (take used buffer) ≡ true
read-summed buffer used ss (all f s v ws a e) = s
