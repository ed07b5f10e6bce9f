-- W-201: saving a breaker, and coming back to it. Each tests 3 and 4, then the buffer, then 15. Definitions only.
use Rattle.std.specs.Prelude.{ℕ, ◌+◌, ◌*◌, ◌&&◌, List, [], ◌∷◌, leb, length, Result, Ok, if◌then◌else◌}
use Rattle.error.specs.Told.{Told, tell, refused, told_by}
use Rattle.error.specs.declared.Refusal.{Refusal}
use Rattle.error.specs.declared.Refusal.TheVariants.{Name}
use Rattle.history.specs.Items.{padded}
use Rattle.breaker.specs.declared.Breaker.{Breaker}
use Rattle.breaker.specs.Record.{state}
use Rattle.breaker.specs.Rules.{done, returned}
use Rattle.breaker.specs.Calls.{After, after, kept, guarded}
use Rattle.le_bytes.specs.Bytes.{written}
use Rattle.blocks.specs.Run.{count_of, run_of}
use Rattle.body.specs.Save.{Save, body_of, size_of, is_name, save_of}
use Rattle.saves.specs.Buffer.{Reading, wrong, saves, same_bytes, is_there}

-- ---- "save"

-- what it leaves: what it told, and every byte of the buffer
pub record SaveAfter : Type 0 where
  pub told : Told
  pub buffer : List ℕ

abbrev pub save_after : Told → List ℕ → SaveAfter
save_after t buffer = record { told = t; buffer = buffer }

abbrev pub saving_told : Result ℕ Refusal → Told
saving_told = told_by (λ used. tell 0 (used ∷ []))

-- "put at the used length …; the used length after it is returned"; "15 for an asked name that isn't ASCII … or blocks that don't fit"
abbrev pub saved_new : List ℕ → Breaker → List ℕ → List ℕ → ℕ → SaveAfter
saved_new name b s buffer used =
    if is_name name && leb (used + 512 * count_of (size_of b)) (length buffer)
    then save_after (saving_told (Ok (used + 512 * count_of (size_of b)))) (written used (run_of 1 (body_of (save_of name b s))) buffer)
    else save_after (refused Name) buffer

-- and 15 for one that "is already there on saving"
abbrev pub saved_in : Reading → List ℕ → Breaker → List ℕ → List ℕ → ℕ → SaveAfter
saved_in (wrong r) name b s buffer used = save_after (refused r) buffer
saved_in (saves ss) name b s buffer used = if is_there name ss then save_after (refused Name) buffer else saved_new name b s buffer used

abbrev pub saved : Reading → List ℕ → Breaker → List ℕ → List ℕ → ℕ → SaveAfter
saved x name b s buffer used = guarded (λ r. save_after (refused r) buffer) (saved_in x name b s buffer used) b s

-- ---- "return"

-- the save of a name, or 15 where it is absent: a name that isn't one is there for no save
abbrev pub came_back : List ℕ → List Save → Breaker → List ℕ → After
came_back name [] b s = after (refused Name) b s
came_back name (x ∷ xs) b s =
    if same_bytes name x.name then kept x.breaker.config (done (returned b.shared.generation (state x.breaker (padded x.items))))
    else came_back name xs b s

abbrev pub restored_from : Reading → List ℕ → Breaker → List ℕ → After
restored_from (wrong r) name b s = after (refused r) b s
restored_from (saves ss) name b s = came_back name ss b s

abbrev pub restored : Reading → List ℕ → Breaker → List ℕ → After
restored x name b s = guarded (λ r. after (refused r) b s) (restored_from x name b s) b s
