-- "Waiting answers": a wait that keeps its grant (`Across::Keep`). Definitions only.
use Rattle.std.specs.Prelude.{ℕ, ◌+◌, ◌-◌, max, Bool, not, ◌&&◌, ◌||◌, eqb, leb, if◌then◌else◌}
use Rattle.wait.specs.declared.Wait.{Wait}
use Rattle.wait.specs.declared.Observed.{Observed}
use Rattle.wait.specs.declared.Act.TheVariants.{Sleep}
use Rattle.wait.specs.declared.Ending.TheVariants.{Done, Deadline, Never}
use Rattle.wait.specs.declared.Move.{Move}
use Rattle.wait.specs.declared.Move.TheVariants.{Goes, Ends}
use Rattle.wait.specs.Turns.{is_looking, is_holding, remaining, exceeds, sleeping, retries}
use Rattle.wait.specs.Manner.{Manner}

-- a wait that holds a grant, with when it is due and the postponement it has seen
abbrev pub holding : ℕ → ℕ → Wait → Wait
holding due seen w = record { phase = 2; limited = w.limited; deadline = w.deadline; seen = seen; due = due; zeros = w.zeros }

-- "postponement grown since last seen … moves due by the growth"
abbrev pub postponed : Observed → Wait → Wait
postponed t w = holding (w.due + (t.postponed_after - w.seen)) (max w.seen t.postponed_after) w

-- "nap = pause, or the time left if pause is 0"
abbrev pub nap_of : Observed → Wait → ℕ
nap_of t w = if eqb t.pause 0 then w.due - t.clock else t.pause

-- "nap > remaining: give back 1, deadline. Else sleep; with a pause, sleep unless resumed past the epoch."
abbrev pub holds_on : Observed → Wait → Move
holds_on t w =
    if exceeds (nap_of t w) (remaining w t.clock) then Ends (Deadline 1)
    else Goes (sleeping (nap_of t w) t.epoch_after t.pause) w

-- "Held check, on the second number of each pair: … Pause 0 and due reached: done."
unfoldable pub checks : Wait → Observed → Move
checks w t = if eqb t.pause 0 && leb (postponed t w).due t.clock then Ends Done else holds_on t (postponed t w)

-- "Granted: due = clock + duration. If the duration isn't 0, sleep it; the next turn is a held check. If 0, the check follows in this
-- turn." "a look sees the first"
unfoldable pub grants : Wait → Observed → Move
grants w t =
    let held = holding (t.clock + t.duration) t.postponed_before w in
    if eqb t.duration 0 then checks held t else Goes (Sleep t.duration) held

-- "reply kind (1 granted, 2 retry, 3 never)"
unfoldable pub moves : Wait → Observed → Move
moves w t =
    if is_holding w then checks w t
    else if eqb t.kind 1 then grants w t
    else if eqb t.kind 2 then retries w t
    else Ends Never

-- ---- the manner

abbrev pub has_ended : Wait → Bool
has_ended w = not (is_looking w || is_holding w)

-- "reply kind not 1 to 3"
abbrev pub is_known : ℕ → Bool
is_known k = eqb k 1 || (eqb k 2 || eqb k 3)

abbrev pub keep : Manner
keep = record { ended = has_ended; holds = is_holding; knows = is_known; moves = moves }
