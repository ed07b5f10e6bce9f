-- Internal: what the steps of a replay promise each other. Nobody need believe it.
use Rattle.std.specs.Prelude.{ℕ, ◌≡◌, Bool, List, Option, Some, None, Result}
use Rattle.error.specs.Told.{Told, nothing, told_or}
use Rattle.history.specs.Items.{padded}
use Rattle.breaker.specs.declared.Answered.{Answered}
use Rattle.breaker.specs.declared.Breaker.{Breaker}
use Rattle.breaker.specs.declared.NotAdmitted.{NotAdmitted}
use Rattle.breaker.specs.declared.Ticket.{Ticket}
use Rattle.breaker.specs.Record.{State, settings, state}
use Rattle.breaker.specs.Answers.{granted_told, not_admitted}
use Rattle.breaker.specs.Calls.{after, on_sound}
use Rattle.lines.specs.declared.Call.{Call}
use Rattle.journal.specs.Replay.{called, Replays}

-- what a call tells that was made: its ticket, or nothing
abbrev pub reply_told : Option Ticket → Told
reply_told (Some t) = granted_told t
reply_told None = nothing

abbrev pub step_told : Result (Option Ticket) NotAdmitted → Told
step_told = told_or reply_told not_admitted

-- a call of the journal made on a record and its places, with what it leaves
abbrev pub StepsTo : Call → Breaker → List ℕ → Answered (Result (Option Ticket) NotAdmitted) → List ℕ → Type 0
StepsTo call b s r s' = after (step_told r.answer) r.breaker s' ≡ on_sound (called call) b s

-- from line 2 on, from a record and its places, to the places that are left
abbrev pub Ends : Bool → Breaker → List ℕ → List ℕ → List ℕ → List ℕ → Type 0
Ends more b s input output s' = (end : State) × Replays more (settings b.config) 2 (state b s) input output end × (s' ≡ padded end.list)
