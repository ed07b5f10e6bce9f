-- Laws of one call of the journal: its answer's line, and what it leaves of a sound breaker. Assumes nothing.
use Prim.Native.Nat.{ℕ}
use mathlib.Core.Path.{◌≡◌, refl, ap, ap₂, ◌∙◌}
use mathlib.Core.Bool.{true, false}
use mathlib.Core.List.{List, ◌∷◌}
use Rattle.std.specs.Prelude.{Option, Result}
use Rattle.error.specs.Told.{number_of, refused}
use Rattle.error.specs.declared.Refusal.{Refusal}
use Rattle.error.specs.declared.Refusal.TheVariants.{Time, Limit, Storage, Unsound, Full, Turn, Damaged, Version, Name}
use Rattle.trip.specs.declared.Config.{Config}
use Rattle.breaker.specs.declared.Answered.{Answered}
use Rattle.breaker.specs.declared.Breaker.{Breaker}
use Rattle.breaker.specs.declared.NotAdmitted.{NotAdmitted}
use Rattle.breaker.specs.declared.Ticket.{Ticket}
use Rattle.breaker.specs.Record.{Settings, State, settings, state, sound}
use Rattle.breaker.specs.Rules.{Outcome}
use Rattle.breaker.specs.Calls.{After, kept, on_sound}
use Rattle.breaker.proofs.Keeps.{Keeps, sound-settled, sound-aborted, sound-admission, sound-reset}
use Rattle.breaker.proofs.Guard.{sound-called, sound-done}
use Rattle.lines.specs.declared.Call.{Call}
use Rattle.lines.specs.declared.Order.{Order}
use Rattle.lines.specs.declared.Order.TheVariants.{Admit, Success, Failure, Abort, Reset}
use Rattle.lines.specs.Print.{print_line}
use Rattle.journal.specs.Replay.{ordered, called, five, answer_line}
use Rattle.journal.specs.Steps.{step_told, StepsTo}

-- a refusal's line is E and its number: none has the number of an answer or of a shed
pub refused-line : (r : Refusal) (st : State) → print_line 69 (number_of r ∷ five st) ≡ answer_line (refused r) st
refused-line Time st = refl
refused-line Limit st = refl
refused-line Storage st = refl
refused-line Unsound st = refl
refused-line Full st = refl
refused-line Turn st = refl
refused-line Damaged st = refl
refused-line Version st = refl
refused-line Name st = refl

-- what a step left of a sound breaker, told on as the call's
pub step_kept : (rule : Settings → State → Outcome) (b : Breaker) (s : List ℕ) (left : After) → sound b s ≡ true → left ≡ kept b.config (rule (settings b.config) (state b s)) → left ≡ on_sound rule b s
step_kept rule b s left ok e = e ∙ sound-done rule b s ok

-- every call keeps a breaker sound
keeps : (o : Order) (t : ℕ) → Keeps (ordered o t)
keeps Admit t = sound-admission false t
keeps (Success k) t = λ c st ok. sound-settled c st ok t k true
keeps (Failure k) t = λ c st ok. sound-settled c st ok t k false
keeps (Abort k) t = λ c st ok. sound-aborted c st ok k false
keeps Reset t = sound-reset

-- what a step leaves of a sound breaker with the settings c
pub stepped : (call : Call) (b : Breaker) (s s' : List ℕ) (r : Answered (Result (Option Ticket) NotAdmitted)) (c : Config) → b.config ≡ c → sound b s ≡ true → StepsTo call b s r s'
    → let o = called call (settings c) (state b s) in
    (sound r.breaker s' ≡ true) × (state r.breaker s' ≡ o.after) × (r.breaker.config ≡ c) × (step_told r.answer ≡ o.told)
stepped call b s s' r c e ok f =
    let m = sound-called (called call) b s (keeps call.order call.reading) ok in
    let p : r.breaker ≡ (on_sound (called call) b s).breaker = ap (λ (a : After). a.breaker) f in
    let q : s' ≡ (on_sound (called call) b s).places = ap (λ (a : After). a.places) f in
    rw (← e) (ap₂ sound p q ∙ m.1, ap₂ state p q ∙ m.2, ap (λ (x : Breaker). x.config) p ∙ m.3, ap (λ (a : After). a.told) f ∙ m.0)
