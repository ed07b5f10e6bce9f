-- What a step leaves, as it is stored. A reader of the calls' promises need not read it.
use Rattle.std.specs.Prelude.{◌≡◌, ℕ, true, List, Result, Ok, Err}
use Rattle.history.specs.Items.{padded}
use Rattle.trip.specs.declared.Config.{Config}
use Rattle.breaker.specs.declared.Breaker.{Breaker}
use Rattle.breaker.specs.declared.Ticket.{Ticket}
use Rattle.breaker.specs.declared.Delay.{Delay}
use Rattle.breaker.specs.declared.Answered.{Answered}
use Rattle.breaker.specs.Record.{State, stored, sound}
use Rattle.breaker.specs.Answers.{delay_of}
use Rattle.breaker.specs.Rules.{Admitted, granted, shed, Verdict, admits, refuses}

-- the fact holds of every settings and state that the record stores
abbrev pub OnStored : Breaker → (Config → State → Type 0) → Type 0
OnStored b fact = (c : Config) (st : State) → b ≡ stored c st → fact c st

-- the record after a step stores what the rule makes of the state
abbrev pub Applies : (Config → State → State) → Breaker → Breaker → Type 0
Applies rule b next = OnStored b (λ c st. next ≡ stored c (rule c st))

-- the record and its places store the state
abbrev pub Holds : Config → State → Breaker → List ℕ → Type 0
Holds c st b s = (b ≡ stored c st) × (s ≡ padded st.list)

-- where record and places are sound, the fact holds of every settings and state that they store; where not, nothing is promised
abbrev pub OnHeld : Breaker → List ℕ → (Config → State → Type 0) → Type 0
OnHeld b s fact = sound b s ≡ true → (c : Config) (st : State) → Holds c st b s → fact c st

-- an admission, stored
abbrev pub entry : Config → Admitted → Result (Answered Ticket) Delay
entry c (granted t st) = Ok (record { answer = t; breaker = stored c st })
entry c (shed ms) = Err (delay_of ms)

-- whether a waiter may go
abbrev pub verdict : Verdict → Result (Unit {0}) Delay
verdict admits = Ok tt
verdict (refuses ms) = Err (delay_of ms)
