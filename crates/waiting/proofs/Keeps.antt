-- The end of a wait leaves a sound breaker sound. Assumes nothing.
use Prim.Native.Nat.{ℕ}
use mathlib.Core.Bool.{false}
use Rattle.trip.specs.declared.Config.{Config}
use Rattle.breaker.specs.declared.Ticket.{Ticket}
use Rattle.breaker.specs.Record.{State}
use Rattle.breaker.specs.Rules.{Verdict, admits, refuses, still_admits}
use Rattle.breaker.proofs.Keeps.{SoundAt, sound-aborted}
use Rattle.wait.specs.declared.Ending.{Ending}
use Rattle.wait.specs.declared.Ending.TheVariants.{Done, Deadline, Never}
use Rattle.waiting.specs.Rules.{judged, completes}

module _ (c : Config) (t : Ticket) (st : State) (ok : SoundAt c st) where
  judged-sound : (v : Verdict) → SoundAt c (judged v t st).after
  judged-sound admits = ok
  judged-sound (refuses ms) = sound-aborted c st ok t false

  pub completes-sound : (e : Ending) (reading capacity : ℕ) → SoundAt c (completes e reading capacity t st).after
  completes-sound Done reading capacity = judged-sound (still_admits reading t st)
  completes-sound (Deadline back) reading capacity = sound-aborted c st ok t false
  completes-sound Never reading capacity = sound-aborted c st ok t false
