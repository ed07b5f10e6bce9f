-- W-201: what a return leaves. Definitions only.
use Rattle.std.specs.Prelude.{ℕ, ◌≡◌, true, List}
use Rattle.error.specs.Told.{nothing}
use Rattle.breaker.specs.declared.Breaker.{Breaker}
use Rattle.breaker.specs.Record.{HalfOpen, sound}
use Rattle.breaker.specs.Orders.{FinishingOrders}
use Rattle.saves.specs.Buffer.{Reading, Reads}
use Rattle.checkpoints.specs.Calls.{restored}

-- a return that is not refused leaves a sound breaker; one to a half-open save is a start of FinishingOrders, whatever trials were out when it
-- was saved (`finishing-orders-after-return` of proofs/Orders.antt)
abbrev pub FinishingOrdersAfterReturn : Type 0
FinishingOrdersAfterReturn =
    (buffer : List ℕ) (used : ℕ) (x : Reading) → Reads buffer used x → (name : List ℕ) (present : Breaker) (places : List ℕ) →
    let r = restored x name present places in
    r.told ≡ nothing
    → (sound r.breaker r.places ≡ true) × (r.breaker.shared.state ≡ HalfOpen → (reading : ℕ) → FinishingOrders reading r.breaker r.places)
