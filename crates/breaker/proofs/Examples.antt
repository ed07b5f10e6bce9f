-- The hypotheses of the finishing orders can be met. Assumes nothing.
use Prim.Native.Nat.{ℕ, ◌-◌, ◌^◌}
use mathlib.Core.Path.{◌≡◌, refl}
use mathlib.Core.Bool.{true}
use mathlib.Core.List.{[]}
use Rattle.history.specs.Items.{padded, all_below, sound_list}
use Rattle.breaker.specs.declared.Breaker.{Breaker}
use Rattle.breaker.specs.Record.{State, HalfOpen, stored, sound_policy, sound_config, sound_shared, sound}
use Rattle.breaker.specs.Orders.{FinishingOrders}
use Rattle.breaker.proofs.Orders.{finishing-orders}

-- HalfOpen with both trials out
abbrev trying : ℕ → State
trying g = record { state = HalfOpen; generation = g; run = 2; counts = record { inflight = 2; trait_probes = 0; successes = 0 }; open_until = 30; list = [] }

-- at the generation that wraps
abbrev last : Breaker
last = stored (record { kind = 1; limit = 2; ratio_bits = 0; min_calls = 0; period_ms = 0; cooldown_ms = 1000; trials = 2; required = 2 }) (trying (2 ^ 64 - 1))

last-sound : sound last (padded []) ≡ true
unfolding sound sound_config sound_policy sound_shared sound_list all_below
last-sound = refl

pub meets : FinishingOrders 40 last (padded [])
meets = finishing-orders 40 last (padded []) last-sound refl
