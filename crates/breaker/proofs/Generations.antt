-- Staleness over the wrapping add: how long a generation is not met again. Assumes nothing.
use Prim.Native.Nat.{ℕ, zero, suc, ◌+◌, ◌-◌, ◌%◌, ◌^◌, ◌<◌}
use native.Mathlib.Omega.{arith}
use mathlib.Core.Path.{◌≡◌, ◌∙◌, ap}
use mathlib.Core.Logic.{◌≢◌}
use Rattle.breaker.specs.Rules.{next, nexts}

closed-form : (k g : ℕ) → nexts (suc k) g ≡ (g + (k + 1)) % 2 ^ 64
unfolding nexts
closed-form zero g = omega arith
closed-form (suc k) g = ap next (closed-form k g) ∙ omega arith

-- after 1 to 2^64 - 1 transitions the generation is another
pub another : (g k : ℕ) → 0 < k → k < 2 ^ 64 → nexts k g ≢ g
another g zero h l e = omega arith
another g (suc k) h l e = omega (arith, closed-form k g)

-- after 2^64 it is the same
pub the_same : (g : ℕ) → g < 2 ^ 64 → nexts (2 ^ 64) g ≡ g
the_same g l = closed-form (2 ^ 64 - 1) g ∙ omega arith
