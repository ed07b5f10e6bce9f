-- P1 to P12: the one proof of the list. Assumes nothing.
use Prim.Native.Nat.{ℕ, ◌+◌, ◌^◌, ◌≤◌}
use native.Mathlib.Omega.{arith}
use mathlib.Core.Path.{◌≡◌, refl}
use mathlib.Core.Bool.{true}
use Rattle.std.proofs.Common.{Ok, Continue, Break}
use Rattle.std.proofs.lemmas.Bool.Decides.{nat_tests}
use lib.Count.{count_trailing_zeros}
use lib.Ieee.{to_bits, is_nan, round, le, lt, eq, size, span, climb, units, odd, of_bits, of_fields}
use Rattle.history.specs.Items.{sum_of, evicted}
use Rattle.trip.specs.Settings.{clamped_ratio, built_of}
use Rattle.trip.specs.Policy.{ratio_reached, tripped}
use Rattle.breaker.specs.Rules.{admit, in_closed, settled, still_admits}
use Rattle.breaker.specs.Orders.{sequence}
use Rattle.wait.specs.declared.Wait.{Wait}
use Rattle.wait.specs.declared.Act.TheVariants.{Yield}
use Rattle.wait.specs.declared.Ending.TheVariants.{Deadline}
use Rattle.wait.specs.Turns.{ended_wait, new_wait, with_zeros, turn_in_bounds, wait_in_bounds, retries, retries_zero}
use Rattle.wait.specs.Manner.{and_wait, turned}
use Rattle.keep.specs.Keep.{moves, keep}
use Rattle.edges.specs.Edges.{retry_now, P2, P3, P4, P5, P6, P7, P9, P10, P11, P12, edges, All}

p2 : P2
unfolding clamped_ratio is_nan
p2 = refl

p3 : P3
unfolding clamped_ratio to_bits is_nan lt
p3 = (refl, refl)

p4 : P4
unfolding built_of
p4 = refl

p5 : P5
unfolding admit
p5 s = (refl, refl)

p6 : P6
unfolding settled in_closed tripped ratio_reached sum_of round le lt eq size span climb units odd count_trailing_zeros of_bits of_fields
p6 = refl

p7 : P7
unfolding settled in_closed tripped sum_of evicted
p7 = (refl, refl)

p9 : P9
unfolding settled
p9 = refl

p10 : P10
unfolding still_admits settled
p10 s reading = (refl, refl, refl)

p11 : P11
unfolding sequence settled
p11 = (refl, refl, refl, refl)

-- a wait with timeout 0 after k retries of 0
abbrev retried : ℕ → ℕ → Wait
retried clock k = with_zeros k (new_wait clock true 0)

module _ (clock : ℕ) (l : clock ≤ 2 ^ 62) where
  -- each of the first four yields
  yields-on : (k : ℕ) → k ≤ 3 → turned keep (retried clock k) (retry_now clock) ≡ Ok (and_wait (Continue Yield) (retried clock (k + 1)))
  unfolding turned turn_in_bounds wait_in_bounds moves retries retries_zero
  yields-on k s = grind (arith, nat_tests)

  deadline-5 : turned keep (retried clock 4) (retry_now clock) ≡ Ok (and_wait (Break (Deadline 0)) ended_wait)
  unfolding turned turn_in_bounds wait_in_bounds moves retries retries_zero
  deadline-5 = grind (arith, nat_tests)

p12 : P12
p12 clock l =
    rw (yields-on clock l 0 (omega arith), yields-on clock l 1 (omega arith), yields-on clock l 2 (omega arith), yields-on clock l 3 (omega arith), deadline-5 clock l) refl

pub proof : All edges
proof = (refl, (p2, (p3, (p4, (p5, (p6, (p7, ((λ s reading st e. (rw e, rw e, rw e)), (p9, (p10, (p11, (p12, tt))))))))))))
