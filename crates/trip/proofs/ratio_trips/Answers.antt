-- `trip::ratio_trips` meets its contract: each `return` is what the tests on its way make of the definition. Assumes nothing.
use mathlib.Core.Path.{ap, ◌∙◌}
use native.Mathlib.Omega.{arith}
use borrow.Author.Tests.{le-leb, lt-leb}
use mathlib.Core.Bool.{false}
use lib.Ieee.{Float, binary64, of_bits, round, le}
use Rattle.trip.specs.Policy.{ratio_reached}
use Rattle.trip.proofs.Floats.{div-whole, nan-reached, no_nan}
use Rattle.trip.proofs.ratio_trips.Goals as goal

pub returns-then-calls-lt1 : goal.returns-then-calls-lt1
unfolding ratio_reached
returns-then-calls-lt1 c = simp (lt-leb _ _ c.if-calls-lt1.true)

pub returns-then-calls-min_calls : goal.returns-then-calls-min_calls
unfolding ratio_reached
returns-then-calls-min_calls c = simp (le-leb _ _ c.if-calls-lt1.false, lt-leb _ _ c.if-calls-min_calls.true)

pub returns-then-ratio_bits-gt-INFINITY_BITS : goal.returns-then-ratio_bits-gt-INFINITY_BITS
unfolding ratio_reached
returns-then-ratio_bits-gt-INFINITY_BITS c = simp (le-leb _ _ c.if-calls-lt1.false, le-leb _ _ c.if-calls-min_calls.false, nan-reached c.args.ratio_bits (round binary64 false c.args.failed c.args.calls) c.if-ratio_bits-gt-INFINITY_BITS.true)

pub float_from_bits-ratio : goal.float_from_bits-ratio
float_from_bits-ratio c = no_nan c.args.ratio_bits c.if-ratio_bits-gt-INFINITY_BITS.false

pub returns : goal.returns
unfolding ratio_reached
returns c = rw (c.from.ensures, c.from-2.ensures) (
    ap (λ (q : Float). le (of_bits binary64 c.args.ratio_bits) q) (div-whole binary64 c.args.failed c.args.calls c.if-calls-lt1.false (omega (arith, c.ranges.failed)) (omega (arith, c.ranges.calls)))
    ∙ simp (le-leb _ _ c.if-calls-lt1.false, le-leb _ _ c.if-calls-min_calls.false))
