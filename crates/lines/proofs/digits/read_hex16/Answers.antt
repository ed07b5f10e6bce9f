-- `lines::digits::read_hex16` meets its contract. Assumes nothing.
use Rattle.std.proofs.Common.{◌≡◌, ◌+◌, ◌*◌, ◌-◌, ◌^◌, ◌<◌, drop, arith}
use Rattle.std.specs.Option.{option_and_then}
use Rattle.std.proofs.lemmas.Grind.{common_steps}
use Rattle.lines.specs.Take.{take_hex}
use Rattle.lines.proofs.Numbers.{hex_short, hex-turn, hex-fits}
use Rattle.lines.proofs.digits.read_hex16.Goals.{After-hex_digit, In_ok-d}
use Rattle.lines.proofs.digits.read_hex16.Goals as goal

pub returns-in_err-digits : goal.returns-in_err-digits
returns-in_err-digits c = grind (arith, hex_short)

-- a turn reads the next digit
turn : (c : After-hex_digit) → let l = c.loop-digit in
    take_hex (16 - l.digit-index) l.value (drop l.digit-index c.args.s.now) ≡ option_and_then (λ d. take_hex (16 - (l.digit-index + 1)) (l.value * 16 + d) (drop (l.digit-index + 1) c.args.s.now)) c.hex_digit.result
turn c = rw c.hex_digit.ensures (hex-turn _ _ _ _ c.in_ok-digits.ensures.cases.0 c.loop-digit-test.true (omega (arith, c.in_ok-digits.ensures.cases)))

pub returns-in_err-d : goal.returns-in_err-d
returns-in_err-d c = rw c.from_residual-in_err-d.ensures (rw (turn (goal.at.returns-in_err-d c).After-hex_digit, c.in_err-d.was) at c.loop-digit.invariant.1)

-- there is room for the digit
fits : (c : In_ok-d) → let n = c.loop-digit.value * 16 + c.in_ok-d.d in (n < 16 ^ (c.loop-digit.digit-index + 1)) × (n < 2 ^ 64)
fits c = hex-fits _ _ _ _ (omega arith) c.loop-digit.invariant.0 c.in_ok-d.ensures

pub overflow_mul-value : goal.overflow_mul-value
overflow_mul-value c = omega (arith, fits (goal.at.overflow_mul-value c).In_ok-d)

pub overflow_add-value : goal.overflow_add-value
overflow_add-value c = omega (arith, fits (goal.at.overflow_add-value c).In_ok-d)

pub loop-digit-preserved : goal.loop-digit-preserved
loop-digit-preserved c =
    ((fits (goal.at.loop-digit-preserved c).In_ok-d).0, rw (turn (goal.at.loop-digit-preserved c).After-hex_digit, c.in_ok-d.was) at c.loop-digit.invariant.1)

pub returns : goal.returns
unfolding take_hex
returns c = grind (arith, common_steps)
