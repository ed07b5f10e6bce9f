-- `lines::digits::read_hex16`: what is taken of the digits that are left, behind the value so far, is what is taken of all.
use Rattle.std.proofs.Common.{◌≡◌, ◌-◌, ◌<◌, ◌^◌, drop}
use Rattle.lines.specs.Take.{take_hex}
use Rattle.lines.proofs.digits.read_hex16.Given as goal

abbrev pub invariant-loop-digit : goal.invariant-loop-digit
invariant-loop-digit l =
    (l.value < 16 ^ l.digit-index) × (take_hex (16 - l.digit-index) l.value (drop l.digit-index l.s) ≡ take_hex 16 0 l.s)
