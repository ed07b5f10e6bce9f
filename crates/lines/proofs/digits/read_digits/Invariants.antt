-- `lines::digits::read_digits`: what is taken from the rest, behind the value so far, is what is taken of all.
use Rattle.std.proofs.Common.{◌≡◌, length}
use Rattle.lines.specs.Take.{take_digits}
use Rattle.lines.proofs.digits.read_digits.Given as goal

abbrev pub invariant-loop-rest : goal.invariant-loop-rest
invariant-loop-rest l = take_digits l.value l.rest ≡ take_digits 0 l.s

abbrev pub decreases-loop-rest : goal.decreases-loop-rest
decreases-loop-rest l = length l.rest
