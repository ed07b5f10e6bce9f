-- `trip::clamped` meets its contract: each `return` is what the tests on its way make of the definition. Assumes nothing.
use mathlib.Core.Path.{◌≡◌, sym, ◌∙◌}
use mathlib.Core.Bool.{false}
use native.Mathlib.Omega.{arith}
use lib.Ieee.{of_bits, is_nan}
use Rattle.trip.specs.Settings.{clamped_ratio}
use Rattle.trip.proofs.Settings.{nan_differs}
use Rattle.trip.proofs.Ratios.{clamped-negative, clamped-negative-zero, clamped-over, clamped-within}
use Rattle.trip.proofs.clamped.Goals.{Else-ratio}
use Rattle.trip.proofs.clamped.Goals as goal

number : (c : Else-ratio) → is_nan c.args.ratio ≡ false
number c = sym (nan_differs c.args.ratio) ∙ c.if-ratio.false

pub returns-then-ratio : goal.returns-then-ratio
unfolding clamped_ratio of_bits
returns-then-ratio c = rw (sym (nan_differs c.args.ratio) ∙ c.if-ratio.true)

pub float_to_bits-bits : goal.float_to_bits-bits
float_to_bits-bits c = rw (number (goal.at.float_to_bits-bits c).Else-ratio) tt

pub returns-then-bits-gt-SIGN_BIT : goal.returns-then-bits-gt-SIGN_BIT
unfolding of_bits
returns-then-bits-gt-SIGN_BIT c = clamped-negative c.args.ratio c.well_formed.0.1 (number (goal.at.returns-then-bits-gt-SIGN_BIT c).Else-ratio) (omega arith)

pub returns-then-bits : goal.returns-then-bits
returns-then-bits c = clamped-negative-zero c.args.ratio c.well_formed.0.1 (number (goal.at.returns-then-bits c).Else-ratio) (omega arith)

pub returns-then-bits-gt-ONE_BITS : goal.returns-then-bits-gt-ONE_BITS
unfolding of_bits
returns-then-bits-gt-ONE_BITS c = clamped-over c.args.ratio c.well_formed.0.1 (number (goal.at.returns-then-bits-gt-ONE_BITS c).Else-ratio) (omega arith) (omega arith)

pub returns : goal.returns
returns c = clamped-within c.args.ratio c.well_formed.0.1 (number (goal.at.returns c).Else-ratio) (omega arith)
