-- `body::save::bits_of` meets its contract. Assumes nothing.
use Rattle.std.proofs.Common.{◌≡◌, rules, fold}
use Rattle.std.specs.Int.Bits.{bit_or}
use Rattle.body.proofs.Saves.{bits_below}
use Rattle.body.proofs.save.bits_of.Goals.{After-fold}
use Rattle.body.proofs.save.bits_of.Goals as goal

folded : (c : After-fold) → c.fold.result ≡ fold bit_or 0 c.args.s.now
folded c = search rules

pub returns-clause-ascii : goal.returns-clause-ascii
returns-clause-ascii c = rw (folded (goal.at.returns-clause-ascii c).After-fold) (bits_below c.args.s.now 7)

pub returns-clause-outcomes : goal.returns-clause-outcomes
returns-clause-outcomes c = rw (folded (goal.at.returns-clause-outcomes c).After-fold) (bits_below c.args.s.now 1)
