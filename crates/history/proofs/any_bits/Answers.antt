-- `history::any_bits` meets its contract. Assumes nothing.
use Rattle.std.proofs.Common.{rules}
use Rattle.history.proofs.Folds.{bits-folded}
use Rattle.history.proofs.any_bits.Goals as goal

pub returns : goal.returns
returns c = bits-folded _ (λ a x b r. search rules) _ _ c.fold_from.ensures
