-- `history::compared` meets its contract. Assumes nothing.
use Rattle.std.proofs.Common.{leb, rules}
use Rattle.history.proofs.Counts.{ones}
use Rattle.history.proofs.Folds.{sum-folded}
use Rattle.history.proofs.compared.Goals as goal

pub returns : goal.returns
returns c = sum-folded _ (ones (λ t. leb c.args.cutoff t)) (λ a x b r. search rules) _ _ c.fold_from.ensures
