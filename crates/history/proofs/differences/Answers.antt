-- `history::differences` meets its contract. Assumes nothing.
use Rattle.std.proofs.Common.{◌∙◌, length-drop, rules}
use Rattle.history.proofs.Folds.{recent-folded}
use Rattle.history.proofs.differences.Goals as goal

pub returns : goal.returns
returns c = λ h l. recent-folded _ c.args.cutoff (λ a x b r. search rules) _ _ c.fold_from.ensures h l ∙ length-drop _ _
