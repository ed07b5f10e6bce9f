-- `history::count_failures` meets its contract. Assumes nothing.
use Rattle.std.proofs.Common.{ℕ, ◌%◌, ◌^◌, List, drop, ap, ◌∙◌, rules}
use Rattle.history.specs.Items.{item_sum}
use Rattle.history.proofs.Folds.{sum-folded}
use Rattle.history.proofs.count_failures.Goals as goal

pub returns : goal.returns
returns c =
    sum-folded _ (λ x. x) (λ a x b r. search rules) _ _ c.fold_from.ensures ∙ ap (λ (xs : List ℕ). item_sum (drop c.args.first xs) % 2 ^ 64) c.view-outcomes.ensures.value
