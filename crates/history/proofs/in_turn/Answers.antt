-- `history::in_turn` meets its contract: each item is one more step. Assumes nothing.
use Rattle.std.proofs.Common.{ℕ, List, subst, refl, rules}
use Rattle.std.specs.List.{FoldsTo}
use Rattle.std.proofs.lemmas.Fn.{FoldsTo-push, fold_over, slice_gives, fronts}
use Rattle.history.proofs.in_turn.Goals as goal

pub returns : goal.returns
returns g c =
    let R = λ (a x b : ℕ). goal.F-post g c.args.step.now a x b in
    subst (λ (l : List ℕ). FoldsTo R c.args.start l c.fold.result) c.iter.ensures.rest
    (fold_over fronts (λ y. y.now) _ (λ ys n. FoldsTo R c.args.start ys n) _ (λ ys a x b f' j k. (FoldsTo-push R c.args.start ys a x.now b j (search rules), search rules)) _ _ _ _ (slice_gives c.iter.result) refl c.fold.ensures.ran)
