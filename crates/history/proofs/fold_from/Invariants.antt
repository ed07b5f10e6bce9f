-- `history::fold_from` meets its contract. The loop's invariant: where what is left is folded, all is. Assumes nothing.
use Rattle.std.proofs.Common.{ℕ, ◌++◌, drop}
use Rattle.std.specs.List.{FoldsTo, concat}
use Rattle.history.proofs.fold_from.Given as goal

abbrev pub invariant-loop-block : goal.invariant-loop-block
invariant-loop-block g l =
    (u : ℕ) → FoldsTo (λ a x b. goal.F-post g l.step a x b) l.all (concat (drop l.block-index l.blocks) ++ l.tail) u → FoldsTo (λ a x b. goal.F-post g l.step a x b) 0 (drop l.first l.list) u
