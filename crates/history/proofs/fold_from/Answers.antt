-- `history::fold_from` meets its contract. The loop's invariant: where what is left is folded, all is. Assumes nothing.
use Rattle.std.proofs.Common.{◌≡◌, ℕ, ◌-◌, ◌/◌, List, [], ◌++◌, length, take, drop, ap, ap₂, ◌∙◌, arith}
use Rattle.std.specs.List.{concat}
use Rattle.std.proofs.lemmas.List.{drop_min, take_rest, drop_all}
use Rattle.history.proofs.Folds.{folds-block, folds-parts, blocks-whole}
use Rattle.history.proofs.fold_from.Goals as goal

pub loop-block-init : goal.loop-block-init
loop-block-init g c =
    let s = c.args.list.now in
    let e : take (length s - c.min-from.result) (drop c.min-from.result s) ≡ drop c.args.first s =
    take_rest s c.min-from.result ∙ ap (λ (k : ℕ). drop k s) c.min-from.ensures ∙ drop_min c.args.first s in
    let w = ap₂ (λ (bs : List (List ℕ)) (t : List ℕ). concat bs ++ t) c.as_chunks.ensures.front c.as_chunks.ensures.back ∙ blocks-whole 32 (length c.split_at.result.1.now / 32) c.split_at.result.1.now in
    λ u h. folds-parts _ 0 _ u c.min-odd.result _ _ _ _ e c.split_at.ensures.front (w ∙ c.split_at.ensures.back) c.in_turn-all.ensures h

pub loop-block-preserved : goal.loop-block-preserved
loop-block-preserved g c = λ u h. c.loop-block.invariant u (folds-block _ _ _ u _ _ _ c.loop-block-test.true c.in_turn-all-in-loop-block.ensures h)

pub returns : goal.returns
returns g c =
    let e : drop c.loop-block.block-index c.as_chunks.result.0.now ≡ [] = drop_all c.loop-block.block-index c.as_chunks.result.0.now (omega arith) in
    c.loop-block.invariant _ (rw e c.in_turn.ensures)
