-- `blocks::block::is_proper` meets its contract. Assumes nothing.
use Rattle.std.proofs.Common.{◌≡◌, ◌+◌, ◌-◌, sym, ◌∙◌, eqb, take, drop, arith, rules, tests}
use Rattle.std.proofs.lemmas.Iterator.{YieldsList-from_slice}
use Rattle.std.proofs.lemmas.Iterator.Search.{all_from_yields_List}
use Rattle.blocks.specs.Block.{used_in}
use Rattle.blocks.proofs.Blocks.{may-some, zeros-each}
use Rattle.blocks.proofs.Judging.{proper-is}
use Rattle.blocks.proofs.block.is_proper.Goals as goal

pub slice_bounds-iter-count : goal.slice_bounds-iter-count
slice_bounds-iter-count c = let m = may-some _ _ _ (sym c.may_hold.ensures ∙ c.if-may_hold.true) in omega (arith, m.2)

pub slice_bounds-iter-start : goal.slice_bounds-iter-start
slice_bounds-iter-start c = let m = may-some _ _ _ (sym c.may_hold.ensures ∙ c.if-may_hold.true) in omega (arith, m.2)

pub returns-then-may_hold : goal.returns-then-may_hold
returns-then-may_hold c =
    let s = take (508 - (8 + c.from-used.result)) (drop (8 + c.from-used.result) c.args.b.now) in
    let u : c.from-used.result ≡ used_in c.args.b.now = c.from-used.ensures ∙ c.header.ensures in
    proper-is c.args.b.now _ _ _ (sym c.header-2.ensures) (sym c.header-3.ensures) (sym u) (sym c.may_hold.ensures ∙ c.if-may_hold.true) c.all.result
    (all_from_yields_List (λ x. eqb x 0) _ _ _ c.all.ensures.ran (YieldsList-from_slice s cc) (λ x b q k. search (rules, tests)) ∙ sym (zeros-each s))
