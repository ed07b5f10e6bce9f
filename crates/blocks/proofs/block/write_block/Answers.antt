-- `blocks::block::write_block` meets its contract. Assumes nothing.
use Rattle.std.proofs.Common.{◌≡◌, ◌+◌, ◌-◌, ◌++◌, sym, ◌∙◌, arith, rules, length, take, drop, length-take-le}
use Rattle.le_bytes.specs.Bytes.{written}
use Rattle.le_bytes.proofs.Written.{length-written, put_in}
use Rattle.blocks.specs.Block.{headed, filled}
use Rattle.blocks.proofs.Blocks.{length-headed, length-filled, copied, filled-by, sum-put, block-by}
use Rattle.blocks.proofs.block.write_block.Goals.{After-fill}
use Rattle.blocks.proofs.block.write_block.Goals as goal

-- what the block holds before its sum
so : (c : After-fill) → let u = length c.args.part.now in take (8 + u) c.copy.new.out ++ (c.fill.new.self ++ drop (508 - (8 + u)) (drop (8 + u) c.copy.new.out)) ≡ written 0 (filled c.from.result c.from-2.result c.from-3.result c.args.part.now) c.args.out.now
unfolding headed
so c =
    let out = c.args.out.now in
    let part = c.args.part.now in
    let v = c.from.result in
    let i = c.from-2.result in
    let n = c.from-3.result in
    let l = c.requires.0 in
    let m = c.requires.1 in
    let h : c.put_items.new.out ≡ written 0 (headed v i n (length part)) out = c.put_items.ensures ∙ sym (put_in 0 (headed v i n (length part)) out (omega (arith, length-headed v i n (length part)))) in
    filled-by out part v i n l m c.put_items.new.out c.copy.new.out c.fill.new.self h (copied out part v i n l m c.put_items.new.out c.copy.new.out h c.copy.ensures) (search rules)

long : (c : After-fill) → let u = length c.args.part.now in length (take 504 (take (8 + u) c.copy.new.out ++ (c.fill.new.self ++ drop (508 - (8 + u)) (drop (8 + u) c.copy.new.out)))) ≡ 504
long c =
    let f = filled c.from.result c.from-2.result c.from-3.result c.args.part.now in
    let k = length-filled c.from.result c.from-2.result c.from-3.result c.args.part.now c.requires.1 in
    rw (so c) (length-take-le 504 (written 0 f c.args.out.now) (omega (arith, c.requires.0, k, length-written c.args.out.now 0 f (omega (arith, k, c.requires.0)))))

pub slice_bounds-weighed-end-2 : goal.slice_bounds-weighed-end-2
slice_bounds-weighed-end-2 c = sym (long (goal.at.slice_bounds-weighed-end-2 c).After-fill)

pub weighed-sum-requires : goal.weighed-sum-requires
weighed-sum-requires c = omega (arith, long (goal.at.weighed-sum-requires c).After-fill)

pub returns : goal.returns
returns c =
    let out = c.args.out.now in
    let part = c.args.part.now in
    let u = length part in
    let v = c.from.result in
    let i = c.from-2.result in
    let n = c.from-3.result in
    let l = c.requires.0 in
    let m = c.requires.1 in
    let s = so (goal.at.returns c).After-fill in
    let d = take (8 + u) c.copy.new.out ++ (c.fill.new.self ++ drop (508 - (8 + u)) (drop (8 + u) c.copy.new.out)) in
    rw (← c.from.ensures, ← c.from-2.ensures, ← c.from-3.ensures) (block-by out part v i n l m d c.put_number.new.out c.from-4.result s (c.from-4.ensures ∙ c.weighed-sum.ensures) (sum-put out part v i n l m d c.put_number.new.out c.from-4.result s c.put_number.ensures))
