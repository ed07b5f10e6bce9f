-- `blocks::block::weighed` meets its contract. Assumes nothing.
use Rattle.std.proofs.Common.{◌≡◌, ℕ, ◌+◌, ◌*◌, ap, arith, get_or}
use Rattle.blocks.proofs.Blocks.{term, sum-turn, sum-end}
use Rattle.blocks.proofs.block.weighed.Goals as goal

pub loop-i-preserved : goal.loop-i-preserved
loop-i-preserved c =
    let s = c.args.s.now in
    let t = sum-turn s c.loop-i.i (omega arith) in
    let e : c.from.result ≡ get_or s c.loop-i.i 0 = c.from.ensures in
    let m = term c.from.result c.loop-i.i (omega arith) (omega arith) in
    let p = ap (λ (x : ℕ). x * (c.loop-i.i + 1)) e in
    (omega arith, omega arith)

pub returns : goal.returns
returns c = let t = sum-end c.args.s.now c.loop-i.i (omega arith) in omega arith
