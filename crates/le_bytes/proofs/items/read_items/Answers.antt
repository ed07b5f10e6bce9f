-- `le_bytes::items::read_items` meets its contract. Assumes nothing.
use Rattle.std.proofs.Common.{length, sym, ◌∙◌, arith}
use lib.ListN.{length-set}
use Rattle.le_bytes.proofs.Widths.{rest-less, items-turn, items-end}
use Rattle.le_bytes.proofs.items.read_items.Goals as goal

pub loop-n-preserved : goal.loop-n-preserved
loop-n-preserved c =
    simp (length-set, c.split_at.ensures.back) (
      rest-less (length c.loop-n.n-items) c.args.width c.loop-n.n-index c.loop-n.rest.now (omega arith) c.loop-n.invariant.0,
      items-turn c.args.width c.loop-n.rest.now c.loop-n.n-items c.loop-n.n-index c.read.result (omega arith) (rw c.split_at.ensures.front at c.read.ensures) ∙ c.loop-n.invariant.1,
    )

pub returns : goal.returns
returns c = sym (items-end c.args.width c.loop-n.rest.now c.loop-n.n-items c.loop-n.n-index (omega arith)) ∙ c.loop-n.invariant.1
