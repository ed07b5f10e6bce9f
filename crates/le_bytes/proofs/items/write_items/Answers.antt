-- `le_bytes::items::write_items` meets its contract. Assumes nothing.
use Rattle.std.proofs.Common.{sym, ◌∙◌, arith}
use Rattle.le_bytes.proofs.Widths.{put-turn, put-end}
use Rattle.le_bytes.proofs.items.write_items.Goals as goal

pub loop-i-preserved : goal.loop-i-preserved
loop-i-preserved c = put-turn c.args.width c.args.values.now c.loop-i.out c.write.new.out _ c.loop-i.i (omega arith) (omega arith) c.write.ensures ∙ c.loop-i.invariant

pub returns : goal.returns
returns c = sym (put-end c.args.width c.args.values.now c.loop-i.out c.loop-i.i (omega arith) (omega arith) (omega arith)) ∙ c.loop-i.invariant
