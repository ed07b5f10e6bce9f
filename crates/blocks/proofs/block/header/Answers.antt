-- `blocks::block::header` meets its contract. Assumes nothing.
use Rattle.std.proofs.Common.{sym, ◌∙◌, arith}
use Rattle.blocks.proofs.Blocks.{number-two}
use Rattle.blocks.proofs.block.header.Goals as goal

pub returns : goal.returns
returns c = c.from_le_bytes.ensures ∙ sym (number-two c.args.b.now c.args.at (omega arith))
