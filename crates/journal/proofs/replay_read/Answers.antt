-- `journal::replay_read` meets its contract: there is room, and there are 4,096 places. Assumes nothing.
use Rattle.std.proofs.Common.{arith}
use Rattle.journal.proofs.Replaying.{read_whole}
use Rattle.journal.proofs.replay_read.Goals as goal

pub returns : goal.returns
returns c =
    read_whole c.args.input.now c.args.n c.min-k.result c.args.list.now c.replay.new.list c.args.out.now c.replay.new.out c.unwrap.result (omega (arith, c.well_formed)) (omega (arith, c.well_formed, c.min-k.ensures)) (rw c.unwrap.ensures at c.replay.ensures)
