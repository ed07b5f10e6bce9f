-- `journal::replay` meets its contract. Assumes nothing.
use Rattle.std.proofs.Common.{arith}
use Rattle.journal.proofs.Replaying.{take_limit}
use Rattle.journal.proofs.replay.Goals as goal

pub returns : goal.returns
returns c =
    let l = take_limit c.args.input.now c.min-n.result c.min-n.ensures in
    (omega (arith, c.min-n.ensures, c.if-out-n.false), c.if-list-ne-PLACES.false, rw (l.1, l.2) at c.replay_all.ensures.answers, c.replay_all.ensures.kept)
