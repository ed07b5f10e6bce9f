-- `plain::waits::wait_drop` meets its contract: the call by value, told. Assumes nothing.
use mathlib.Core.Path.{ap, ◌∙◌}
use Rattle.waiting.specs.Calls.{PendingAfter}
use Rattle.crossing.specs.Waits.{crossed_turn}
use Rattle.plain.proofs.waits.wait_drop.Goals as goal

pub returns : goal.returns
returns c = c.told_wait.ensures _ ∙ ap (λ (x : PendingAfter). crossed_turn x c.args.pending) (rw c.from-handed.ensures at c.drop_pending.ensures)
