-- `blocks::block::check` meets its contract: the part is by what was met. Assumes nothing.
use Rattle.std.proofs.Common.{arith}
use native.Mathlib.Nat.{add-sub_cancel_left}
use Rattle.blocks.proofs.Judging.{part_by, passes→}
use Rattle.blocks.proofs.block.check.Goals as goal

pub overflow_add-result : goal.overflow_add-result
overflow_add-result c = let p = passes→ c.args.b.now c.in-Ok.used c.in-Ok.ensures in omega arith

pub slice_bounds-result-end : goal.slice_bounds-result-end
slice_bounds-result-end c = let p = passes→ c.args.b.now c.in-Ok.used c.in-Ok.ensures in omega arith

pub returns-in-Ok : goal.returns-in-Ok
returns-in-Ok c = rw (add-sub_cancel_left 8 c.in-Ok.used) (part_by c.args.b.now _ c.in-Ok.ensures)

pub returns-in-Err : goal.returns-in-Err
returns-in-Err c = part_by c.args.b.now _ c.in-Err.ensures
