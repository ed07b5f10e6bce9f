-- `body::record::put_record`. The loop's invariant: what is left of the numbers completes them.
use Rattle.std.proofs.Common.{length}
use Rattle.body.proofs.Records.{PutTo}
use Rattle.body.proofs.record.put_record.Given as goal

abbrev pub invariant-loop-width : goal.invariant-loop-width
invariant-loop-width l =
    (goal.iterator-loop-width).can_next l.width-iterator
    × (goal.iterator-loop-width).is_finite l.width-iterator
    × PutTo l.initial.out l.at l.fn.b l.out (length l.yielded) l.next
