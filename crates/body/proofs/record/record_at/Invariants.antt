-- `body::record::record_at`. The loop's invariant: the numbers behind it, with those left, are all.
use Rattle.body.proofs.Records.{ReadTo}
use Rattle.body.proofs.record.record_at.Given as goal

abbrev pub invariant-loop-i : goal.invariant-loop-i
invariant-loop-i l = ReadTo l.s l.at l.values l.i l.next
