-- `batch::finish_each` meets its contract. The loop's invariant: record and places hold the state after the calls so far, and their answers stand in front.
-- Assumes nothing.
use Rattle.std.proofs.Common.{◌≡◌, length}
use Rattle.breaker.specs.Batch.{slices}
use Rattle.batch.proofs.Sequences.{Turn}
use Rattle.batch.proofs.finish_each.Given as goal

abbrev pub invariant-loop-i : goal.invariant-loop-i
invariant-loop-i l = record {
  turn : Turn (slices l.generations l.probes l.settles l.marks) l.now_ms l.initial.b l.initial.list l.initial.answers l.b l.list l.answers l.i;
  places : length l.list ≡ length l.initial.list;
  answers : length l.answers ≡ length l.initial.answers;
}
