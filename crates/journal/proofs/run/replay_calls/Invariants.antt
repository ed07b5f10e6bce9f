-- `journal::run::replay_calls`: the breaker is sound and has the first one's settings; there is room, 23 bytes for each byte to read; nothing past the answer is written; and whatever answers the rest completes the answer.
use Rattle.std.proofs.Common.{◌≡◌, ◌+◌, ◌*◌, ◌≤◌, true, length, drop}
use Rattle.breaker.specs.Record.{settings, state, sound}
use Rattle.journal.proofs.Replaying.{So}
use Rattle.journal.proofs.run.replay_calls.Given as goal

abbrev pub invariant-loop-call : goal.invariant-loop-call
invariant-loop-call l = record {
  sound_is : sound l.breaker l.list ≡ true;
  config_is : l.breaker.config ≡ l.fn.breaker.config;
  room : l.end + 23 * length l.rest ≤ 23 * length l.s;
  lines : l.line + length l.rest ≤ 2 + length l.s;
  past : drop l.end l.out ≡ drop l.end l.initial.out;
  so : So l.more (settings l.fn.breaker.config) (state l.fn.breaker l.initial.list) l.s l.out l.rest l.end l.line (state l.breaker l.list);
}

abbrev pub decreases-loop-call : goal.decreases-loop-call
decreases-loop-call l = length l.rest
