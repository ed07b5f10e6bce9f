-- `input::read_full` ends: each read that brings something leaves less room.
use Rattle.std.proofs.Common.{◌-◌, ◌≤◌, length}
use Rattle.input.proofs.read_full.Given as goal

abbrev pub invariant-loop-full : goal.invariant-loop-full
invariant-loop-full g l = l.full ≤ length l.buf

abbrev pub decreases-loop-full : goal.decreases-loop-full
decreases-loop-full g l = length l.buf - l.full
