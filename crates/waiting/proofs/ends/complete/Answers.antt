-- `waiting::ends::complete` meets its contract: each end by its rule. Assumes nothing.
use Rattle.std.proofs.Common.{refl}
use Rattle.breaker.specs.Rules.{still_admits}
use Rattle.waiting.proofs.Steps.{judged-by}
use Rattle.waiting.proofs.ends.complete.Goals as goal

pub returns-in-Deadline : goal.returns-in-Deadline
returns-in-Deadline c = rw c.in-Deadline.is c.given_up.ensures

pub returns-in-Never : goal.returns-in-Never
returns-in-Never c = rw c.in-Never.is (rw c.from.ensures at c.given_up-in-Never.ensures)

pub returns-in-Ok : goal.returns-in-Ok
returns-in-Ok c = λ cfg st e. rw (c.in-Done.is, ← judged-by (still_admits c.args.now_ms c.args.ticket st) c.args.ticket st, ← c.in-Ok.ensures cfg st e, e) refl

pub returns-in-Err : goal.returns-in-Err
returns-in-Err c = λ cfg st e. rw (c.in-Done.is, ← judged-by (still_admits c.args.now_ms c.args.ticket st) c.args.ticket st, ← c.in-Err.ensures cfg st e) (c.given_up-in-Err.ensures cfg st e)
