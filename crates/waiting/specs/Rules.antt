-- "Waiting answers": what the end of a wait does to its breaker. Definitions only.
use Rattle.std.specs.Prelude.{ℕ, false}
use Rattle.error.specs.Told.{Told}
use Rattle.breaker.specs.declared.Ticket.{Ticket}
use Rattle.breaker.specs.Record.{State}
use Rattle.breaker.specs.Answers.{delay_of}
use Rattle.breaker.specs.Rules.{Outcome, outcome, aborted, Verdict, admits, refuses, still_admits}
use Rattle.wait.specs.declared.Ending.{Ending}
use Rattle.wait.specs.declared.Ending.TheVariants.{Done, Deadline, Never}
use Rattle.waiting.specs.declared.Completed.TheVariants as CompletedIs
use Rattle.waiting.specs.Answers.{completed_told}

-- "ticket aborted", and what is told
abbrev pub after_abort : Told → Ticket → State → Outcome
after_abort told t st = outcome told (aborted t false st)

-- "if refused, refund 1, abort, delay"
abbrev pub judged : Verdict → Ticket → State → Outcome
judged admits t st = outcome (completed_told (CompletedIs.Admitted t)) st
judged (refuses ms) t st = after_abort (completed_told (CompletedIs.Shed (delay_of ms) 1)) t st

-- "Done: `still_admits` at a breaker reading handed in"; "Deadline, never, or a dropped wait: abort"
abbrev pub completes : Ending → ℕ → ℕ → Ticket → State → Outcome
completes Done reading capacity t st = judged (still_admits reading t st) t st
completes (Deadline back) reading capacity t st = after_abort (completed_told (CompletedIs.Deadline back)) t st
completes Never reading capacity t st = after_abort (completed_told (CompletedIs.Impossible 1 capacity)) t st
