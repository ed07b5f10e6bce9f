-- What of a wait crosses to C: an answer as plain numbers, the pending wait that a caller holds, and what a call leaves. Definitions only.
use Rattle.std.specs.Prelude.{ℕ, List, eqb, get_or, if◌then◌else◌}
use Rattle.std.specs.declared.ops.ControlFlow.{ControlFlow}
use Rattle.std.specs.declared.ops.ControlFlow.TheVariants.{Continue, Break}
use Rattle.error.specs.Choice.{bit}
use Rattle.error.specs.Told.{Told as Answer}
use Rattle.breaker.specs.declared.Ticket.{Ticket}
use Rattle.breaker.specs.declared.Breaker.{Breaker}
use Rattle.waiting.specs.declared.Pending.{Pending}
use Rattle.waiting.specs.Calls.{PendingAfter, PendingRun}
use Rattle.crossing.specs.declared.Waited.{Waited}
use Rattle.crossing.specs.declared.PlainTicket.{PlainTicket}
use Rattle.crossing.specs.declared.PlainPending.{PlainPending}
use Rattle.crossing.specs.Crossing.{ticket_by}

-- the number, the values in their order, 0 where there is none, and the turns that a run took
abbrev pub packed_wait : Answer → ℕ → Waited
packed_wait t taken = record { number = t.number; v1 = get_or t.values 0 0; v2 = get_or t.values 1 0; v3 = get_or t.values 2 0; v4 = get_or t.values 3 0; taken = taken }

-- what is told of a turn: of how the wait ends, or of what the host is to do
abbrev pub flow_told : {E A : Type 0} → (E → Answer) → (A → Answer) → ControlFlow E A → Answer
flow_told ends goes (Break e) = ends e
flow_told ends goes (Continue a) = goes a

-- ---- a wait with its ticket, as a caller holds it

-- what was handed in means
abbrev pub pending_by : PlainPending → Pending
pending_by p = record { wait = p.wait; ticket = ticket_by p.ticket }

-- a new ticket, and a new wait with it: the probe flag is 0 or 1
abbrev pub plain_ticket : Ticket → PlainTicket
plain_ticket t = record { generation = t.generation; probe = bit t.probe }

abbrev pub plain_pending : Pending → PlainPending
plain_pending p = record { wait = p.wait; ticket = plain_ticket p.ticket }

-- what the caller holds after a start: told 0 the new wait and its ticket, else exactly what was handed in
abbrev pub after_start : ℕ → Pending → PlainPending → PlainPending
after_start told next handed = if eqb told 0 then plain_pending next else handed

-- after a turn, a run or a drop: the wait that the rule leaves, and the ticket exactly as it was handed in, its probe byte too
abbrev pub after_turn : Pending → PlainPending → PlainPending
after_turn next handed = record { wait = next.wait; ticket = handed.ticket }

-- ---- what a call leaves: what it told, the record, every place, and the wait with its ticket

pub record CrossingWait : Type 0 where
  pub told : Waited
  pub breaker : Breaker
  pub places : List ℕ
  pub pending : PlainPending

abbrev pub crossing_wait : Waited → Breaker → List ℕ → PlainPending → CrossingWait
crossing_wait t b s p = record { told = t; breaker = b; places = s; pending = p }

-- a call that is no run took no turns
unfoldable pub crossed_start : PendingAfter → PlainPending → CrossingWait
crossed_start a handed = crossing_wait (packed_wait a.told 0) a.breaker a.places (after_start a.told.number a.pending handed)

-- a turn or a drop
unfoldable pub crossed_turn : PendingAfter → PlainPending → CrossingWait
crossed_turn a handed = crossing_wait (packed_wait a.told 0) a.breaker a.places (after_turn a.pending handed)

unfoldable pub crossed_run : PendingRun → PlainPending → CrossingWait
crossed_run x handed = crossing_wait (packed_wait x.left.told x.taken) x.left.breaker x.left.places (after_turn x.left.pending handed)
