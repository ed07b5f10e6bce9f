-- How long the line is that answers a call: at most 91 bytes, where a call's line has at least 4. Assumes nothing.
use Prim.Native.Nat.{ℕ, ◌+◌, ◌-◌, ◌≤◌, ◌<◌, ◌^◌}
use mathlib.Core.Path.{◌≡◌}
use mathlib.Core.Bool.{Bool, true, false}
use mathlib.Core.List.{List, ◌∷◌}
use native.Mathlib.Omega.{arith}
use lib.ListN.{length, length-append}
use Rattle.error.specs.Choice.{bit}
use Rattle.error.specs.Told.{Told, refused}
use Rattle.error.specs.declared.Refusal.TheVariants.{Full}
use Rattle.breaker.specs.declared.Ticket.{Ticket}
use Rattle.breaker.specs.declared.Breaker.{Breaker}
use Rattle.breaker.specs.Record.{Settings, State, state, sound}
use Rattle.breaker.specs.Rules.{Outcome, outcome, done, with_counts, one_more_trial, half_opening, granted, shed, via_trait, in_closed, settled}
use Rattle.breaker.specs.Rules as Rules
use Rattle.breaker.specs.Calls.{answered, admission}
use Rattle.breaker.proofs.Cases.{admit-cases, settled-cases, failure-cases}
use Rattle.breaker.proofs.Record.{sound→, shared→}
use Rattle.lines.specs.declared.Call.{Call}
use Rattle.lines.specs.declared.Order.{Order}
use Rattle.lines.specs.declared.Order.TheVariants.{Admit, Success, Failure, Abort, Reset}
use Rattle.lines.specs.Print.{print_decimal, print_fields}
use Rattle.journal.specs.Replay.{ordered, called, five, answer_line}
use Rattle.journal.proofs.Laid.{length-decimal}

-- the fields that a line shows are within their widths, and the state is a digit
pub record Shown (st : State) : Type 0 where
  pub code : st.state < 10
  pub generation : st.generation < 2 ^ 64
  pub inflight : st.counts.inflight < 2 ^ 32
  pub successes : st.counts.successes < 2 ^ 32
  pub open_until : st.open_until < 2 ^ 64

wide : (n : ℕ) → n < 2 ^ 64 → length (print_decimal n) ≤ 20
wide n h = length-decimal n 19 (omega arith)

narrow : (n : ℕ) → n < 2 ^ 32 → length (print_decimal n) ≤ 10
narrow n h = length-decimal n 9 (omega arith)

flag : (p : Bool) → length (print_decimal (bit p)) ≤ 1
flag true = length-decimal 1 0 (omega arith)
flag false = length-decimal 0 0 (omega arith)

-- one field more
field : (v : ℕ) (vs : List ℕ) → length (print_fields (v ∷ vs)) ≡ 1 + (length (print_decimal v) + length (print_fields vs))
unfolding print_fields
field v vs = simp length-append (omega arith)

five-short : (st : State) → Shown st → length (print_fields (five st)) ≤ 66
unfolding print_fields
five-short st h =
    simp length-append
    (omega (arith, length-decimal st.state 0 h.code, wide st.generation h.generation, narrow st.counts.inflight h.inflight, narrow st.counts.successes h.successes, wide st.open_until h.open_until))

-- ---- an outcome whose line is short
abbrev pub Short : Outcome → Type 0
Short o = Shown o.after → length (answer_line o.told o.after) ≤ 91

done-short : (st : State) → Short (done st)
done-short st h = simp length-append (omega (arith, five-short st h))

full-short : (st : State) → Short (outcome (refused Full) st)
full-short st h = simp (length-append, field 5 (five st)) (omega (arith, five-short st h, length-decimal 5 0 (omega arith)))

granted-short : (st next : State) (p : Bool) → Short (answered (granted (Rules.ticket_of next p) next) st)
granted-short st next p h = simp (length-append, field next.generation (bit p ∷ five next), field (bit p) (five next)) (omega (arith, five-short next h, wide next.generation h.generation, flag p))

shed-short : (st : State) (ms : ℕ) → ms ≤ st.open_until → Short (answered (shed ms) st)
shed-short st ms l h = simp (length-append, field ms (five st)) (omega (arith, five-short st h, wide ms (omega (arith, h.open_until))))

-- ---- every call's
admit-short : (t : ℕ) (S : Settings) (st : State) → Short (admission false t S st)
admit-short t S st =
    admit-cases (λ a. Short (answered (via_trait false a) st)) S t st (granted-short st st false) (granted-short st (half_opening st) true) (shed-short st (st.open_until - t) (omega arith))
    (λ c o i. granted-short st (with_counts (one_more_trial st.counts) st) true) (shed-short st 0 (omega arith))

closed-short : (S : Settings) (reading : ℕ) (good : Bool) (st : State) → Short (in_closed S reading good st)
unfolding in_closed
closed-short S reading true st = done-short _
closed-short S reading false st = failure-cases Short S reading st (full-short st) (λ r. done-short _) (λ r. done-short _)

settled-short : (S : Settings) (reading : ℕ) (t : Ticket) (good : Bool) (st : State) → Short (settled S reading t good st)
settled-short S reading t good st = settled-cases Short S reading st t good (done-short st) (λ h. done-short _) (λ c. closed-short S reading good st)

order-short : (o : Order) (t : ℕ) (S : Settings) (st : State) → Short (ordered o t S st)
order-short Admit t S st = admit-short t S st
order-short (Success k) t S st = settled-short S t k true st
order-short (Failure k) t S st = settled-short S t k false st
order-short (Abort k) t S st = done-short _
order-short Reset t S st = done-short _

pub called-short : (c : Call) (S : Settings) (st : State) → Short (called c S st)
called-short c = order-short c.order c.reading

-- what a step answers
pub step-short : (c : Call) (S : Settings) (st st' : State) (t : Told) → st' ≡ (called c S st).after → t ≡ (called c S st).told → Shown st' → length (answer_line t st') ≤ 91
step-short c S st st' t e says h = rw (says, e) (called-short c S st (rw e at h))

-- a sound record's fields, once they are within their widths
pub shown : (b : Breaker) (s : List ℕ) → sound b s ≡ true → let st = state b s in
    st.generation < 2 ^ 64 → st.counts.inflight < 2 ^ 32 → st.counts.successes < 2 ^ 32 → st.open_until < 2 ^ 64 → Shown st
shown b s ok g i n u =
    record { code = omega (arith, (shared→ b.config b.shared (sound→ b s ok).shared).code); generation = g; inflight = i; successes = n; open_until = u }
