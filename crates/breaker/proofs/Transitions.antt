-- `Tickets`: each write moves the generation by its transitions. Assumes nothing.
use mathlib.Core.Path.{◌≡◌, refl, sym, ap, ◌∙◌}
use mathlib.Core.Bool.{Bool, true, false, not, ◌&&◌}
use mathlib.Core.List.{List, [], ◌∷◌}
use Prim.Native.Nat.{ℕ, zero, suc, ◌+◌, ◌-◌, ◌^◌, min}
use native.Mathlib.Nat.{add-zero}
use native.Mathlib.Omega.{arith}
use lib.Dec.{eqb, leb, ltb}
use borrow.Author.Tests.{eqb-true, eq-eqb}
use Rattle.std.proofs.Common.{if◌then◌else◌}
use Rattle.error.specs.Choice.{bit}
use Rattle.error.specs.Told.{refused}
use Rattle.error.specs.declared.Refusal.TheVariants.{Full}
use Rattle.trip.specs.Policy.{tripped}
use Rattle.breaker.specs.declared.Ticket.{Ticket}
use Rattle.breaker.specs.Record.{Settings, State, Closed, HalfOpen, Open, settings}
use Rattle.breaker.specs.Rules.{outcome, done, opening, with_history, next, nexts, Admitted, granted, shed, admit, via_trait, ticket_of, half_opening, with_counts, one_more_trial, noted, settled, in_half_open, in_closed, aborted, released, manual, has_trait_probe, counting, closing, recorded, no_room}
use Rattle.breaker.specs.Transitions.{InForce, Write, admission, outcome_of, abort, release, manual_outcome, resetting, returning, new_settings, entered, writes, settles, transitions, all_written, all_transitions, Tickets, TicketsAgain}
use Rattle.breaker.proofs.Generations.{another, the_same}

nexts-one : (g : ℕ) → nexts 1 g ≡ next g
unfolding nexts
nexts-one g = refl

nexts-none : (g : ℕ) → nexts 0 g ≡ g
unfolding nexts
nexts-none g = refl

nexts-more : (j k g : ℕ) → nexts (j + k) g ≡ nexts k (nexts j g)
unfolding nexts
nexts-more j zero g = rw add-zero
nexts-more j (suc k) g = let e : j + suc k ≡ suc (j + k) = omega arith in ap (λ (n : ℕ). nexts n g) e ∙ ap next (nexts-more j k g)

-- by a test: the next generation where it holds, else the present one
moved_by : (b : Bool) (g x : ℕ) → (b ≡ true → x ≡ next g) → (b ≡ false → x ≡ g) → x ≡ nexts (bit b) g
moved_by true g x p q = p refl ∙ sym (nexts-one g)
moved_by false g x p q = q refl ∙ sym (nexts-none g)

-- ---- each write
trait-keeps : (trait : Bool) (a : Admitted) (st : State) → (entered (via_trait trait a) st).generation ≡ (entered a st).generation
trait-keeps true (granted t now) st = go t.probe
  where
    go : (b : Bool) → (if b then noted now else now).generation ≡ now.generation
    go true = refl
    go false = refl
trait-keeps false (granted t now) st = refl
trait-keeps true (shed ms) st = refl
trait-keeps false (shed ms) st = refl

admitted-moves : (s : Settings) (reading : ℕ) (st : State)
    → (entered (admit s reading st) st).generation ≡ nexts (bit (eqb st.state Open && leb st.open_until reading)) st.generation
unfolding admit
admitted-moves s reading st = go (eqb st.state Closed) refl (eqb st.state Open) (leb st.open_until reading) (ltb st.counts.inflight s.trials) refl
  where
    go : (c : Bool) → eqb st.state Closed ≡ c → (o l i : Bool) → eqb st.state Open ≡ o
        → (entered
        (if c then granted (ticket_of st false) st
        else if o then (if l then granted (ticket_of (half_opening st) true) (half_opening st) else shed (st.open_until - reading))
        else if i then granted (ticket_of st true) (with_counts (one_more_trial st.counts) st)
        else shed 0)
        st).generation
        ≡ nexts (bit (o && l)) st.generation
    go true p true l i q = let c = eqb-true st.state Closed p in let o = eqb-true st.state Open q in absurd (omega (arith, c, o))
    go true p false l i q = sym (nexts-none st.generation)
    go false p true true i q = sym (nexts-one st.generation)
    go false p true false i q = sym (nexts-none st.generation)
    go false p false l true q = sym (nexts-none st.generation)
    go false p false l false q = sym (nexts-none st.generation)

half-moves : (s : Settings) (reading : ℕ) (t : Ticket) (good : Bool) (st : State)
    → (in_half_open s reading t good st).generation ≡ nexts (bit (if good then leb s.required (st.counts.successes + 1) else true)) st.generation
half-moves s reading t true st = go (leb s.required (st.counts.successes + 1))
  where
    go : (b : Bool) → (if b then closing st else counting (bit t.probe) 0 1 st).generation ≡ nexts (bit b) st.generation
    go true = sym (nexts-one st.generation)
    go false = sym (nexts-none st.generation)
half-moves s reading t false st = sym (nexts-one st.generation)

pick : (n t : Bool) (st a b : State) → a.generation ≡ next st.generation → b.generation ≡ st.generation
    → (if n then outcome (refused Full) st else if t then done a else done b).after.generation ≡ nexts (bit (not n && t)) st.generation
pick true t st a b p q = sym (nexts-none st.generation)
pick false true st a b p q = p ∙ sym (nexts-one st.generation)
pick false false st a b p q = q ∙ sym (nexts-none st.generation)

closed-moves : (s : Settings) (reading : ℕ) (good : Bool) (st : State)
    → (in_closed s reading good st).after.generation
    ≡ nexts
    (bit
    (if good then false
    else not (no_room s.policy reading st.list)
    && tripped s.policy reading (min (st.run + 1) (2 ^ 32 - 1)) (recorded s.policy true reading st.list)))
    st.generation
unfolding in_closed
closed-moves s reading true st = sym (nexts-none st.generation)
closed-moves s reading false st =
    let run = min (st.run + 1) (2 ^ 32 - 1) in
    let list = recorded s.policy true reading st.list in
    pick (no_room s.policy reading st.list) (tripped s.policy reading run list) st (opening s reading (with_history run list st)) (with_history run list st) refl refl

settled-moves : (s : Settings) (reading : ℕ) (t : Ticket) (good : Bool) (st : State)
    → (settled s reading t good st).after.generation ≡ nexts (bit (eqb t.generation st.generation && settles s reading good st)) st.generation
unfolding settled
settled-moves s reading t good st = go (eqb t.generation st.generation) (eqb st.state HalfOpen) (eqb st.state Closed)
  where
    m : Bool
    m = if good then leb s.required (st.counts.successes + 1) else true

    n : Bool
    n =
        if good then false
        else not (no_room s.policy reading st.list)
        && tripped s.policy reading (min (st.run + 1) (2 ^ 32 - 1)) (recorded s.policy true reading st.list)

    go : (a h c : Bool)
        → (if not a then done st else if h then done (in_half_open s reading t good st) else if c then in_closed s reading good st else done st).after.generation
        ≡ nexts (bit (a && (if h then m else if c then n else false))) st.generation
    go false h c = sym (nexts-none st.generation)
    go true true c = half-moves s reading t good st
    go true false true = closed-moves s reading good st
    go true false false = sym (nexts-none st.generation)

-- a settle of the present generation
present-moves : (s : Settings) (reading : ℕ) (probe good : Bool) (st : State)
    → (settled s reading (ticket_of st probe) good st).after.generation ≡ nexts (bit (settles s reading good st)) st.generation
present-moves s reading probe good st =
    settled-moves s reading (ticket_of st probe) good st ∙ ap (λ (b : Bool). nexts (bit (b && settles s reading good st)) st.generation) (eq-eqb st.generation st.generation refl)

manual-moves : (s : Settings) (reading : ℕ) (good : Bool) (st : State) → (manual s reading good st).after.generation ≡ nexts (bit (settles s reading good st)) st.generation
unfolding manual
manual-moves s reading good st = go (has_trait_probe st)
  where
    same : nexts (bit (settles s reading good (counting 0 1 0 st))) st.generation ≡ nexts (bit (settles s reading good st)) st.generation
    same = rw add-zero

    go : (b : Bool)
        → (if b then settled s reading (ticket_of st true) good (counting 0 1 0 st) else settled s reading (ticket_of st false) good st).after.generation
        ≡ nexts (bit (settles s reading good st)) st.generation
    go true = present-moves s reading true good (counting 0 1 0 st) ∙ same
    go false = present-moves s reading false good st

aborted-stays : (t : Ticket) (trait : Bool) (st : State) → (aborted t trait st).generation ≡ st.generation
unfolding aborted
aborted-stays t trait st = go (t.probe && (eqb t.generation st.generation && eqb st.state HalfOpen))
  where
    go : (b : Bool) → (if b then counting 1 (bit trait) 0 st else st).generation ≡ st.generation
    go true = refl
    go false = refl

released-stays : (st : State) → (released st).generation ≡ st.generation
unfolding released
released-stays st = go (has_trait_probe st)
  where
    go : (b : Bool) → (if b then counting 1 1 0 st else st).generation ≡ st.generation
    go true = refl
    go false = refl

pub write_moves : (w : Write) (f : InForce) → (writes w f).state.generation ≡ nexts (transitions w f) f.state.generation
write_moves (admission trait reading) f = trait-keeps trait (admit (settings f.config) reading f.state) f.state ∙ admitted-moves (settings f.config) reading f.state
write_moves (outcome_of reading t good) f = settled-moves (settings f.config) reading t good f.state
write_moves (abort t trait) f = aborted-stays t trait f.state ∙ sym (nexts-none f.state.generation)
write_moves release f = released-stays f.state ∙ sym (nexts-none f.state.generation)
write_moves (manual_outcome reading good) f = manual-moves (settings f.config) reading good f.state
write_moves resetting f = sym (nexts-one f.state.generation)
write_moves (returning c st) f = sym (nexts-one f.state.generation)
write_moves (new_settings c) f = sym (nexts-one f.state.generation)

pub all-moves : (ws : List Write) (f : InForce) → (all_written ws f).state.generation ≡ nexts (all_transitions ws f) f.state.generation
unfolding all_written all_transitions
all-moves [] f = sym (nexts-none f.state.generation)
all-moves (w ∷ ws) f =
    all-moves ws (writes w f)
    ∙ ap (λ (g : ℕ). nexts (all_transitions ws (writes w f)) g) (write_moves w f)
    ∙ sym (nexts-more (transitions w f) (all_transitions ws (writes w f)) f.state.generation)

pub tickets : Tickets
tickets f ws h l e = another f.state.generation (all_transitions ws f) h l (sym (all-moves ws f) ∙ e)

resets : ℕ → List Write
resets zero = []
resets (suc n) = resetting ∷ resets n

resets-count : (n : ℕ) (f : InForce) → all_transitions (resets n) f ≡ n
unfolding resets all_transitions
resets-count zero f = refl
resets-count (suc n) f = ap (λ (k : ℕ). 1 + k) (resets-count n (writes resetting f)) ∙ omega arith

pub tickets-again : TicketsAgain
tickets-again f l =
    let ws = resets (2 ^ 64) in
    let n = resets-count (2 ^ 64) f in
    (ws, n, all-moves ws f ∙ ap (λ (k : ℕ). nexts k f.state.generation) n ∙ the_same f.state.generation l)
