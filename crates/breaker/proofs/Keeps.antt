-- Sound in, sound out: every rule takes a sound breaker to a sound one, and a refused finishing call leaves it as it was. Assumes nothing.
--     sound-counts, sound-history, sound-moved         one law for each kind of change to a state
--     sound-opening, sound-closing, sound-half_opening, sound-returned  the transitions
--     sound-recorded, sound-recorded-good              the policy's list after a failure that has room, and after a success
--     sound-settled, sound-aborted, sound-sequence, sound-admit_as, ..       the rules, and the entry points as `Keeps rule`
--     refused-unchanged, refused-manual                a call that is refused
use Prim.Native.Nat.{ℕ, ◌+◌, ◌≤◌, ◌<◌}
use native.Mathlib.Omega.{arith}
use mathlib.Core.Path.{◌≡◌, refl, sym, ap, ap₂, ◌∙◌}
use mathlib.Core.Bool.{Bool, true, false, ◌&&◌, false≢true}
use mathlib.Core.Logic.{◌≢◌, ◌⊎◌, inl, inr, ⊎_elim}
use mathlib.Core.List.{List, [], ◌∷◌}
use lib.Dec.{leb, eqb}
use lib.ListN.{length}
use borrow.Author.Tests.{leb-true, leb-false}
use Rattle.std.proofs.Common.{Option}
use Rattle.std.specs.Option.{is_some}
use Rattle.error.specs.Choice.{bit}
use Rattle.error.specs.Told.{Told, tell, refused}
use Rattle.error.specs.declared.Refusal.TheVariants.{Full}
use Rattle.history.specs.Items.{padded, fits, sound_list}
use Rattle.error.proofs.Choice.{if-cases, and_split}
use Rattle.history.proofs.Sound.{view-padded, outcomes-fit}
use Rattle.history.proofs.Held.{clear-sound, outcome-sound, time-sound, evict-sound}
use Rattle.trip.specs.declared.Config.{Config}
use Rattle.trip.specs.Policy.{Policy, Consecutive, Ratio, Windowed, policy_of}
use Rattle.breaker.specs.declared.Counts.{Counts}
use Rattle.breaker.specs.declared.Breaker.{Breaker}
use Rattle.breaker.specs.declared.Ticket.{Ticket}
use Rattle.breaker.specs.declared.Decision.{Decision}
use Rattle.breaker.specs.declared.Decision.TheVariants.{Acquired, Retry, Impossible}
use Rattle.breaker.specs.declared.Delay.{Delay}
use Rattle.breaker.specs.Record.{Settings, State, Closed, HalfOpen, Open, settings, state, fields, stored, sound_policy, sound_config, items_for, items_of, sound}
use Rattle.breaker.specs.Rules.{Outcome, outcome, with_counts, with_history, moved, no_counts, one_more_trial, one_more_trait_probe, less_counts, counting, opening, closing, half_opening, returned, recorded, no_room, Call, success, failure, abort, trait_abort, probes, in_half_open, in_closed, settled, aborted, finish, ticket_of, released, manual, Admitted, granted, shed, admit, noted, via_trait, admit_as, reset}
use Rattle.breaker.specs.Answers.{is_acquired}
use Rattle.breaker.specs.Calls.{fresh, fresh_at, answered, admission, try_inner, try_admit, cancel, decided, reserved, handed_on, acquire_inner, acquire_cost, reserve_inner, reserve, refund}
use Rattle.breaker.specs.Orders.{sequence}
use Rattle.breaker.proofs.Cases.{probe-cases, admit-cases, failing, settled-cases, failure-cases, aborted-cases}
use Rattle.breaker.proofs.Record.{SoundShared, Sound, config→, shared→, →shared, sound→, →sound, stored-state, padded-state}

-- a state is sound under its settings: what is stored of it passes the test
abbrev pub SoundAt : Config → State → Type 0
SoundAt c st = sound (stored c st) (padded st.list) ≡ true

-- the empty list fits every policy
empty-fits : (c : Config) → sound_policy c ≡ true → fits (items_of c) 0 ≡ true
unfolding sound_policy
empty-fits c p =
    if-cases (λ (q : Policy). fits (items_for q) 0 ≡ true) (eqb c.kind 1) (λ e. refl)
    (λ e. if-cases (λ (q : Policy). fits (items_for q) 0 ≡ true) (eqb c.kind 2)
    (λ k.
    let q = and_split (leb 1 c.limit) _ (rw (e, k) at p) in
    let r = and_split (leb c.limit 4096) _ q.1 in
    outcomes-fit c.limit 0 (leb-true _ _ q.0) (leb-true _ _ r.0) (omega arith))
    (λ k. refl))

-- a state of sound settings is sound by its fields and its list
sound-at : (c : Config) (st : State) → sound_config c ≡ true → SoundShared c (fields st) → sound_list (items_of c) (length st.list) (padded st.list) ≡ true → SoundAt c st
sound-at c st g h l = →sound (stored c st) (padded st.list) (record { config = g; shared = →shared c (fields st) h; list = l })

-- the list emptied
sound_empty : (c : Config) → sound_config c ≡ true → sound_list (items_of c) 0 (padded []) ≡ true
sound_empty c g = clear-sound (items_of c) (empty-fits c (config→ c g).policy)

-- a new breaker
pub sound-fresh : (c : Config) → sound_config c ≡ true → SoundAt c fresh
sound-fresh c g = sound-at c fresh g (record { code = omega arith; inflight = omega arith; successes = (config→ c g).some; idle = inr (refl, refl, refl) }) (sound_empty c g)

-- and of any generation
pub sound-fresh_at : (c : Config) (generation : ℕ) → sound_config c ≡ true → SoundAt c (fresh_at generation)
sound-fresh_at c generation g = sound-at c (fresh_at generation) g (record { code = omega arith; inflight = omega arith; successes = (config→ c g).some; idle = inr (refl, refl, refl) }) (sound_empty c g)

-- what is stored of a sound record's state is sound
pub sound-state : (b : Breaker) (s : List ℕ) → sound b s ≡ true → SoundAt b.config (state b s)
sound-state b s ok = sym (ap₂ sound (stored-state b s ok) (padded-state b s ok)) ∙ ok

-- ---- the kinds of change
module _ (c : Config) (st : State) (ok : SoundAt c st) where
  -- the facts of a sound state
  pub whole : Sound (stored c st) (padded st.list)
  whole = sound→ (stored c st) (padded st.list) ok

  pub shared : SoundShared c (fields st)
  shared = shared→ c (fields st) whole.shared

  -- what is counted, in HalfOpen
  pub sound-counts : (x : Counts) → st.state ≡ HalfOpen → x.inflight ≤ c.trials → x.successes < c.required → SoundAt c (with_counts x st)
  sound-counts x h p q = sound-at c (with_counts x st) whole.config (record { code = shared.code; inflight = p; successes = q; idle = inl h }) whole.list

  -- the run of failures and the list
  pub sound-history : (r : ℕ) (ys : List ℕ) → sound_list (items_of c) (length ys) (padded ys) ≡ true → SoundAt c (with_history r ys st)
  sound-history r ys l =
      sound-at c (with_history r ys st) whole.config (record { code = shared.code; inflight = shared.inflight; successes = shared.successes; idle = shared.idle }) l

  -- a transition with the counters emptied
  sound-moved : (to until : ℕ) → to ≤ 2 → SoundAt c (moved to until (with_counts no_counts st))
  sound-moved to until h =
      sound-at c (moved to until (with_counts no_counts st)) whole.config
      (record { code = h; inflight = omega arith; successes = (config→ c whole.config).some; idle = inr (refl, refl, refl) })
      whole.list

  -- the transitions
  pub sound-opening : (s : Settings) (reading : ℕ) → SoundAt c (opening s reading st)
  sound-opening s reading = sound-moved Open _ (omega arith)

module _ (c : Config) (st : State) (ok : SoundAt c st) where
  pub sound-closing : SoundAt c (closing st)
  sound-closing = sound-moved c (with_history 0 [] st) (sound-history c st ok 0 [] (sound_empty c (whole c st ok).config)) Closed st.open_until (omega arith)

  pub sound-half_opening : SoundAt c (half_opening st)
  sound-half_opening =
      let g = config→ c (whole c st ok).config in
      sound-counts c (moved HalfOpen st.open_until (with_counts no_counts st)) (sound-moved c st ok HalfOpen st.open_until (omega arith)) (one_more_trial no_counts) refl (omega (arith, g.some, g.most)) g.some

  -- coming back: nothing is out, which fits every state
  pub sound-returned : (present : ℕ) → SoundAt c (returned present st)
  sound-returned present =
      let h = shared c st ok in
      sound-at c (returned present st) (whole c st ok).config
      (record { code = h.code; inflight = omega arith; successes = h.successes; idle = ⊎_elim inl (λ i. inr (refl, refl, i.2)) h.idle }) (whole c st ok).list

-- ---- what the policy records

-- the list is one that the policy can have
abbrev SoundItems : Policy → List ℕ → Type 0
SoundItems p xs = sound_list (items_for p) (length xs) (padded xs) ≡ true

-- a success, or a failure for which there is room
records : (p : Policy) (failed : Bool) (reading : ℕ) (xs : List ℕ) → (failed && no_room p reading xs) ≡ false → SoundItems p xs → SoundItems p (recorded p failed reading xs)
records (Consecutive n) failed reading xs r h = h
records (Ratio w q m) true reading xs r h = rw view-padded at (outcome-sound w 1 (length xs) (padded xs) h (omega arith))
records (Ratio w q m) false reading xs r h = rw view-padded at (outcome-sound w 0 (length xs) (padded xs) h (omega arith))
records (Windowed k d) true reading xs r h = rw view-padded at (time-sound reading d (length xs) (padded xs) h (rw view-padded r))
records (Windowed k d) false reading xs r h = rw view-padded at (evict-sound reading d (length xs) (padded xs) h)

module _ (c : Config) (st : State) (ok : SoundAt c st) where
  -- the list of the settings' policy
  record-any : (failed : Bool) (reading : ℕ) → (failed && no_room (policy_of c) reading st.list) ≡ false
      → let ys = recorded (policy_of c) failed reading st.list in sound_list (items_of c) (length ys) (padded ys) ≡ true
  record-any failed reading r = records (policy_of c) failed reading st.list r (whole c st ok).list

  -- the list after a failure that has room
  pub sound-recorded : (reading : ℕ) → no_room (policy_of c) reading st.list ≡ false
      → let ys = recorded (policy_of c) true reading st.list in sound_list (items_of c) (length ys) (padded ys) ≡ true
  sound-recorded reading r = record-any true reading r

  -- and after a success
  pub sound-recorded-good : (reading : ℕ) → let ys = recorded (policy_of c) false reading st.list in sound_list (items_of c) (length ys) (padded ys) ≡ true
  sound-recorded-good reading = record-any false reading refl

  -- the state that holds that list, with any run of failures
  pub recorded-held : (failed : Bool) (reading r : ℕ) → (failed && no_room (policy_of c) reading st.list) ≡ false
      → SoundAt c (with_history r (recorded (policy_of c) failed reading st.list) st)
  recorded-held failed reading r e = sound-history c st ok r (recorded (policy_of c) failed reading st.list) (record-any failed reading e)

  -- ---- the calls that finish a permit
  sound-counting : (p t g : ℕ) → st.state ≡ HalfOpen → st.counts.successes + g < c.required → SoundAt c (counting p t g st)
  sound-counting p t g h l = sound-counts c st ok (less_counts p t g st.counts) h (omega (arith, (shared c st ok).inflight)) l

  sound-half : (reading : ℕ) (t : Ticket) (good : Bool) → st.state ≡ HalfOpen → SoundAt c (in_half_open (settings c) reading t good st)
  sound-half reading t true h =
      if-cases (SoundAt c) (leb c.required (st.counts.successes + 1)) {a = closing st} {b = counting (probes t) 0 1 st}
      (λ e. sound-closing c st ok)
      (λ e. sound-counting (probes t) 0 1 h (leb-false c.required (st.counts.successes + 1) e))
  sound-half reading t false h = sound-opening c st ok (settings c) reading

  pub sound-closed : (reading : ℕ) (good : Bool) → SoundAt c (in_closed (settings c) reading good st).after
  unfolding in_closed
  sound-closed reading true = recorded-held false reading 0 refl
  sound-closed reading false =
      failure-cases (λ o. SoundAt c o.after) (settings c) reading st ok
      (λ r. sound-opening c (failing (settings c) reading st) (recorded-held true reading (failing (settings c) reading st).run r) (settings c) reading)
      (λ r. recorded-held true reading (failing (settings c) reading st).run r)

  pub sound-settled : (reading : ℕ) (t : Ticket) (good : Bool) → SoundAt c (settled (settings c) reading t good st).after
  sound-settled reading t good =
      settled-cases (λ o. SoundAt c o.after) (settings c) reading st t good ok (sound-half reading t good) (λ h. sound-closed reading good)

  pub sound-aborted : (t : Ticket) (trait : Bool) → SoundAt c (aborted t trait st)
  sound-aborted t trait = aborted-cases (SoundAt c) t trait st ok (λ h. sound-counting 1 (bit trait) 0 h (omega (arith, (shared c st ok).successes)))

pub sound-finish : (c : Config) (reading : ℕ) (call : Call) (st : State) → SoundAt c st → SoundAt c (finish (settings c) reading call st).after
sound-finish c reading (success t) st ok = sound-settled c st ok reading t true
sound-finish c reading (failure t) st ok = sound-settled c st ok reading t false
sound-finish c reading (abort t) st ok = sound-aborted c st ok t false
sound-finish c reading (trait_abort t) st ok = sound-aborted c st ok t true

-- a sequence of them
pub sound-sequence : (c : Config) (reading : ℕ) (cs : List Call) (st : State) → SoundAt c st → SoundAt c (sequence (settings c) reading cs st).after
unfolding sequence
sound-sequence c reading [] st ok = ok
sound-sequence c reading (call ∷ cs) st ok = sound-sequence c reading cs (finish (settings c) reading call st).after (sound-finish c reading call st ok)

-- ---- the other calls
module _ (c : Config) (st : State) (ok : SoundAt c st) where
  pub sound-released : SoundAt c (released st)
  unfolding released
  sound-released = probe-cases (SoundAt c) st {a = counting 1 1 0 st} {b = st} (λ h. sound-counting c st ok 1 1 0 h (omega (arith, (shared c st ok).successes))) ok

  pub sound-manual : (reading : ℕ) (good : Bool) → SoundAt c (manual (settings c) reading good st).after
  unfolding manual
  sound-manual reading good =
      probe-cases (λ (o : Outcome). SoundAt c o.after) st
      (λ h. sound-settled c (counting 0 1 0 st) (sound-counting c st ok 0 1 0 h (omega (arith, (shared c st ok).successes))) reading (ticket_of st true) good)
      (sound-settled c st ok reading (ticket_of st false) good)

-- an admission's state, if it is granted, is sound
abbrev pub SoundGrant : Config → Admitted → Type 0
SoundGrant c (granted t st) = SoundAt c st
SoundGrant c (shed ms) = Unit {0}

-- a ticket that holds a trial only in HalfOpen, admitted through either side
sound-via : (c : Config) (trait : Bool) (t : Ticket) (st : State) → SoundAt c st → (t.probe ≡ true → st.state ≡ HalfOpen) → SoundGrant c (via_trait trait (granted t st))
sound-via c false t st ok h = ok
sound-via c true t st ok h =
    if-cases (SoundAt c) t.probe {a = noted st} {b = st} (λ e. sound-counts c st ok (one_more_trait_probe st.counts) (h e) (shared c st ok).inflight (shared c st ok).successes) (λ e. ok)

module _ (c : Config) (st : State) (ok : SoundAt c st) where
  pub sound-admit_as : (trait : Bool) (reading : ℕ) → SoundGrant c (admit_as trait (settings c) reading st)
  sound-admit_as trait reading =
      admit-cases (λ a. SoundGrant c (via_trait trait a)) (settings c) reading st
      (sound-via c trait (ticket_of st false) st ok (λ e. absurd (false≢true e)))
      (sound-via c trait (ticket_of (half_opening st) true) (half_opening st) (sound-half_opening c st ok) (λ e. refl))
      tt
      (λ x y i.
      let h : st.state ≡ HalfOpen = omega (arith, (shared c st ok).code) in
      sound-via c trait (ticket_of st true) (with_counts (one_more_trial st.counts) st) (sound-counts c st ok (one_more_trial st.counts) h (omega arith) (shared c st ok).successes) (λ e. h))
      tt

-- ---- the entry points

-- a call that follows the rule leaves a sound state sound
abbrev pub Keeps : (Settings → State → Outcome) → Type 0
Keeps rule = (c : Config) (st : State) → SoundAt c st → SoundAt c (rule (settings c) st).after

pub sound-reset : Keeps (λ s st. reset st)
sound-reset c st ok = sound-closing c st ok

pub sound-cancel : (t : Ticket) → Keeps (cancel t)
sound-cancel t c st ok = sound-aborted c st ok t false

pub sound-refund : (cost : ℕ) → Keeps (refund cost)
sound-refund cost c st ok = sound-released c st ok

pub sound-admission : (trait : Bool) (reading : ℕ) → Keeps (admission trait reading)
sound-admission trait reading c st ok = go (admit_as trait (settings c) reading st) (sound-admit_as c st ok trait reading)
  where
    go : (a : Admitted) → SoundGrant c a → SoundAt c (answered a st).after
    go (granted t next) h = h
    go (shed ms) h = ok

pub sound-try_admit : (inner : Decision) (capacity reading : ℕ) → Keeps (try_admit inner capacity reading)
sound-try_admit inner capacity reading c st ok = go inner (admit (settings c) reading st) (sound-admit_as c st ok false reading)
  where
    go : (inner : Decision) (a : Admitted) → SoundGrant c (via_trait false a) → SoundAt c (try_inner inner capacity a st).after
    go Acquired (granted t next) h = h
    go (Retry d) (granted t next) h = sound-aborted c next h t false
    go Impossible (granted t next) h = sound-aborted c next h t false
    go inner (shed ms) h = ok

-- an inner reply handed on, after a trait abort where nothing was acquired
sound-handed_on : (c : Config) (acquired : Bool) (told : Told) (t : Ticket) (st : State) → SoundAt c st → SoundAt c (handed_on acquired told t st).after
sound-handed_on c true told t st ok = ok
sound-handed_on c false told t st ok = sound-aborted c st ok t true

pub sound-acquire_cost : (inner : Decision) (reading : ℕ) → Keeps (acquire_cost inner reading)
sound-acquire_cost inner reading c st ok = go (admit_as true (settings c) reading st) (sound-admit_as c st ok true reading)
  where
    go : (a : Admitted) → SoundGrant c a → SoundAt c (acquire_inner inner a st).after
    go (granted t next) h = sound-handed_on c (is_acquired inner) (decided inner) t next h
    go (shed ms) h = ok

pub sound-reserve : (inner : Option Delay) (reading : ℕ) → Keeps (reserve inner reading)
sound-reserve inner reading c st ok = go (admit_as true (settings c) reading st) (sound-admit_as c st ok true reading)
  where
    go : (a : Admitted) → SoundGrant c a → SoundAt c (reserve_inner inner a st).after
    go (granted t next) h = sound-handed_on c (is_some inner) (reserved inner) t next h
    go (shed ms) h = ok

-- ---- a call that is refused changes nothing

-- nothing told, or number 5 in Closed with the state as it was
abbrev pub QuietOrFull : Outcome → State → Type 0
QuietOrFull o st = (o.told ≡ tell 0 []) ⊎ ((st.state ≡ Closed) × (o ≡ outcome (refused Full) st))

module _ (s : Settings) (reading : ℕ) where
  -- in Closed only a failure is refused
  full-closed : (good : Bool) (st : State) → st.state ≡ Closed → QuietOrFull (in_closed s reading good st) st
  unfolding in_closed
  full-closed true st h = inl refl
  full-closed false st h = failure-cases (λ o. QuietOrFull o st) s reading st (inr (h, refl)) (λ r. inl refl) (λ r. inl refl)

  -- a settle is of one of the two kinds
  quiet-settled : (t : Ticket) (good : Bool) (st : State) → QuietOrFull (settled s reading t good st) st
  quiet-settled t good st = settled-cases (λ o. QuietOrFull o st) s reading st t good (inl refl) (λ h. inl refl) (full-closed good st)

  -- so is a finishing call
  pub quiet-or-full : (call : Call) (st : State) → QuietOrFull (finish s reading call st) st
  quiet-or-full (success t) st = quiet-settled t true st
  quiet-or-full (failure t) st = quiet-settled t false st
  quiet-or-full (abort t) st = inl refl
  quiet-or-full (trait_abort t) st = inl refl

  unmoved : (o : Outcome) (st : State) → QuietOrFull o st → o.told.number ≢ 0 → o.after ≡ st
  unmoved o st (inl e) n = absurd (n (ap (λ (t : Told). t.number) e))
  unmoved o st (inr e) n = ap (λ (x : Outcome). x.after) e.1

  pub refused-unchanged : (call : Call) (st : State) → (finish s reading call st).told.number ≢ 0 → (finish s reading call st).after ≡ st
  refused-unchanged call st n = unmoved (finish s reading call st) st (quiet-or-full call st) n

  -- a manual outcome that uses up a trait probe is in HalfOpen, and there nothing is refused
  pub refused-manual : (good : Bool) (st : State) → (manual s reading good st).told.number ≢ 0 → (manual s reading good st).after ≡ st
  unfolding manual
  refused-manual good st =
      probe-cases (λ (o : Outcome). o.told.number ≢ 0 → o.after ≡ st) st
      (λ h n. ⊎_elim (λ e. absurd (n (ap (λ (t : Told). t.number) e))) (λ e. absurd (omega (arith, e.0))) (quiet-settled (ticket_of st true) good (counting 0 1 0 st)))
      (λ n. unmoved (settled s reading (ticket_of st false) good st) st (quiet-settled (ticket_of st false) good st) n)
