-- What the calls over an admission tell and leave, from the answer of the step. Assumes nothing.
use Rattle.std.proofs.Common.{◌≡◌, ℕ, Bool, true, false, List, refl, sym, ap, ◌∙◌, arith, if◌then◌else◌, Result, Ok, Err}
use Rattle.std.specs.Result.{IsErr, IsErrAnd}
use Rattle.error.specs.Told.{Told, tell, nothing}
use Rattle.history.specs.Items.{padded}
use Rattle.trip.specs.declared.Config.{Config}
use Rattle.breaker.specs.declared.Answered.{Answered}
use Rattle.breaker.specs.declared.Ticket.{Ticket}
use Rattle.breaker.specs.declared.Breaker.{Breaker}
use Rattle.breaker.specs.declared.Delay.{Delay}
use Rattle.breaker.specs.declared.NotAdmitted.{NotAdmitted}
use Rattle.breaker.specs.declared.NotAdmitted.TheVariants.{Shed}
use Rattle.breaker.specs.declared.Decision.{Decision}
use Rattle.breaker.specs.declared.Decision.TheVariants.{Acquired, Retry, Impossible}
use Rattle.breaker.specs.Record.{Settings, State, settings, state, stored, sound}
use Rattle.breaker.specs.Answers.{delay_of, shed_told, delay_values, ticket_values, standing_told}
use Rattle.breaker.specs.Rules.{Outcome, outcome, Admitted, granted, shed, admit, admit_as, via_trait, noted, aborted, Verdict, admits, refuses, still_admits}
use Rattle.breaker.specs.Calls.{after, kept, guarded, on_sound, asked, answered, admission, try_inner, verdict_of, still_admitted}
use Rattle.steps.specs.Steps.{Applies, entry, verdict}
use Rattle.breaker.proofs.Cases.{admit-cases}
use Rattle.breaker.proofs.Finishes.{aborted-list}
use Rattle.breaker.proofs.Guard.{unchanged, tested-sound, sound-done, asked-done}
use Rattle.steps.proofs.Holding.{holds}

-- the ticket and the delay that an entry stands for
module _ (c : Config) where
  pub entered-shed : {A : Type 0} (d : Delay) (a : Admitted) → Err d ≡ entry c a → ((ms : ℕ) → a ≡ shed ms → d ≡ delay_of ms → A) → A
  entered-shed d (granted t st) e f = let z : ◌≡◌ {A = ℕ} 0 1 = cc in absurd (omega arith)
  entered-shed d (shed ms) e f = f ms refl cc

  pub entered-granted : {A : Type 0} (t : Ticket) (b : Breaker) (a : Admitted) → Ok (record { answer = t; breaker = b }) ≡ entry c a
      → ((st : State) → a ≡ granted t st → b ≡ stored c st → A) → A
  entered-granted t b (granted t' st) e f =
      let q : ◌≡◌ {A = Answered Ticket} (record { answer = t; breaker = b }) (record { answer = t'; breaker = stored c st }) = cc in
      f st (ap (λ (x : Answered Ticket). granted x.answer st) (sym q)) (ap (λ (x : Answered Ticket). x.breaker) q)
  entered-granted t b (shed ms) e f = let z : ◌≡◌ {A = ℕ} 0 1 = cc in absurd (omega arith)

-- an admission keeps the list
abbrev Keeping : List ℕ → Admitted → Type 0
Keeping xs (granted t st) = st.list ≡ xs
Keeping xs (shed ms) = Unit {0}

pub admit-keeps : (s : Settings) (reading : ℕ) (st : State) → Keeping st.list (admit s reading st)
admit-keeps s reading st = admit-cases (Keeping st.list) s reading st refl refl tt (λ _ _ _. refl) tt

pub admit_as-keeps : (trait : Bool) (s : Settings) (reading : ℕ) (st : State) → Keeping st.list (admit_as trait s reading st)
admit_as-keeps trait s reading st = go trait (admit s reading st) (admit-keeps s reading st)
  where
    go : (v : Bool) (a : Admitted) → Keeping st.list a → Keeping st.list (via_trait v a)
    go true (granted t st') k = probe t.probe k
      where
        probe : (p : Bool) → st'.list ≡ st.list → (if p then noted st' else st').list ≡ st.list
        probe true k = k
        probe false k = k
    go false (granted t st') k = k
    go true (shed ms) k = tt
    go false (shed ms) k = tt

-- over a sound breaker that answers the admission a, with what a call makes of it
module _ (b : Breaker) (s : List ℕ) (ok : sound b s ≡ true) (a : Admitted) (keeps : Keeping (state b s).list a) (call : Admitted → Outcome) (told : Told) where
  pub left-shed : (d : Delay) → Err d ≡ entry b.config a → call (shed d.ms) ≡ outcome told (state b s) → after told b s ≡ kept b.config (call a)
  left-shed d e q =
      entered-shed b.config d a e
      (λ ms i r. unchanged told b s ok ∙ ap (kept b.config) (sym q) ∙ ap (λ (x : Delay). kept b.config (call (shed x.ms))) r ∙ ap (λ (x : Admitted). kept b.config (call x)) (sym i))

  -- granted: the record next, and what is made of it
  module _ (t : Ticket) (next final : Breaker) (change : State → State) where
    pub left-granted : Ok (record { answer = t; breaker = next }) ≡ entry b.config a → Applies (λ c st. change st) next final → ((st : State) → (change st).list ≡ st.list)
        → ((st : State) → call (granted t st) ≡ outcome told (change st)) → after told final s ≡ kept b.config (call a)
    left-granted e change-stored list q =
        entered-granted b.config t next a e
        (λ st i r.
        let l : st.list ≡ (state b s).list = rw i at keeps in
        let places : s ≡ padded (change st).list = rw (list st, l) (holds b s ok).1 in
        rw (i, q st) (rw (change-stored b.config st r) (ap (after told (stored b.config (change st))) places)))

-- ---- a plain admission, and one through the trait side
module _ (reading : ℕ) (b : Breaker) (s : List ℕ) (ok : sound b s ≡ true) (trait : Bool) where
  abbrev entry_asked : Admitted
  entry_asked = admit_as trait (settings b.config) reading (state b s)

  keeps : Keeping (state b s).list entry_asked
  keeps = admit_as-keeps trait (settings b.config) reading (state b s)

  pub admitted-shed : (d : Delay) → Err d ≡ entry b.config entry_asked → after (tell 6 (delay_values d)) b s ≡ kept b.config (admission trait reading (settings b.config) (state b s))
  admitted-shed d e = left-shed b s ok entry_asked keeps (λ a. answered a (state b s)) _ d e refl

  pub admitted-granted : (t : Ticket) (next : Breaker) → Ok (record { answer = t; breaker = next }) ≡ entry b.config entry_asked
      → after (tell 0 (ticket_values t)) next s ≡ kept b.config (admission trait reading (settings b.config) (state b s))
  admitted-granted t next e = left-granted b s ok entry_asked keeps (λ a. answered a (state b s)) _ t next next (λ st. st) e (λ c st q. q) (λ st. refl) (λ st. refl)

-- ---- a call that tests the breaker first, and then admits by a rule
module _ (b : Breaker) (s : List ℕ) (tested : Ok (tt {0}) ≡ guarded Err (Ok (tt {0})) b s) (rule : Settings → State → Admitted) (keeps : (p : Settings) (st : State) → Keeping st.list (rule p st))
    (r : Result (Answered Ticket) Delay) (step : (c : Config) (st : State) → b ≡ stored c st → r ≡ entry c (rule (settings c) st)) (call : Admitted → State → Outcome) (told : Told) where
  ok : sound b s ≡ true
  ok = tested-sound b s tested

  entered : r ≡ entry b.config (rule (settings b.config) (state b s))
  entered = step b.config (state b s) (holds b s ok).0

  pub call-shed : (d : Delay) → r ≡ Err d → call (shed d.ms) (state b s) ≡ outcome told (state b s) → after told b s ≡ on_sound (λ p st. call (rule p st) st) b s
  call-shed d e q =
      left-shed b s ok (rule (settings b.config) (state b s)) (keeps (settings b.config) (state b s)) (λ x. call x (state b s)) told d (sym e ∙ entered) q ∙ sound-done (λ p st. call (rule p st) st) b s ok

  pub call-granted : (x : Answered Ticket) → r ≡ Ok x → (final : Breaker) (change : State → State) → Applies (λ c st. change st) x.breaker final → ((st : State) → (change st).list ≡ st.list)
      → ((st : State) → call (granted x.answer st) (state b s) ≡ outcome told (change st)) → after told final s ≡ on_sound (λ p st. call (rule p st) st) b s
  call-granted x e final change f l q =
      left-granted b s ok (rule (settings b.config) (state b s)) (keeps (settings b.config) (state b s)) (λ y. call y (state b s)) told x.answer x.breaker final change (sym e ∙ entered) f l q ∙ sound-done (λ p st. call (rule p st) st) b s ok

-- ---- a call that tests the breaker first, and only reads it
module _ (b : Breaker) (s : List ℕ) (tested : Ok (tt {0}) ≡ guarded Err (Ok (tt {0})) b s) (rule : Settings → State → Admitted)
    (r : Result (Answered Ticket) Delay) (step : (c : Config) (st : State) → b ≡ stored c st → r ≡ entry c (rule (settings c) st)) (told : Admitted → Told) where
  read : told (rule (settings b.config) (state b s)) ≡ asked (λ p st. told (rule p st)) b s
  read = asked-done (λ p st. told (rule p st)) b s (tested-sound b s tested)

  answers : r ≡ entry b.config (rule (settings b.config) (state b s))
  answers = step b.config (state b s) (holds b s (tested-sound b s tested)).0

  pub read-shed : (d : Delay) → r ≡ Err d → told (shed d.ms) ≡ asked (λ p st. told (rule p st)) b s
  read-shed d e = entered-shed b.config d _ (sym e ∙ answers) (λ ms i q. ap (λ (x : Delay). told (shed x.ms)) q ∙ ap told (sym i) ∙ read)

  pub read-granted : (x : Answered Ticket) → r ≡ Ok x → (t : Told) → ((st : State) → t ≡ told (granted x.answer st)) → t ≡ asked (λ p st. told (rule p st)) b s
  read-granted x e t f = entered-granted b.config x.answer x.breaker _ (sym e ∙ answers) (λ st i q. f st ∙ ap told (sym i) ∙ read)

-- ---- what a step gave, told
-- a shed that a `?` hands on
pub passed-shed : {A : Type 0} (x : Result A NotAdmitted) (d : Delay) → IsErr x × IsErrAnd x (λ e. e ≡ Shed d) → x ≡ Err (Shed d)
passed-shed (Ok y) d h = absurd h.1
passed-shed (Err e) d h = ap (λ (e : NotAdmitted). Err e) h.1

-- a verdict
abbrev standing : Result (Unit {0}) Delay → Told
standing (Ok u) = nothing
standing (Err d) = shed_told d

pub stands : (b : Breaker) (s : List ℕ) → Ok (tt {0}) ≡ guarded Err (Ok (tt {0})) b s → (reading : ℕ) (t : Ticket) (r : Result (Unit {0}) Delay)
    → ((c : Config) (st : State) → b ≡ stored c st → r ≡ verdict (still_admits reading t st)) → standing r ≡ asked (still_admitted reading t) b s
stands b s tested reading t r step =
    let ok = tested-sound b s tested in
    ap standing (step b.config (state b s) (holds b s ok).0) ∙ go (still_admits reading t (state b s)) ∙ asked-done (still_admitted reading t) b s ok
  where
    go : (v : Verdict) → standing (verdict v) ≡ standing_told (verdict_of v)
    go admits = refl
    go (refuses ms) = refl

-- what is left of an admission through the trait side
pub handed-list : (acquired : Bool) (t : Ticket) (st : State) → (if acquired then st else aborted t true st).list ≡ st.list
handed-list true t st = refl
handed-list false t st = aborted-list t true st

-- an admission that is shed, whatever the inner limiter replied
pub tried-shed : (inner : Decision) (capacity : ℕ) (d : Delay) (st : State) → try_inner inner capacity (shed d.ms) st ≡ outcome (shed_told d) st
tried-shed Acquired capacity d st = refl
tried-shed (Retry w) capacity d st = refl
tried-shed Impossible capacity d st = refl
