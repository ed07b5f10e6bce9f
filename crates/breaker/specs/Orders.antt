-- "Finishing orders": what a sequence of finishing calls does, from a sound HalfOpen breaker, at one reading and with no other call among
-- them. `FinishingOrders` is demand 3; `finishing-orders` of proofs/Orders.antt proves `Theorem`, and the batch's promise carries it.
-- Definitions only.
use Rattle.std.specs.Prelude.{ℕ, ◌+◌, ◌<◌, ◌≡◌, ◌↔◌, ◌⊎◌, Bool, true, not, ◌||◌, eqb, if◌then◌else◌}
use mathlib.Core.List.{List, [], ◌∷◌, ◌++◌, tail, Permᴰ}
use Rattle.error.specs.Told.{Told, nothing}
use Rattle.history.specs.Items.{padded}
use Rattle.breaker.specs.declared.Breaker.{Breaker}
use Rattle.breaker.specs.Record.{Settings, State, Closed, HalfOpen, Open, settings, state, stored, sound}
use Rattle.breaker.specs.Calls.{kept, on_sound}
use Rattle.breaker.specs.Rules.{next, Call, success, failure, abort, trait_abort, ticket, finish}

-- ---- a sequence, in turn: each call gets what the last one left

pub record Sequence : Type 0 where
  pub after : State
  pub answers : List Told

unfoldable pub sequence : Settings → ℕ → List Call → State → Sequence
sequence s reading [] st = record { after = st; answers = [] }
sequence s reading (c ∷ cs) st =
    let o = finish s reading c st in
    let r = sequence s reading cs o.after in
    record { after = r.after; answers = o.told ∷ r.answers }

-- ---- counting calls

abbrev pub succeeds : Call → ℕ
succeeds (success t) = 1
succeeds (failure t) = 0
succeeds (abort t) = 0
succeeds (trait_abort t) = 0

abbrev pub fails : Call → ℕ
fails (success t) = 0
fails (failure t) = 1
fails (abort t) = 0
fails (trait_abort t) = 0

abbrev pub many : (Call → ℕ) → List Call → ℕ
many f [] = 0
many f (c ∷ cs) = f c + many f cs

-- "A permit of this spell is a ticket of the present generation, probe or not": every call is on one
abbrev pub AllOf : ℕ → List Call → Type 0
AllOf g [] = Unit {0}
AllOf g (c ∷ cs) = ((ticket c).generation ≡ g) × AllOf g cs

-- ---- other generations: tickets of neither the present one nor the next

abbrev pub is_other : ℕ → Call → Bool
is_other g c = not (eqb (ticket c).generation g || eqb (ticket c).generation (next g))

-- the sequence without them
abbrev pub without_others : ℕ → List Call → List Call
without_others g [] = []
without_others g (c ∷ cs) = if is_other g c then without_others g cs else c ∷ without_others g cs

abbrev pub first : List Told → Told
first [] = nothing
first (a ∷ told) = a

-- the answers to `without_others g cs`, each put at its call of `cs`, with nothing told to the other calls
abbrev pub put_back : ℕ → List Call → List Told → List Told
put_back g [] told = []
put_back g (c ∷ cs) told = if is_other g c then nothing ∷ put_back g cs told else first told ∷ put_back g cs (tail told)

-- ---- the statement

-- no call is a failure, or the successes, with the earlier ones, stay below the required number
abbrev pub Harmless : Settings → State → List Call → Type 0
Harmless s st cs = (many fails cs ≡ 0) ⊎ (st.counts.successes + many succeeds cs < s.required)

-- the calls in this order, from the record and its storage
abbrev pub in_turn : ℕ → Breaker → List ℕ → List Call → Sequence
in_turn reading b places cs = sequence (settings b.config) reading cs (state b places)

-- "Equal means every field and all 4,096 places."
pub record Equal (b : Breaker) (st st' : State) : Type 0 where
  pub every-field : stored b.config st ≡ stored b.config st'
  pub all-places : padded st.list ≡ padded st'.list

-- some order of the calls ends in the state x
abbrev pub SomeOrderEnds : ℕ → Breaker → List ℕ → List Call → ℕ → Type 0
SomeOrderEnds reading b places cs x = (ds : List Call) × Permᴰ cs ds × ((in_turn reading b places ds).after.state ≡ x)

pub record FinishingOrders (reading : ℕ) (b : Breaker) (places : List ℕ) : Type 0 where
  -- In turn: the empty sequence ends at its start, and one call more is the rule's step from where the others ended.
  pub none : in_turn reading b places [] ≡ record { after = state b places; answers = [] }
  pub in-turn : (cs : List Call) (c : Call) →
      let r = in_turn reading b places cs in
      let o = finish (settings b.config) reading c r.after in
      in_turn reading b places (cs ++ (c ∷ [])) ≡ record { after = o.after; answers = r.answers ++ (o.told ∷ []) }
  -- A call made on the record and places that the others left is not refused by 3 or 4, and leaves what that step says.
  pub as-calls : (cs : List Call) (c : Call) →
      let st = (in_turn reading b places cs).after in
      on_sound (λ s x. finish s reading c x) (stored b.config st) (padded st.list) ≡ kept b.config (finish (settings b.config) reading c st)
  -- On permits of this spell all orders end equal exactly when the calls are harmless.
  pub orders-agree : (cs : List Call) → AllOf b.shared.generation cs →
      ((ds : List Call) → Permᴰ cs ds → Equal b (in_turn reading b places ds).after (in_turn reading b places cs).after)
      ↔ Harmless (settings b.config) (state b places) cs
  -- Otherwise some order of them ends Closed and another Open.
  pub otherwise : (cs : List Call) → AllOf b.shared.generation cs → ¬ Harmless (settings b.config) (state b places) cs →
      SomeOrderEnds reading b places cs Closed × SomeOrderEnds reading b places cs Open
  -- Other generations, in any sequence on any tickets: without them it ends the same, each of them is told nothing, and no other answer moves.
  pub other-generations : (cs : List Call) →
      let r = in_turn reading b places (without_others b.shared.generation cs) in
      in_turn reading b places cs ≡ record { after = r.after; answers = put_back b.shared.generation cs r.answers }

-- from any sound HalfOpen record and its storage
abbrev pub Theorem : Type 0
Theorem =
    (reading : ℕ) (b : Breaker) (places : List ℕ) → sound b places ≡ true → b.shared.state ≡ HalfOpen → FinishingOrders reading b places
