-- What an outcome in Closed is decided to do, from a list that is only read. A reader of the calls' promises need not read it.
use Rattle.std.specs.Prelude.{ℕ, Bool, true, false, not, ◌≡◌, List, [], ◌∷◌, ◌++◌, length, drop, Result, Ok, Err}
use Rattle.error.specs.Choice.{bit}
use Rattle.error.specs.Told.{nothing, refused}
use Rattle.error.specs.declared.Refusal.{Refusal}
use Rattle.history.specs.Items.{padded}
use Rattle.trip.specs.Policy.{Policy, Consecutive, Ratio, Windowed}
use Rattle.trip.specs.declared.Config.{Config}
use Rattle.breaker.specs.declared.Breaker.{Breaker}
use Rattle.breaker.specs.Record.{Settings, State, stored}
use Rattle.breaker.specs.Rules.{Outcome, outcome, done, with_history, opening, in_closed}
use Rattle.outcomes.specs.declared.Change.{Change}
use Rattle.outcomes.specs.declared.Recorded.{Recorded}
use Rattle.outcomes.specs.declared.Recorded.TheVariants.{Counted, Tripped}

-- what an outcome appends to the list
abbrev pub appended : Policy → Bool → ℕ → List ℕ
appended (Consecutive n) failed reading = []
appended (Ratio window ratio least) failed reading = bit failed ∷ []
appended (Windowed limit period) true reading = reading ∷ []
appended (Windowed limit period) false reading = []

-- the list, of which so many of the oldest items go
abbrev pub changed : Policy → Bool → ℕ → ℕ → List ℕ → List ℕ
changed p failed reading gone xs = drop gone xs ++ appended p failed reading

abbrev pub counted_as : Change → Bool → Recorded
counted_as x true = Tripped x
counted_as x false = Counted x

-- what becomes of run and list, whether it opens or not
abbrev pub change_of : Recorded → Change
change_of (Counted x) = x
change_of (Tripped x) = x

-- the outcome is what is decided
abbrev pub Decides : Settings → ℕ → Bool → State → Result Recorded Refusal → Type 0
Decides s reading good st (Err r) = in_closed s reading good st ≡ outcome (refused r) st
Decides s reading good st (Ok (Counted x)) =
    let ys = changed s.policy (not good) reading x.gone st.list in
    (x.len ≡ length ys) × (in_closed s reading good st ≡ done (with_history x.run ys st))
Decides s reading good st (Ok (Tripped x)) =
    let ys = changed s.policy (not good) reading x.gone st.list in
    (x.len ≡ length ys) × (in_closed s reading good st ≡ done (opening s reading (with_history x.run ys st)))

-- every place, once it is stored
abbrev pub places_after : Settings → ℕ → Bool → State → Result Recorded Refusal → List ℕ
places_after s reading good st (Err r) = padded st.list
places_after s reading good st (Ok r) = padded (changed s.policy (not good) reading (change_of r).gone st.list)

-- what is told, and the record, are those of the outcome; refused, the record is the one that was handed in
abbrev pub Makes : Config → Outcome → Result Breaker Refusal → Breaker → Type 0
Makes c o (Ok next) b = (nothing ≡ o.told) × (next ≡ stored c o.after)
Makes c o (Err r) b = (refused r ≡ o.told) × (b ≡ stored c o.after)
