-- The board figure, by what the list holds. Assumes nothing.
use mathlib.Core.Path.{◌≡◌}
use mathlib.Core.List.{[], ◌∷◌}
use Prim.Native.Nat.{ℕ}
use lib.ListN.{length}
use Rattle.error.specs.Told.{tell}
use Rattle.history.specs.declared.Items.TheVariants.{Nothing, Outcomes, Times}
use Rattle.history.specs.Items.{failures}
use Rattle.trip.specs.declared.Config.{Config}
use Rattle.trip.specs.Policy.{board_figure}
use Rattle.breaker.specs.Record.{State, settings, items_of}
use Rattle.breaker.specs.Calls.{board}
use Rattle.outcomes.proofs.Deciding.{is-run, is-outcomes, is-times}

module _ (c : Config) (st : State) where
  pub board-nothing : items_of c ≡ Nothing → tell 0 (0 ∷ []) ≡ board (settings c) st
  board-nothing e = rw (is-run c e)

  pub board-times : items_of c ≡ Times → tell 0 (0 ∷ []) ≡ board (settings c) st
  board-times e = rw (is-times c e)

  pub board-outcomes : (w : ℕ) → items_of c ≡ Outcomes w → (failed calls : ℕ) → failed ≡ failures st.list → calls ≡ length st.list
      → tell 0 (board_figure failed calls ∷ []) ≡ board (settings c) st
  board-outcomes w e failed calls f l = rw (f, l, is-outcomes c w e)
