-- A new wait, and what a turn and a run leave of it, are within their bounds. Assumes nothing.
use Rattle.std.proofs.Common.{ℕ, ◌+◌, ◌≡◌, refl, Bool, true, false, not, ◌&&◌, ◌||◌, List, [], ◌∷◌, arith}
use Rattle.std.proofs.lemmas.Bool.Decides.{nat_tests}
use borrow.Author.Tests.{not-false}
use Rattle.error.proofs.Choice.{and_split}
use Rattle.wait.specs.declared.Wait.{Wait}
use Rattle.wait.specs.declared.Observed.{Observed}
use Rattle.wait.specs.declared.Move.{Move}
use Rattle.wait.specs.declared.Move.TheVariants.{Goes, Ends}
use Rattle.wait.specs.Turns.{time_in_bounds, new_wait, turn_in_bounds, wait_in_bounds, naps, retries_zero, retries}
use Rattle.wait.specs.Manner.{Manner}
use Rattle.wait.specs.Run.{Running, uncounted, onward, steps}
use Rattle.keep.specs.Keep.{holding, checks, grants, moves, keep}
use Rattle.wait.proofs.Walks.{in-order-cases}

pub new-kept : (clock : ℕ) (limited : Bool) (timeout : ℕ) → time_in_bounds clock ≡ true → time_in_bounds timeout ≡ true → wait_in_bounds (new_wait clock limited timeout) ≡ true
unfolding wait_in_bounds
new-kept clock true timeout a b = grind (arith, nat_tests)
new-kept clock false timeout a b = grind (arith, nat_tests)

abbrev pub bounded_move : Move → Bool
bounded_move (Goes act v) = wait_in_bounds v
bounded_move (Ends e) = true

module _ (t : Observed) (ok : turn_in_bounds t ≡ true) where
  retries-kept : (w : Wait) → wait_in_bounds w ≡ true → bounded_move (retries w t) ≡ true
  unfolding retries retries_zero naps wait_in_bounds
  retries-kept w b = grind (arith, nat_tests)

  checks-kept : (w : Wait) → wait_in_bounds w ≡ true → bounded_move (checks w t) ≡ true
  unfolding checks wait_in_bounds turn_in_bounds
  checks-kept w b = grind (arith, nat_tests)

  -- a fresh grant is within its bounds
  pub grant-bounded : (w : Wait) → wait_in_bounds w ≡ true → wait_in_bounds (holding (t.clock + t.duration) t.postponed_before w) ≡ true
  unfolding wait_in_bounds turn_in_bounds
  grant-bounded w b = grind (arith, nat_tests)

  grants-kept : (w : Wait) → wait_in_bounds w ≡ true → bounded_move (grants w t) ≡ true
  unfolding grants
  grants-kept w b = grind (arith, nat_tests, grant-bounded w b, checks-kept)

  pub moves-kept : (w : Wait) → wait_in_bounds w ≡ true → bounded_move (moves w t) ≡ true
  unfolding moves
  moves-kept w b = grind (arith, nat_tests, retries-kept, checks-kept, grants-kept)

-- ---- over a whole run, in a manner whose moves keep the bounds

abbrev pub KeepsBounds : Manner → Type 0
KeepsBounds m = (w : Wait) (t : Observed) → turn_in_bounds t ≡ true → wait_in_bounds w ≡ true → bounded_move (m.moves w t) ≡ true

pub keep-bounds : KeepsBounds keep
keep-bounds w t ok b = moves-kept t ok w b

onward-bounded : (x : Move) (more : Wait → Running) → ((v : Wait) → wait_in_bounds v ≡ true → wait_in_bounds (more v).wait ≡ true)
    → bounded_move x ≡ true → wait_in_bounds (onward x more).wait ≡ true
unfolding wait_in_bounds
onward-bounded (Goes act v) more h b = h v b
onward-bounded (Ends e) more h b = refl

pub run-bounded : (m : Manner) → KeepsBounds m → (ts : List Observed) (w : Wait) → wait_in_bounds w ≡ true → wait_in_bounds (steps m ts w).wait ≡ true
unfolding steps
run-bounded m k [] w b = b
run-bounded m k (t ∷ ts) w b =
    in-order-cases (λ (r : Running). wait_in_bounds r.wait ≡ true) (m.ended w || not (m.knows t.kind)) (not (wait_in_bounds w && turn_in_bounds t)) (uncounted w) (onward (m.moves w t) (λ v. steps m ts v))
    (λ r. b) (λ x y. onward-bounded (m.moves w t) (λ v. steps m ts v) (λ v q. run-bounded m k ts v q) (k w t (and_split (wait_in_bounds w) (turn_in_bounds t) (not-false (wait_in_bounds w && turn_in_bounds t) y)).1 b))
