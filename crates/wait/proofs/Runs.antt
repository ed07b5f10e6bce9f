-- In any manner a run that is not ended can be gone on with, and one that is unfinished took every turn. Assumes nothing.
use Rattle.std.proofs.Common.{ℕ, suc, ◌≡◌, sym, ap, ◌∙◌, Bool, true, false, not, ◌&&◌, ◌||◌, List, [], ◌∷◌, ◌++◌, length, Option, Some, None, Result, Ok, Err, Continue, Break, refl, arith}
use mathlib.Core.Bool.{false≢true}
use borrow.Author.Tests.{not-false}
use Rattle.error.specs.declared.Refusal.{Refusal}
use Rattle.wait.specs.declared.Wait.{Wait}
use Rattle.wait.specs.declared.Observed.{Observed}
use Rattle.wait.specs.declared.Move.{Move}
use Rattle.wait.specs.declared.Move.TheVariants.{Goes, Ends}
use Rattle.wait.specs.declared.Ending.{Ending}
use Rattle.wait.specs.declared.AndWait.{AndWait}
use Rattle.wait.specs.Answers.{Turned}
use Rattle.wait.specs.Turns.{turn_in_bounds, wait_in_bounds}
use Rattle.wait.specs.Manner.{Manner, turned}
use Rattle.wait.specs.Run.{Running, ran_as, uncounted, one_step_more, onward, stops, steps}
use Rattle.wait.proofs.Walks.{in-order-cases, going, taking, by-turns, turns_on}

abbrev is_unfinished : Result (Option Ending) Refusal → Bool
is_unfinished (Ok (Some e)) = false
is_unfinished (Ok None) = true
is_unfinished (Err r) = false

-- a run that stopped unfinished after n turns with the wait v
abbrev Stopped : Running → ℕ → Wait → Type 0
Stopped r n v = r ≡ ran_as (Ok None) n v

module _ (m : Manner) where
  -- ---- a run that is not ended, and then another, is one run

  join_going : (a : Turned) (w : Wait) (ts us : List Observed) (n : ℕ) (v : Wait)
      → ((x : Wait) (k : ℕ) → Stopped (steps m ts x) k v → steps m (ts ++ us) x ≡ turns_on k (steps m us v))
      → Stopped (going a w (λ x. steps m ts x)) n v → going a w (λ x. steps m (ts ++ us) x) ≡ turns_on n (steps m us v)
  join_going (Continue act) w ts us n v ih e =
      let first = steps m ts w in
      let later = steps m us v in
      let answer = ap (λ (r : Running). r.answer.course) e in
      let count = ap (λ (r : Running). r.answer.taken) e in
      let wait = ap (λ (r : Running). r.wait) e in
      let rest = ih w first.answer.taken (ap (λ (x : Result (Option Ending) Refusal). ran_as x first.answer.taken first.wait) answer ∙ ap (ran_as (Ok None) first.answer.taken) wait) in
      ap one_step_more rest ∙ ap (λ (k : ℕ). ran_as later.answer.course k later.wait) (omega (arith, count))
  join_going (Break x) w ts us n v ih e = absurd (false≢true (ap (λ (r : Running). is_unfinished r.answer.course) e))

  join_one : (x : Result (AndWait Turned) Refusal) (w : Wait) (ts us : List Observed) (n : ℕ) (v : Wait)
      → ((x : Wait) (k : ℕ) → Stopped (steps m ts x) k v → steps m (ts ++ us) x ≡ turns_on k (steps m us v))
      → Stopped (taking w x (λ x. steps m ts x)) n v → taking w x (λ x. steps m (ts ++ us) x) ≡ turns_on n (steps m us v)
  join_one (Ok x) w ts us n v ih e = join_going x.answer x.wait ts us n v ih e
  join_one (Err r) w ts us n v ih e = absurd (false≢true (ap (λ (r : Running). is_unfinished r.answer.course) e))

  nothing-first : (us : List Observed) (w : Wait) (n : ℕ) (v : Wait) → Stopped (steps m [] w) n v → steps m us w ≡ turns_on n (steps m us v)
  unfolding steps
  nothing-first us w n v e =
      let later = steps m us v in
      ap (steps m us) (ap (λ (r : Running). r.wait) e) ∙ ap (λ (k : ℕ). ran_as later.answer.course k later.wait) (omega (arith, ap (λ (r : Running). r.answer.taken) e))

  pub two_runs : (ts us : List Observed) (w : Wait) (n : ℕ) (v : Wait) → Stopped (steps m ts w) n v → steps m (ts ++ us) w ≡ turns_on n (steps m us v)
  two_runs [] us w n v e = nothing-first us w n v e
  two_runs (t ∷ ts) us w n v e =
      by-turns m t (ts ++ us) w ∙ join_one (turned m w t) w ts us n v (λ x k h. two_runs ts us x k v h) (sym (by-turns m t ts w) ∙ e)

-- ---- a run that is unfinished took every turn, and its wait can go on

pub record GoesOn (m : Manner) (ts : List Observed) (r : Running) : Type 0 where
  pub taken : r.answer.taken ≡ length ts
  pub goes : m.ended r.wait ≡ false
  pub bounded : wait_in_bounds r.wait ≡ true

module _ (m : Manner) where
  -- a run of these turns, if it is unfinished
  abbrev Unended : List Observed → Running → Type 0
  Unended ts r = is_unfinished r.answer.course ≡ true → GoesOn m ts r

  nothing-taken : (w : Wait) (a : Result (Option Ending) Refusal) → (is_unfinished a ≡ true → (m.ended w ≡ false) × (wait_in_bounds w ≡ true)) → Unended [] (ran_as a 0 w)
  nothing-taken w a h e =
      let q = h e in
      record { taken = refl; goes = q.0; bounded = q.1 }

  one-more-taken : (t : Observed) (ts : List Observed) (x : Move) → ((v : Wait) → Unended ts (steps m ts v)) → Unended (t ∷ ts) (onward x (λ v. steps m ts v))
  one-more-taken t ts (Goes act v) h e =
      let q = h v e in
      record { taken = ap suc q.taken; goes = q.goes; bounded = q.bounded }
  one-more-taken t ts (Ends x) h e = absurd (false≢true e)

  pub unfinished : (ts : List Observed) (w : Wait) → Unended ts (steps m ts w)
  unfolding steps stops
  unfinished [] w =
      nothing-taken w (stops m w)
      (in-order-cases (λ (a : Result (Option Ending) Refusal). is_unfinished a ≡ true → (m.ended w ≡ false) × (wait_in_bounds w ≡ true)) (m.ended w) (not (wait_in_bounds w)) Err (Ok None)
      (λ r e. absurd (false≢true e)) (λ x y e. (x, not-false (wait_in_bounds w) y)))
  unfinished (t ∷ ts) w =
      in-order-cases (Unended (t ∷ ts)) (m.ended w || not (m.knows t.kind)) (not (wait_in_bounds w && turn_in_bounds t)) (uncounted w) (onward (m.moves w t) (λ v. steps m ts v))
      (λ r e. absurd (false≢true e)) (λ x y. one-more-taken t ts (m.moves w t) (λ v. unfinished ts v))
