-- A run in any manner, turn by turn, and by the groups of eight numbers that it reads. Assumes nothing.
use Rattle.std.proofs.Common.{ℕ, zero, suc, ◌<◌, ◌≤◌, get_or, ◌+◌, ◌/◌, ◌%◌, min, ◌≡◌, refl, sym, ap, ◌∙◌, Bool, true, false, not, ◌&&◌, ◌||◌, List, [], ◌∷◌, length, take, drop, map, Some, Result, Ok, Err, Continue, Break, add-one, arith}
use Rattle.std.specs.Simd.{first_chunks}
use Rattle.std.proofs.lemmas.List.{get_or-take, take-map, take_min}
use Rattle.std.proofs.Math.ListN.{drop_of_length-le}
use Rattle.std.proofs.Math.Seq.{drop-cons}
use borrow.Author.Tests.{eq-eqb}
use Rattle.error.specs.declared.Refusal.{Refusal}
use Rattle.wait.specs.declared.Wait.{Wait}
use Rattle.wait.specs.declared.Observed.{Observed}
use Rattle.wait.specs.declared.Act.{Act}
use Rattle.wait.specs.declared.Ending.{Ending}
use Rattle.wait.specs.declared.Move.{Move}
use Rattle.wait.specs.declared.Move.TheVariants.{Goes, Ends}
use Rattle.wait.specs.declared.AndWait.{AndWait}
use Rattle.wait.specs.Answers.{Turned}
use Rattle.wait.specs.Turns.{turn_in_bounds, wait_in_bounds}
use Rattle.wait.specs.Manner.{Manner, in_order, tested, leaves, turned}
use Rattle.wait.specs.Run.{Running, ran_as, uncounted, one_step_more, onward, stops, steps, turn_of, turns_of, runs}

-- ---- the tests of a turn

-- a function of the answer may be taken of each answer beforehand
pub map-in_order : {A B : Type 0} (h : A → B) (f : Refusal → A) (a : A) (x y : Bool) → h (in_order x y f a) ≡ in_order x y (λ r. h (f r)) (h a)
map-in_order h f a true true = refl
map-in_order h f a true false = refl
map-in_order h f a false true = refl
map-in_order h f a false false = refl

-- what holds of every refusal, and of the answer where neither cause is there
pub in-order-cases : {A : Type 0} (P : A → Type 0) (x y : Bool) (f : Refusal → A) (a : A) → ((r : Refusal) → P (f r)) → (x ≡ false → y ≡ false → P a) → P (in_order x y f a)
in-order-cases P true true f a g h = g _
in-order-cases P true false f a g h = g _
in-order-cases P false true f a g h = g _
in-order-cases P false false f a g h = h refl refl

-- ---- one by one

-- a turn that was taken, and the run of the turns after it
abbrev pub going : Turned → Wait → (Wait → Running) → Running
going (Continue act) w more = one_step_more (more w)
going (Break e) w more = ran_as (Ok (Some e)) 1 w

-- the same of a turn that may be refused
abbrev pub taking : Wait → Result (AndWait Turned) Refusal → (Wait → Running) → Running
taking w (Ok x) more = going x.answer x.wait more
taking w (Err r) more = uncounted w r

leaves-onward : (x : Move) (w : Wait) (more : Wait → Running) → taking w (Ok (leaves x)) more ≡ onward x more
leaves-onward (Goes act v) w more = refl
leaves-onward (Ends e) w more = refl

-- the first turn of a run is the turn by itself
pub by-turns : (m : Manner) (t : Observed) (ts : List Observed) (w : Wait) → steps m (t ∷ ts) w ≡ taking w (turned m w t) (λ v. steps m ts v)
unfolding steps turned
by-turns m t ts w =
    let more = λ (v : Wait). steps m ts v in
    ap (λ (x : Running). tested m (uncounted w) x w t) (sym (leaves-onward (m.moves w t) w more))
    ∙ sym (map-in_order (λ (x : Result (AndWait Turned) Refusal). taking w x more) Err (Ok (leaves (m.moves w t))) (m.ended w || not (m.knows t.kind)) (not (wait_in_bounds w && turn_in_bounds t)))

-- what is left of a run, n turns on
abbrev pub turns_on : ℕ → Running → Running
turns_on n r = ran_as r.answer.course (n + r.answer.taken) r.wait

-- ---- the numbers of its turns

turn-take : (xs : List ℕ) → turn_of (take 8 xs) ≡ turn_of xs
turn-take xs = grind (arith, get_or-take)

pub turns-chunks : (k : ℕ) (xs : List ℕ) → map turn_of (first_chunks 8 k xs) ≡ turns_of k xs
unfolding turns_of
turns-chunks zero xs = refl
turns-chunks (suc k) xs = grind (arith, turn-take, turns-chunks k)

-- ---- a run over groups of eight numbers, turn by turn

module _ (m : Manner) (gs : List (List ℕ)) where
  -- what lies ahead at the nth group, n turns counted
  abbrev pub ahead : ℕ → Wait → Running
  ahead n w = turns_on n (steps m (map turn_of (drop n gs)) w)

  pub ahead-end : (n : ℕ) (w : Wait) → n ≤ length gs → length gs ≤ n → ahead n w ≡ ran_as (stops m w) (length gs) w
  unfolding steps
  ahead-end n w l g = rw drop_of_length-le (ap (λ (k : ℕ). ran_as (stops m w) k w) (omega arith))

  module _ (n : ℕ) (w : Wait) (l : n < length gs) (x : Result (AndWait Turned) Refusal) (is : x ≡ turned m w (turn_of (get_or gs n []))) where
    next : ahead n w ≡ turns_on n (taking w x (λ v. steps m (map turn_of (drop (n + 1) gs)) v))
    next = rw (drop-cons gs n [] l, by-turns, is) (simp add-one)

    pub ahead-refused : (r : Refusal) → x ≡ Err r → ahead n w ≡ ran_as (Err r) n w
    ahead-refused r e = next ∙ rw e (ap (λ (k : ℕ). ran_as (Err r) k w) (omega arith))

    pub ahead-next : (y : AndWait Turned) (act : Act) → x ≡ Ok y → y.answer ≡ Continue act → ahead n w ≡ ahead (n + 1) y.wait
    ahead-next y act e a =
        let more : Running = steps m (map turn_of (drop (n + 1) gs)) y.wait in
        next ∙ rw (e, a) (ap (λ (k : ℕ). ran_as more.answer.course k more.wait) (omega arith))

    pub ahead-ends : (y : AndWait Turned) (e : Ending) → x ≡ Ok y → y.answer ≡ Break e → ahead n w ≡ ran_as (Ok (Some e)) (n + 1) y.wait
    ahead-ends y e q a = next ∙ rw (q, a) refl

-- a run of whole turns is a run over as many groups as the limit says
pub ahead-start : (m : Manner) (w : Wait) (xs : List ℕ) (limit : ℕ) (gs : List (List ℕ)) → gs ≡ first_chunks 8 (length xs / 8) xs → length xs % 8 ≡ 0
    → ahead m (take (min limit (length gs)) gs) 0 w ≡ runs m w xs limit
unfolding runs
ahead-start m w xs limit gs g e =
    let all = steps m (take limit (turns_of (length xs / 8) xs)) w in
    rw (take_min, g, ← take-map, turns-chunks, eq-eqb _ _ e) (ap (λ (k : ℕ). ran_as all.answer.course k all.wait) (omega arith))

pub ruleset run_steps = (ahead-start, ahead-end, ahead-refused, ahead-next, ahead-ends)
