-- What is decided of an outcome, from the tests that led to it. Assumes nothing.
--     decides-*, failure-counted                    by what is recorded, for any policy
--     run-*, outcome-*, time-*                      each policy
--     store_nothing, store-items                    the list stored
use mathlib.Core.Path.{◌≡◌, refl, sym, ap, subst, ◌∙◌}
use mathlib.Core.Bool.{Bool, true, false}
use mathlib.Core.List.{List, [], ◌∷◌, ◌++◌, append-nil}
use Prim.Native.Nat.{ℕ, ◌+◌, ◌-◌, ◌%◌, ◌^◌, ◌≤◌, ◌<◌, min}
use native.Mathlib.Omega.{arith}
use lib.Dec.{eqb, leb}
use lib.Ieee.{Float, binary64, of_bits}
use lib.ListN.{length, drop, length-append, length-drop, drop_of_length-le}
use borrow.Author.Tests.{le-leb, lt-leb, eqb-true}
use Rattle.std.proofs.Common.{if◌then◌else◌, Ok, Err}
use Rattle.error.specs.Choice.{bit}
use Rattle.error.specs.declared.Refusal.TheVariants.{Full}
use Rattle.history.specs.declared.Items.TheVariants.{Nothing, Outcomes, Times}
use Rattle.history.specs.Items.{view, sound_list, failures, recent, item_sum, evicted}
use Rattle.error.specs.Told.{tell}
use Rattle.history.specs.Change.{left, held, replaced}
use Rattle.history.proofs.Sound as List·
use Rattle.history.proofs.Held.{replaced-held, failures-le, failures-held}
use Rattle.history.proofs.Recorded.{outcome-is, outcome-failures, time-is, time-recent}
use Rattle.trip.specs.declared.Config.{Config}
use Rattle.trip.specs.Policy.{Consecutive, Ratio, Windowed, policy_of, ratio_reached, tripped}
use Rattle.breaker.specs.declared.Breaker.{Breaker}
use Rattle.breaker.specs.Record.{Settings, State, items_for, items_of, sound}
use Rattle.breaker.specs.Rules.{recorded, no_room, in_closed}
use Rattle.breaker.proofs.Record.{sound→}
use Rattle.outcomes.specs.declared.Change.{Change}
use Rattle.outcomes.specs.declared.Recorded.{Recorded}
use Rattle.outcomes.specs.declared.Recorded.TheVariants.{Counted}
use Rattle.steps.specs.Steps.{Holds}
use Rattle.outcomes.specs.Decide.{appended, changed, counted_as, Decides}

abbrev change : ℕ → ℕ → ℕ → Change
change gone run len = record { gone = gone; run = run; len = len }

-- ---- for any policy
module _ (s : Settings) (reading : ℕ) (st : State) where
  pub decides-good : (gone len : ℕ) → recorded s.policy false reading st.list ≡ changed s.policy false reading gone st.list
      → len ≡ length (changed s.policy false reading gone st.list) → Decides s reading true st (Ok (Counted (change gone 0 len)))
  unfolding in_closed
  decides-good gone len e l = (l, rw e)

  pub decides-full : no_room s.policy reading st.list ≡ true → Decides s reading false st (Err Full)
  unfolding in_closed
  decides-full f = rw f

  pub decides-counted : (gone run len : ℕ) (trips : Bool) → no_room s.policy reading st.list ≡ false
      → recorded s.policy true reading st.list ≡ changed s.policy true reading gone st.list → run ≡ min (st.run + 1) (2 ^ 32 - 1)
      → len ≡ length (changed s.policy true reading gone st.list) → trips ≡ tripped s.policy reading run (changed s.policy true reading gone st.list)
      → Decides s reading false st (Ok (counted_as (change gone run len) trips))
  unfolding in_closed
  decides-counted gone run len true f e r l t = (l, rw (f, e, ← r, ← t))
  decides-counted gone run len false f e r l t = (l, rw (f, e, ← r, ← t))

  -- a failure is counted
  pub failure-counted : (good trips : Bool) (x : Change) (r : Recorded) → r ≡ counted_as x trips → good ≡ false → Decides s reading false st (Ok (counted_as x trips))
      → Decides s reading good st (Ok r)
  failure-counted good trips x r e g d = subst (λ (v : Bool). Decides s reading v st (Ok r)) (sym g) (rw e d)

-- ---- the settings' policy
module _ (c : Config) where
  pub is-run : items_of c ≡ Nothing → policy_of c ≡ Consecutive c.limit
  is-run e = go (eqb c.kind 1) (eqb c.kind 2) e
    where
      go : (x y : Bool) →
          let p = if x then Consecutive c.limit else if y then Ratio c.limit (of_bits binary64 c.ratio_bits) c.min_calls else Windowed c.limit c.period_ms in
          items_for p ≡ Nothing → p ≡ Consecutive c.limit
      go true y e = refl
      go false true e = let z : ◌≡◌ {A = ℕ} 0 1 = cc in absurd (omega arith)
      go false false e = let z : ◌≡◌ {A = ℕ} 0 1 = cc in absurd (omega arith)

  pub is-outcomes : (w : ℕ) → items_of c ≡ Outcomes w → policy_of c ≡ Ratio w (of_bits binary64 c.ratio_bits) c.min_calls
  is-outcomes w e = go (eqb c.kind 1) (eqb c.kind 2) e
    where
      go : (x y : Bool) →
          let p = if x then Consecutive c.limit else if y then Ratio c.limit (of_bits binary64 c.ratio_bits) c.min_calls else Windowed c.limit c.period_ms in
          items_for p ≡ Outcomes w → p ≡ Ratio w (of_bits binary64 c.ratio_bits) c.min_calls
      go true y e = let z : ◌≡◌ {A = ℕ} 0 1 = cc in absurd (omega arith)
      go false true e = let q : c.limit ≡ w = cc in rw q
      go false false e = let z : ◌≡◌ {A = ℕ} 0 1 = cc in absurd (omega arith)

  pub is-times : items_of c ≡ Times → policy_of c ≡ Windowed c.limit c.period_ms
  is-times e = go (eqb c.kind 1) (eqb c.kind 2) e
    where
      go : (x y : Bool) →
          let p = if x then Consecutive c.limit else if y then Ratio c.limit (of_bits binary64 c.ratio_bits) c.min_calls else Windowed c.limit c.period_ms in
          items_for p ≡ Times → p ≡ Windowed c.limit c.period_ms
      go true y e = let z : ◌≡◌ {A = ℕ} 0 1 = cc in absurd (omega arith)
      go false true e = let z : ◌≡◌ {A = ℕ} 0 1 = cc in absurd (omega arith)
      go false false e = refl

module _ (s : Settings) (st : State) (reading : ℕ) where
  -- ---- Consecutive
  module _ (n : ℕ) (p : s.policy ≡ Consecutive n) where
    as_it_was : (failed : Bool) → changed s.policy failed reading 0 st.list ≡ st.list
    as_it_was failed = rw p (append-nil st.list)

    stays : (failed : Bool) → recorded s.policy failed reading st.list ≡ changed s.policy failed reading 0 st.list
    stays failed = rw p (sym (append-nil st.list))

    pub run-good : (len : ℕ) → len ≡ length st.list → Decides s reading true st (Ok (Counted (change 0 0 len)))
    run-good len l = decides-good s reading st 0 len (stays false) (l ∙ ap length (sym (as_it_was false)))

    pub run-failed : (run len : ℕ) (trips : Bool) → run ≡ min (st.run + 1) (2 ^ 32 - 1) → len ≡ length st.list → trips ≡ leb n run
        → Decides s reading false st (Ok (counted_as (change 0 run len) trips))
    unfolding tripped
    run-failed run len trips r l t = decides-counted s reading st 0 run len trips (rw p) (stays true) r (l ∙ ap length (sym (as_it_was true))) (rw p t)

  -- ---- Ratio
  module _ (w : ℕ) (q : Float) (m : ℕ) (p : s.policy ≡ Ratio w q m) (h : 1 ≤ w) (gone : ℕ) (g : gone ≡ length st.list + 1 - w) where
    outcome-records : (failed : Bool) → recorded s.policy failed reading st.list ≡ changed s.policy failed reading gone st.list
    outcome-records failed = rw p (outcome-is w (bit failed) gone st.list h (sym g))

    outcome-length : (failed : Bool) → length (changed s.policy failed reading gone st.list) ≡ length st.list - gone + 1
    outcome-length failed = rw p (simp (length-append, length-drop))

    pub outcome-good : (len : ℕ) → len ≡ length st.list - gone + 1 → Decides s reading true st (Ok (Counted (change gone 0 len)))
    outcome-good len l = decides-good s reading st gone len (outcome-records false) (l ∙ sym (outcome-length false))

    pub outcome-failed : (run len failed : ℕ) (trips : Bool) → run ≡ min (st.run + 1) (2 ^ 32 - 1) → len ≡ length st.list - gone + 1
        → failed ≡ failures (drop gone st.list) + 1 → trips ≡ ratio_reached failed len m q → Decides s reading false st (Ok (counted_as (change gone run len) trips))
    unfolding tripped
    outcome-failed run len failed trips r l f t =
        let a : failures (drop gone st.list ++ 1 ∷ []) ≡ failed = outcome-failures (drop gone st.list) ∙ sym f in
        let b : length (drop gone st.list ++ 1 ∷ []) ≡ len = simp (length-append, length-drop) (sym l) in
        decides-counted s reading st gone run len trips (rw p) (outcome-records true) r (l ∙ sym (outcome-length true)) (rw (p, a, b) t)

  -- ---- Windowed
  module _ (k d : ℕ) (p : s.policy ≡ Windowed k d) (gone : ℕ) (g : drop gone st.list ≡ evicted (reading - d) st.list) where
    pub time-good : (len : ℕ) → len ≡ length (drop gone st.list) → Decides s reading true st (Ok (Counted (change gone 0 len)))
    time-good len l =
        decides-good s reading st gone len (rw p (sym g ∙ sym (append-nil (drop gone st.list)))) (rw p (l ∙ ap length (sym (append-nil (drop gone st.list)))))

    pub time-full : 4096 ≤ length (drop gone st.list) → Decides s reading false st (Err Full)
    time-full h = decides-full s reading st (rw (p, ← g, le-leb 4096 (length (drop gone st.list)) h))

    pub time-failed : length (drop gone st.list) < 4096 → (run len times : ℕ) (trips : Bool) → run ≡ min (st.run + 1) (2 ^ 32 - 1) → len ≡ length (drop gone st.list) + 1
        → times ≡ recent (reading - d) (drop gone st.list) + 1 → trips ≡ leb k times → Decides s reading false st (Ok (counted_as (change gone run len) trips))
    unfolding tripped
    time-failed h run len times trips r l f t =
        let a : recent (reading - d) (drop gone st.list ++ reading ∷ []) ≡ times = time-recent (reading - d) reading (drop gone st.list) (omega arith) ∙ sym f in
        decides-counted s reading st gone run len trips (rw (p, ← g, lt-leb 4096 (length (drop gone st.list)) h))
        (rw p (time-is (reading - d) reading gone st.list (omega arith) g)) r (rw p (simp length-append l)) (rw (p, a) t)

-- ---- what the code has counted, of a sound breaker
module _ (b : Breaker) (s : List ℕ) (c : Config) (st : State) (h : Holds c st b s) (ok : sound b s ≡ true) where
  pub has-length : b.shared.len ≡ length st.list
  has-length = ap (λ (x : Breaker). x.shared.len) h.0

  pub seen : view b.shared.len s ≡ st.list
  seen = rw (has-length, h.1) (List·.view-padded st.list)

  listed : sound_list (items_of c) b.shared.len s ≡ true
  listed = ap (λ (x : Breaker). sound_list (items_of x.config) b.shared.len s) (sym h.0) ∙ (sound→ b s ok).list

  pub window-fits : (w : ℕ) → items_of c ≡ Outcomes w → (1 ≤ w) × (w ≤ 4096) × (b.shared.len ≤ w)
  window-fits w e = List·.fits-outcomes w b.shared.len (List·.sound→ (Outcomes w) b.shared.len s (rw e at listed)).length_fits

  -- the failures from a place on
  pub failures-counted : (w first : ℕ) → items_of c ≡ Outcomes w → (n : ℕ) → n ≡ item_sum (drop first (view b.shared.len s)) % 2 ^ 64
      → (n ≡ failures (drop first st.list)) × (n ≤ 4096)
  failures-counted w first e n q =
      let l = rw e at listed in
      let a : n ≡ failures (drop first (view b.shared.len s)) = q ∙ failures-held w b.shared.len first s l in
      let m = failures-le w b.shared.len first s l in
      let v : failures (drop first (view b.shared.len s)) ≡ failures (drop first st.list) = ap (λ (xs : List ℕ). failures (drop first xs)) seen in
      (omega arith, omega arith)

-- ---- the list stored
module _ (b : Breaker) (s : List ℕ) (c : Config) (st : State) (h : Holds c st b s) (ok : sound b s ≡ true) (failed : Bool) (reading gone : ℕ) where
  abbrev after : List ℕ
  after = changed (policy_of c) failed reading gone st.list

  pub store_nothing : items_of c ≡ Nothing → left (tell 0 (b.shared.len ∷ [])) s ≡ held after
  store_nothing e =
      let z : b.shared.len ≡ 0 = eqb-true _ _ (List·.sound→ Nothing b.shared.len s (rw e at (listed b s c st h ok))).length_fits in
      let n : st.list ≡ [] = nothing-in st.list (sym (has-length b s c st h ok) ∙ z) in
      rw (is-run c e, h.1, n, z, none gone)
    where
      none : (k : ℕ) → ◌≡◌ {A = List ℕ} (drop k []) []
      none k = drop_of_length-le [] {i = k} (omega arith)

      nothing-in : (xs : List ℕ) → length xs ≡ 0 → xs ≡ []
      nothing-in [] q = refl
      nothing-in (x ∷ xs) q = absurd (omega arith)

  pub store-items : (new : List ℕ) → appended (policy_of c) failed reading ≡ new → length after ≤ 4096 → replaced gone new b.shared.len s ≡ held after
  store-items new e l =
      let v = seen b s c st h ok in
      let f : length (drop gone (view b.shared.len s) ++ new) ≤ 4096 = rw (v, ← e) l in
      replaced-held (items_of c) b.shared.len s (listed b s c st h ok) gone new f ∙ rw (v, ← e)
