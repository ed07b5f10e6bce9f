-- "Finishing orders": the proof of `Theorem`. Assumes nothing.
--     sequence-nil, sequence-snoc   no call; one call more is the rule's step from where the others ended
--     ends                          where harmless calls of this spell end, by how many there are of each kind
--     some-open, some-closed        of the others an order that ends Open, and one that ends Closed
--     unmoved                       other generations
use Prim.Native.Nat.{ℕ, zero, suc, ◌+◌, ◌-◌, ◌<◌}
use native.Mathlib.Omega.{arith}
use native.Mathlib.Nat.{zero-add, add_assoc, sub-add-eq}
use mathlib.Core.Path.{◌≡◌, refl, sym, ◌∙◌, ap}
use mathlib.Core.Logic.{◌≢◌, ◌⊎◌, inl, inr, ⊎_elim}
use mathlib.Core.Bool.{Bool, true, false, not, ◌||◌, false≢true}
use mathlib.Core.List.Permᴰ
use mathlib.Core.List.{List, [], ◌∷◌, ◌++◌, Permᴰ}
use lib.Dec.{eqb, leb}
use borrow.Author.Tests.{ne_eqb, eqb-true, eqb-false, leb-true, leb-false, le-leb, lt-leb}
use Rattle.error.specs.Told.{nothing}
use Rattle.std.proofs.Common.{if◌then◌else◌}
use Rattle.history.specs.Items.{padded}
use Rattle.breaker.specs.declared.Ticket.{Ticket}
use Rattle.breaker.specs.declared.Breaker.{Breaker}
use Rattle.breaker.specs.Record.{Settings, State, Closed, HalfOpen, Open, settings, state, stored}
use Rattle.breaker.specs.Rules.{Outcome, done, next, opening, closing, counting, Call, success, failure, abort, trait_abort, ticket, probes, in_half_open, in_closed, settled, finish}
use Rattle.breaker.specs.Orders.{Sequence, sequence, succeeds, fails, many, AllOf, is_other, without_others, put_back, Harmless, Equal, Theorem}
use Rattle.error.proofs.Choice.{if-cases}
use Rattle.breaker.proofs.Cases.{settled-cases, failure-cases}
use Rattle.breaker.proofs.Finishes.{counting-none, settled-stale, settled-half, settled-open, aborted-stale, aborted-off, aborted-half}
use Rattle.breaker.specs.Calls.{kept}
use Rattle.breaker.proofs.Record.{sound→, shared→, state-stored}
use Rattle.breaker.proofs.Keeps.{sound-sequence, sound-state}
use Rattle.breaker.proofs.Guard.{sound-done}

-- ---- the counters and the generation of a state

-- the trials that a call gives back, and the trait probes
abbrev trials : Call → ℕ
trials c = probes (ticket c)

abbrev traits : Call → ℕ
traits (success t) = 0
traits (failure t) = 0
traits (abort t) = 0
traits (trait_abort t) = probes t

-- a transition moves the generation, also where it wraps
next-other : (g : ℕ) → next g ≢ g
next-other g = omega arith

-- a ticket of another generation is of neither of the two
is-neither : (g : ℕ) (c : Call) → is_other g c ≡ true → (eqb (ticket c).generation g ≡ false) × (eqb (ticket c).generation (next g) ≡ false)
is-neither g c = go (eqb (ticket c).generation g) (eqb (ticket c).generation (next g))
  where
    go : (x y : Bool) → not (x || y) ≡ true → (x ≡ false) × (y ≡ false)
    go true y e = absurd (false≢true e)
    go false true e = absurd (false≢true e)
    go false false e = (refl, refl)

-- ---- what a call of the present generation does in HalfOpen
abbrev half_step : Settings → ℕ → Call → State → State
half_step s reading (success t) st = in_half_open s reading t true st
half_step s reading (failure t) st = in_half_open s reading t false st
half_step s reading (abort t) st = counting (probes t) 0 0 st
half_step s reading (trait_abort t) st = counting (probes t) (probes t) 0 st

-- ---- orders of a sequence

-- as many calls of each kind
perm-many : (f : Call → ℕ) {cs ds : List Call} → Permᴰ cs ds → many f cs ≡ many f ds
perm-many f Permᴰ.nil = refl
perm-many f (Permᴰ.cons e d) = cc (perm-many f d)
perm-many f (Permᴰ.swap {a} {b} {a'} {b'} {l} p q) = let x : f a ≡ f b' = cc in let y : f b ≡ f a' = cc in omega arith
perm-many f (Permᴰ.trans d e) = perm-many f d ∙ perm-many f e

-- on tickets of the same generation
perm-all : (g : ℕ) {cs ds : List Call} → Permᴰ cs ds → AllOf g cs → AllOf g ds
perm-all g Permᴰ.nil a = a
perm-all g (Permᴰ.cons e d) a = (rw e at a.0, perm-all g d a.1)
perm-all g (Permᴰ.swap p q) a = (rw q at a.1.0, (rw p at a.0, a.1.1))
perm-all g (Permᴰ.trans d e) a = perm-all g e (perm-all g d a)

-- one of the calls that are counted by p, each of the kind k, comes first
ahead : (p : Call → ℕ) (k : Ticket → Call) → ((c : Call) → 0 < p c → (t : Ticket) × (c ≡ k t)) → (cs : List Call) → 0 < many p cs
    → (t : Ticket) × (ds : List Call) × Permᴰ cs (k t ∷ ds)
ahead p k pick [] h = absurd (omega arith)
ahead p k pick (c ∷ cs) h = go (leb 1 (p c)) refl (λ z. ahead p k pick cs z)
  where
    go : (x : Bool) → leb 1 (p c) ≡ x → (0 < many p cs → (t : Ticket) × (ds : List Call) × Permᴰ cs (k t ∷ ds))
        → (t : Ticket) × (ds : List Call) × Permᴰ (c ∷ cs) (k t ∷ ds)
    go true e ih = let (t, q) = pick c (leb-true 1 (p c) e) in (t, cs, Permᴰ.cons q (Permᴰ.refl cs))
    go false e ih =
        let (t, ds, d) = ih (omega (arith, leb-false 1 (p c) e)) in
        (t, c ∷ ds, Permᴰ.trans (Permᴰ.cons refl d) (Permᴰ.swap refl refl))

a-failure : (c : Call) → 0 < fails c → (t : Ticket) × (c ≡ failure t)
a-failure (success t) h = absurd (omega arith)
a-failure (failure t) h = (t, refl)
a-failure (abort t) h = absurd (omega arith)
a-failure (trait_abort t) h = absurd (omega arith)

a-success : (c : Call) → 0 < succeeds c → (t : Ticket) × (c ≡ success t)
a-success (success t) h = (t, refl)
a-success (failure t) h = absurd (omega arith)
a-success (abort t) h = absurd (omega arith)
a-success (trait_abort t) h = absurd (omega arith)

module _ (s : Settings) (reading : ℕ) where
  -- ---- one call

  -- a ticket of another generation
  stale : (c : Call) (st : State) → (ticket c).generation ≢ st.generation → finish s reading c st ≡ done st
  stale (success t) st h = settled-stale s reading t true st h
  stale (failure t) st h = settled-stale s reading t false st h
  stale (abort t) st h = ap done (aborted-stale t false st h)
  stale (trait_abort t) st h = ap done (aborted-stale t true st h)

  -- a ticket of this generation, in HalfOpen
  half : (c : Call) (st : State) → (ticket c).generation ≡ st.generation → st.state ≡ HalfOpen → finish s reading c st ≡ done (half_step s reading c st)
  half (success t) st e h = settled-half s reading t true st e h
  half (failure t) st e h = settled-half s reading t false st e h
  half (abort t) st e h = ap done (aborted-half t false st e h)
  half (trait_abort t) st e h = ap done (aborted-half t true st e h)

  -- any ticket, in Open
  opened : (c : Call) (st : State) → st.state ≡ Open → finish s reading c st ≡ done st
  opened (success t) st h = settled-open s reading t true st h
  opened (failure t) st h = settled-open s reading t false st h
  opened (abort t) st h = ap done (aborted-off t false st (λ k. absurd (omega arith)))
  opened (trait_abort t) st h = ap done (aborted-off t true st (λ k. absurd (omega arith)))

  -- ---- a sequence, in turn

  pub sequence-nil : (st : State) → sequence s reading [] st ≡ record { after = st; answers = [] }
  unfolding sequence
  sequence-nil st = refl

  pub sequence-snoc : (cs : List Call) (c : Call) (st : State) →
      let r = sequence s reading cs st in
      let o = finish s reading c r.after in
      sequence s reading (cs ++ (c ∷ [])) st ≡ record { after = o.after; answers = r.answers ++ (o.told ∷ []) }
  unfolding sequence
  sequence-snoc [] c st = refl
  sequence-snoc (d ∷ cs) c st = ap (λ (r : Sequence). record { after = r.after; answers = (finish s reading d st).told ∷ r.answers }) (sequence-snoc cs c (finish s reading d st).after)

  -- where it ends
  abbrev end : List Call → State → State
  end cs st = (sequence s reading cs st).after

  end-nil : (st : State) → end [] st ≡ st
  unfolding sequence
  end-nil st = refl

  end-cons : (c : Call) (cs : List Call) (st : State) → end (c ∷ cs) st ≡ end cs (finish s reading c st).after
  unfolding sequence
  end-cons c cs st = refl

  end-half : (c : Call) (cs : List Call) (st : State) → (ticket c).generation ≡ st.generation → st.state ≡ HalfOpen → end (c ∷ cs) st ≡ end cs (half_step s reading c st)
  end-half c cs st e h = end-cons c cs st ∙ ap (λ (o : Outcome). end cs o.after) (half c st e h)

  -- once the generation has moved, calls of the old one do nothing
  past : (g : ℕ) (cs : List Call) (st : State) → AllOf g cs → st.generation ≢ g → end cs st ≡ st
  past g [] st a h = end-nil st
  past g (c ∷ cs) st a h = rw (end-cons, stale c st (λ e. h (sym e ∙ a.0))) (past g cs st a.1 h)

  -- ---- harmless calls on permits of this spell, from HalfOpen

  -- enough successes close; else no failure moves the counters, and one opens
  abbrev ended : List Call → State → State
  ended cs st =
      if leb s.required (st.counts.successes + many succeeds cs) then closing st
      else if eqb (many fails cs) 0 then counting (many trials cs) (many traits cs) (many succeeds cs) st
      else opening s reading st

  -- the form at one call more, which neither fails nor closes
  ended-more : (c : Call) (cs : List Call) (st : State) → fails c ≡ 0 → ended cs (counting (trials c) (traits c) (succeeds c) st) ≡ ended (c ∷ cs) st
  ended-more c cs st f = simp (f, zero-add, add_assoc, sub-add-eq)

  -- what follows a harmless call is harmless
  harmless-more : (c : Call) (cs : List Call) (st : State) → Harmless s st (c ∷ cs) → Harmless s (counting (trials c) (traits c) (succeeds c) st) cs
  harmless-more c cs st (inl f) = inl (omega arith)
  harmless-more c cs st (inr g) = inr (omega arith)

  -- the closed form is right
  ends : (cs : List Call) (st : State) → AllOf st.generation cs → st.state ≡ HalfOpen → st.counts.successes < s.required → Harmless s st cs
      → end cs st ≡ ended cs st
  ends [] st a h k p = end-nil st ∙ rw (lt-leb s.required (st.counts.successes + 0) (omega arith), counting-none st)
  ends (success t ∷ cs) st a h k p =
      rw (end-cons, half (success t) st a.0 h)
      (if-cases (λ next. end cs next ≡ ended (success t ∷ cs) st) (leb s.required (st.counts.successes + 1)) {a = closing st} {b = counting (probes t) 0 1 st}
      (λ e.
      rw (le-leb s.required (st.counts.successes + (1 + many succeeds cs)) (omega (arith, leb-true s.required (st.counts.successes + 1) e)))
      (past st.generation cs (closing st) a.1 (next-other st.generation)))
      (λ e.
      ends cs (counting (probes t) 0 1 st) a.1 h (leb-false s.required (st.counts.successes + 1) e) (harmless-more (success t) cs st p) ∙ ended-more (success t) cs st refl))
  ends (failure t ∷ cs) st a h k (inl f) = absurd (omega arith)
  ends (failure t ∷ cs) st a h k (inr g) =
      rw (end-cons, half (failure t) st a.0 h, lt-leb s.required (st.counts.successes + (0 + many succeeds cs)) (omega arith), ne_eqb (1 + many fails cs) 0 (omega arith))
      (past st.generation cs (opening s reading st) a.1 (next-other st.generation))
  ends (abort t ∷ cs) st a h k p =
      end-half (abort t) cs st a.0 h
      ∙ ends cs (counting (probes t) 0 0 st) a.1 h (omega arith) (harmless-more (abort t) cs st p) ∙ ended-more (abort t) cs st refl
  ends (trait_abort t ∷ cs) st a h k p =
      end-half (trait_abort t) cs st a.0 h
      ∙ ends cs (counting (probes t) (probes t) 0 st) a.1 h (omega arith) (harmless-more (trait_abort t) cs st p) ∙ ended-more (trait_abort t) cs st refl

  -- the end is by the numbers of calls, and an order has the same
  agree : (cs ds : List Call) (st : State) → AllOf st.generation cs → st.state ≡ HalfOpen → st.counts.successes < s.required → Harmless s st cs
      → Permᴰ cs ds → end ds st ≡ end cs st
  agree cs ds st a h k p d =
      let same : Harmless s st ds = rw (perm-many fails d, perm-many succeeds d) at p in
      let e : ended ds st ≡ ended cs st = rw (perm-many fails d, perm-many succeeds d, perm-many trials d, perm-many traits d) in
      ends ds st (perm-all st.generation d a) h k same ∙ e ∙ sym (ends cs st a h k p)

  -- ---- calls that are not harmless: some order ends Open and another Closed

  abbrev Ends : List Call → State → ℕ → Type 0
  Ends cs st x = (ds : List Call) × Permᴰ cs ds × ((end ds st).state ≡ x)

  -- a failure first
  some-open : (cs : List Call) (st : State) → AllOf st.generation cs → st.state ≡ HalfOpen → 0 < many fails cs → Ends cs st Open
  some-open cs st a h f =
      let (t, ds, d) = ahead fails failure a-failure cs f in
      let m = perm-all st.generation d a in
      (failure t ∷ ds, d, rw (end-cons, half (failure t) st m.0 h, past st.generation ds (opening s reading st) m.1 (next-other st.generation)))

  -- the successes first, one after the other: n + 1 of them close
  some-closed : (n : ℕ) (cs : List Call) (st : State) → AllOf st.generation cs → st.state ≡ HalfOpen
      → s.required ≡ st.counts.successes + (n + 1) → n < many succeeds cs → Ends cs st Closed
  some-closed zero cs st a h e g =
      let (t, ds, d) = ahead succeeds success a-success cs g in
      let m = perm-all st.generation d a in
      (success t ∷ ds, d, rw (end-cons, half (success t) st m.0 h, le-leb s.required (st.counts.successes + 1) (omega arith), past st.generation ds (closing st) m.1 (next-other st.generation)))
  some-closed (suc n) cs st a h e g =
      let (t, ds, d) = ahead succeeds success a-success cs (omega arith) in
      let m = perm-all st.generation d a in
      let q = perm-many succeeds d in
      let (es, x, y) = some-closed n ds (counting (probes t) 0 1 st) m.1 h (omega arith) (omega arith) in
      (success t ∷ es, Permᴰ.trans d (Permᴰ.cons refl x), rw (end-cons, half (success t) st m.0 h, lt-leb s.required (st.counts.successes + 1) (omega arith)) y)

  module _ (st : State) (h : st.state ≡ HalfOpen) (k : st.counts.successes < s.required) (cs : List Call) (a : AllOf st.generation cs) where
    -- harmless, or both
    harmless-or : Harmless s st cs ⊎ (Ends cs st Closed × Ends cs st Open)
    harmless-or = go (eqb (many fails cs) 0) refl (leb s.required (st.counts.successes + many succeeds cs)) refl
      where
        go : (x : Bool) → eqb (many fails cs) 0 ≡ x → (y : Bool) → leb s.required (st.counts.successes + many succeeds cs) ≡ y → Harmless s st cs ⊎ (Ends cs st Closed × Ends cs st Open)
        go true e y f = inl (inl (eqb-true (many fails cs) 0 e))
        go false e false f = inl (inr (leb-false s.required (st.counts.successes + many succeeds cs) f))
        go false e true f =
            let l = leb-true s.required (st.counts.successes + many succeeds cs) f in
            inr (some-closed (s.required - st.counts.successes - 1) cs st a h (omega arith) (omega arith), some-open cs st a h (omega (arith, eqb-false (many fails cs) 0 e)))

    -- if all orders end in one state, the calls are harmless
    only-harmless : ((ds : List Call) → Permᴰ cs ds → (end ds st).state ≡ (end cs st).state) → Harmless s st cs
    only-harmless all = ⊎_elim (λ p. p) (λ (x, y). absurd (let z : Closed ≡ Open = sym x.2 ∙ all x.0 x.1 ∙ sym (all y.0 y.1) ∙ y.2 in omega arith)) harmless-or

    otherwise : ¬ Harmless s st cs → Ends cs st Closed × Ends cs st Open
    otherwise n = ⊎_elim (λ p. absurd (n p)) (λ x. x) harmless-or

  -- ---- other generations

  -- where a sequence of finishing calls can be that began HalfOpen at the generation g
  abbrev Within : ℕ → State → Type 0
  Within g st = ((st.state ≡ HalfOpen) × (st.generation ≡ g)) ⊎ ((st.state ≡ Closed) × (st.generation ≡ next g)) ⊎ (st.state ≡ Open)

  within-half : (g : ℕ) (c : Call) (st : State) → st.state ≡ HalfOpen → st.generation ≡ g → Within g (half_step s reading c st)
  within-half g (success t) st h e =
      if-cases (Within g) (leb s.required (st.counts.successes + 1)) {a = closing st} {b = counting (probes t) 0 1 st} (λ l. inr (inl (refl, ap next e))) (λ l. inl (h, e))
  within-half g (failure t) st h e = inr (inr refl)
  within-half g (abort t) st h e = inl (h, e)
  within-half g (trait_abort t) st h e = inl (h, e)

  within-closed : (g : ℕ) (good : Bool) (st : State) → st.state ≡ Closed → st.generation ≡ next g → Within g (in_closed s reading good st).after
  unfolding in_closed
  within-closed g true st h e = inr (inl (h, e))
  within-closed g false st h e = failure-cases (λ o. Within g o.after) s reading st (inr (inl (h, e))) (λ r. inr (inr refl)) (λ r. inr (inl (h, e)))

  within-settled : (g : ℕ) (t : Ticket) (good : Bool) (st : State) → st.state ≡ Closed → st.generation ≡ next g → Within g (settled s reading t good st).after
  within-settled g t good st h e =
      settled-cases (λ o. Within g o.after) s reading st t good (inr (inl (h, e))) (λ k. absurd (omega arith)) (λ k. within-closed g good st h e)

  in-closed : (g : ℕ) (c : Call) (st : State) → st.state ≡ Closed → st.generation ≡ next g → Within g (finish s reading c st).after
  in-closed g (success t) st h e = within-settled g t true st h e
  in-closed g (failure t) st h e = within-settled g t false st h e
  in-closed g (abort t) st h e = rw (aborted-off t false st (λ k. absurd (omega arith))) (inr (inl (h, e)))
  in-closed g (trait_abort t) st h e = rw (aborted-off t true st (λ k. absurd (omega arith))) (inr (inl (h, e)))

  in-half : (g : ℕ) (c : Call) (st : State) → st.state ≡ HalfOpen → st.generation ≡ g → (x : Bool) → eqb (ticket c).generation st.generation ≡ x → Within g (finish s reading c st).after
  in-half g c st h e true q = rw (half c st (eqb-true (ticket c).generation st.generation q) h) (within-half g c st h e)
  in-half g c st h e false q = rw (stale c st (eqb-false (ticket c).generation st.generation q)) (inl (h, e))

  within : (g : ℕ) (c : Call) (st : State) → Within g st → Within g (finish s reading c st).after
  within g c st (inl (h, e)) = in-half g c st h e (eqb (ticket c).generation st.generation) refl
  within g c st (inr (inl (h, e))) = in-closed g c st h e
  within g c st (inr (inr h)) = rw (opened c st h) (inr (inr h))

  -- there a ticket of another generation does nothing and is told nothing
  idle : (g : ℕ) (c : Call) (st : State) → Within g st → is_other g c ≡ true → finish s reading c st ≡ done st
  idle g c st (inl (h, e)) q = stale c st (λ p. eqb-false (ticket c).generation g (is-neither g c q).0 (p ∙ e))
  idle g c st (inr (inl (h, e))) q = stale c st (λ p. eqb-false (ticket c).generation (next g) (is-neither g c q).1 (p ∙ e))
  idle g c st (inr (inr h)) q = opened c st h

  abbrev Unmoved : ℕ → List Call → State → Type 0
  Unmoved g cs st = sequence s reading cs st ≡ record { after = (sequence s reading (without_others g cs) st).after; answers = put_back g cs (sequence s reading (without_others g cs) st).answers }

  unmoved : (g : ℕ) (cs : List Call) (st : State) → Within g st → Unmoved g cs st
  unfolding sequence
  unmoved g [] st i = refl
  unmoved g (c ∷ cs) st i = go (is_other g c) refl (unmoved g cs (finish s reading c st).after (within g c st i)) (unmoved g cs st i)
    where
      go : (x : Bool) → is_other g c ≡ x → Unmoved g cs (finish s reading c st).after → Unmoved g cs st → Unmoved g (c ∷ cs) st
      go false e ih jh = rw e (ap (λ (r : Sequence). record { after = r.after; answers = (finish s reading c st).told ∷ r.answers }) ih)
      go true e ih jh = rw (e, idle g c st i e) (ap (λ (r : Sequence). record { after = r.after; answers = nothing ∷ r.answers }) jh)

-- equal states are stored as equal fields and places
equal : (b : Breaker) (st st' : State) → st ≡ st' → Equal b st st'
equal b st st' e = record { every-field = ap (stored b.config) e; all-places = ap (λ (x : State). padded x.list) e }

pub finishing-orders : Theorem
finishing-orders reading b p ok h =
    let s = settings b.config in
    let st = state b p in
    let k = (shared→ b.config b.shared (sound→ b p ok).shared).successes in
    record {
      none = sequence-nil s reading st;
      in-turn = λ cs c. sequence-snoc s reading cs c st;
      as-calls = λ cs c.
          let u = (sequence s reading cs st).after in
          sym (sound-done (λ x y. finish x reading c y) (stored b.config u) (padded u.list) (sound-sequence b.config reading cs st (sound-state b p ok)))
          ∙ ap (λ (y : State). kept b.config (finish s reading c y)) (state-stored b.config u);
      orders-agree = λ cs a. (
        λ all. only-harmless s reading st h k cs a (λ ds d. ap (λ (x : Breaker). x.shared.state) (all ds d).every-field),
        λ p ds d. equal b _ _ (agree s reading cs ds st a h k p d),
      );
      otherwise = otherwise s reading st h k;
      other-generations = λ cs. unmoved s reading b.shared.generation cs st (inl (h, refl));
    }
