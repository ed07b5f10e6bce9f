-- A settle and an abort, by the ticket and the state. Assumes nothing.
use Prim.Native.Nat.{ℕ}
use native.Mathlib.Omega.{arith}
use native.Mathlib.Nat.{sub-zero, add-zero}
use mathlib.Core.Path.{◌≡◌, refl, sym, ◌∙◌}
use mathlib.Core.Bool.{Bool, true, false, ◌&&◌}
use lib.Dec.{eqb}
use borrow.Author.Tests.{eq-eqb, ne_eqb}
use Rattle.std.proofs.Common.{if◌then◌else◌}
use Rattle.error.specs.Choice.{bit}
use Rattle.breaker.specs.declared.Ticket.{Ticket}
use Rattle.breaker.specs.Record.{Settings, State, Closed, HalfOpen, Open}
use Rattle.breaker.specs.Rules.{done, counting, probes, in_half_open, in_closed, settled, aborted}

pub counting-none : (st : State) → counting 0 0 0 st ≡ st
counting-none st = simp (sub-zero, add-zero)

-- ---- settle
module _ (s : Settings) (reading : ℕ) (t : Ticket) (good : Bool) (st : State) where
  pub settled-stale : (t.generation ≡ st.generation → ⊥) → settled s reading t good st ≡ done st
  unfolding settled
  settled-stale n = rw (ne_eqb _ _ n)

  pub settled-half : t.generation ≡ st.generation → st.state ≡ HalfOpen → settled s reading t good st ≡ done (in_half_open s reading t good st)
  unfolding settled
  settled-half g h = rw (eq-eqb _ _ g, eq-eqb st.state HalfOpen h)

  pub settled-closed : t.generation ≡ st.generation → st.state ≡ Closed → settled s reading t good st ≡ in_closed s reading good st
  unfolding settled
  settled-closed g k = rw (eq-eqb _ _ g, ne_eqb st.state HalfOpen (λ h. omega arith), eq-eqb st.state Closed k)

  pub settled-off : (st.state ≡ HalfOpen → ⊥) → (st.state ≡ Closed → ⊥) → settled s reading t good st ≡ done st
  unfolding settled
  settled-off n m = go (eqb t.generation st.generation) refl
    where
      go : (x : Bool) → eqb t.generation st.generation ≡ x → settled s reading t good st ≡ done st
      go true e = rw (e, ne_eqb st.state HalfOpen n, ne_eqb st.state Closed m)
      go false e = rw e

  pub settled-open : st.state ≡ Open → settled s reading t good st ≡ done st
  settled-open h = settled-off (λ k. omega arith) (λ k. omega arith)

-- ---- abort
module _ (t : Ticket) (trait : Bool) (st : State) where
  pub aborted-bare : t.probe ≡ false → aborted t trait st ≡ st
  unfolding aborted
  aborted-bare p = rw p

  pub aborted-stale : (t.generation ≡ st.generation → ⊥) → aborted t trait st ≡ st
  unfolding aborted
  aborted-stale n = go t.probe refl
    where
      go : (x : Bool) → t.probe ≡ x → aborted t trait st ≡ st
      go true e = rw (e, ne_eqb _ _ n)
      go false e = rw e

  pub aborted-off : (st.state ≡ HalfOpen → ⊥) → aborted t trait st ≡ st
  unfolding aborted
  aborted-off n = go t.probe refl (eqb t.generation st.generation) refl
    where
      go : (x : Bool) → t.probe ≡ x → (y : Bool) → eqb t.generation st.generation ≡ y → aborted t trait st ≡ st
      go true e true f = rw (e, f, ne_eqb st.state HalfOpen n)
      go true e false f = rw (e, f)
      go false e y f = rw e

  pub aborted-probe : t.probe ≡ true → t.generation ≡ st.generation → st.state ≡ HalfOpen → aborted t trait st ≡ counting 1 (bit trait) 0 st
  unfolding aborted
  aborted-probe p g h = rw (p, eq-eqb _ _ g, eq-eqb st.state HalfOpen h)

  -- by what the ticket holds
  pub aborted-half : t.generation ≡ st.generation → st.state ≡ HalfOpen → aborted t trait st ≡ counting (probes t) (if trait then probes t else 0) 0 st
  aborted-half g h = go t.probe refl trait refl
    where
      go : (x : Bool) → t.probe ≡ x → (v : Bool) → trait ≡ v → aborted t trait st ≡ counting (bit x) (if v then bit x else 0) 0 st
      go true e true f = aborted-probe e g h ∙ rw f
      go true e false f = aborted-probe e g h ∙ rw f
      go false e true f = aborted-bare e ∙ sym (counting-none st)
      go false e false f = aborted-bare e ∙ sym (counting-none st)

  pub aborted-list : (aborted t trait st).list ≡ st.list
  unfolding aborted
  aborted-list = go (t.probe && (eqb t.generation st.generation && eqb st.state HalfOpen))
    where
      go : (x : Bool) → (if x then counting 1 (bit trait) 0 st else st).list ≡ st.list
      go true = refl
      go false = refl
