-- The batch: one call, the turn of its loop, and its refusals. Assumes nothing.
use mathlib.Core.Path.{◌≡◌, refl, sym, ap, ap₂, ◌∙◌}
use mathlib.Core.Bool.{Bool, true, false}
use mathlib.Core.List.{List, [], ◌∷◌, ◌++◌, append-nil}
use Prim.Native.Nat.{ℕ, zero, suc, ◌+◌, ◌≤◌, ◌<◌}
use native.Mathlib.Numerals.{add-one}
use lib.ListN.{length, drop, set, get_or, length-append, drop_of_length-le}
use lib.Seq.{drop-cons, append_snoc, set_at}
use Rattle.error.specs.Told.{Told, refused, nothing}
use Rattle.error.specs.declared.Refusal.{Refusal}
use Rattle.error.specs.declared.Refusal.TheVariants.{Storage}
use Rattle.history.specs.Items.{padded}
use Rattle.trip.specs.declared.Config.{Config}
use Rattle.breaker.specs.declared.Ticket.{Ticket}
use Rattle.breaker.specs.declared.Breaker.{Breaker}
use Rattle.std.proofs.Common.{Ok, Err}
use Rattle.breaker.specs.Record.{State, settings, state, stored, sound}
use Rattle.breaker.specs.Rules.{done, settled, aborted, finish}
use Rattle.breaker.specs.Calls.{After, after, kept, guarded}
use Rattle.breaker.specs.Orders.{Sequence, sequence, in_turn}
use Rattle.breaker.specs.Batch.{Slices, call_by, call_at, calls_to, calls, batch, numbers, alike, finished_all}
use Rattle.steps.specs.Steps.{Holds}
use Rattle.breaker.proofs.Guard.{guarded-refused, guarded-done}
use Rattle.breaker.proofs.Keeps.{sound-sequence, sound-state}
use Rattle.breaker.proofs.Orders.{sequence-snoc}
use Rattle.steps.proofs.Holding.{holds}
use Rattle.steps.proofs.Aborting.{given_back}

-- ---- one call
module _ (c : Config) (st : State) (reading : ℕ) (t : Ticket) (mark : Bool) where
  pub call-settles : (settles : Bool) → settles ≡ true → (x : After) → x ≡ kept c (settled (settings c) reading t mark st)
      → x ≡ kept c (finish (settings c) reading (call_by t settles mark) st)
  call-settles settles e x q = rw e (q ∙ ap (kept c) (go mark))
    where
      go : (m : Bool) → settled (settings c) reading t m st ≡ finish (settings c) reading (call_by t true m) st
      go true = refl
      go false = refl

  pub call-aborts : (settles : Bool) → settles ≡ false → (s : List ℕ) (next : Breaker) → next ≡ stored c (aborted t mark st) → s ≡ padded st.list
      → after nothing next s ≡ kept c (finish (settings c) reading (call_by t settles mark) st)
  call-aborts settles e s next q l = rw e (given_back nothing c t mark st next s q l ∙ ap (kept c) (go mark))
    where
      go : (m : Bool) → done (aborted t m st) ≡ finish (settings c) reading (call_by t false m) st
      go true = refl
      go false = refl

numbers_more : (told : List Told) (t : Told) → numbers (told ++ (t ∷ [])) ≡ numbers told ++ (t.number ∷ [])
numbers_more [] t = refl
numbers_more (a ∷ told) t = ap (λ (y : List ℕ). a.number ∷ y) (numbers_more told t)

-- ---- the calls so far
module _ (x : Slices) (reading : ℕ) (start : Breaker) (s : List ℕ) where
  abbrev pub so_far : ℕ → Sequence
  so_far i = in_turn reading start s (calls_to x i)

  more : (i : ℕ) → (let o = finish (settings start.config) reading (call_at x i) (so_far i).after in
      so_far (suc i) ≡ record { after = o.after; answers = (so_far i).answers ++ (o.told ∷ []) })
  unfolding calls_to
  more i = sequence-snoc (settings start.config) reading (calls_to x i) (call_at x i) (state start s)

  count : (i : ℕ) → length (numbers (so_far i).answers) ≡ i
  unfolding calls_to sequence
  count zero = refl
  count (suc i) = ap (λ (r : Sequence). length (numbers r.answers)) (more i) ∙ one (so_far i).answers (finish (settings start.config) reading (call_at x i) (so_far i).after).told i (count i)
    where
      one : (told : List Told) (t : Told) (n : ℕ) → length (numbers told) ≡ n → length (numbers (told ++ (t ∷ []))) ≡ suc n
      one told t n e = rw (numbers_more told t, length-append, e, add-one)

  -- the loop: the record and the places hold the state so far, and the answers so far stand in front
  pub record Turn (a₀ : List ℕ) (b : Breaker) (l a : List ℕ) (i : ℕ) : Type 0 where
    pub held : Holds start.config (so_far i).after b l
    pub told : a ≡ numbers (so_far i).answers ++ drop i a₀

  pub turn-first : sound start s ≡ true → (a₀ : List ℕ) → Turn a₀ start s a₀ 0
  unfolding calls_to sequence
  turn-first ok a₀ = record { held = holds start s ok; told = refl }

  pub turn-sound : {a₀ : List ℕ} {b : Breaker} {l a : List ℕ} {i : ℕ} → sound start s ≡ true → Turn a₀ b l a i → sound b l ≡ true
  turn-sound {i = i} ok t = rw (t.held.0, t.held.1) (sound-sequence start.config reading (calls_to x i) (state start s) (sound-state start s ok))

  pub turn_more : {a₀ : List ℕ} {b : Breaker} {l a : List ℕ} {i : ℕ} → Turn a₀ b l a i → i < length a₀ → (t : Told) (b' : Breaker) (l' : List ℕ) (v : ℕ)
      → after t b' l' ≡ kept start.config (finish (settings start.config) reading (call_at x i) (so_far i).after) → v ≡ t.number → Turn a₀ b' l' (set a i v) (i + 1)
  turn_more {a₀} {b} {l} {a} {i} turn h t b' l' v e n =
      let o = finish (settings start.config) reading (call_at x i) (so_far i).after in
      let told' : numbers (so_far (suc i)).answers ≡ numbers (so_far i).answers ++ (v ∷ []) =
      ap (λ (r : Sequence). numbers r.answers) (more i) ∙ numbers_more (so_far i).answers o.told
      ∙ ap (λ (m : ℕ). numbers (so_far i).answers ++ (m ∷ [])) (sym (ap (λ (y : After). y.told.number) e) ∙ sym n) in
      let put : set a i v ≡ numbers (so_far (suc i)).answers ++ drop (suc i) a₀ =
      ap (λ (y : List ℕ). set y i v) (turn.told ∙ ap (λ (y : List ℕ). numbers (so_far i).answers ++ y) (drop-cons a₀ i 0 h))
      ∙ set_at (numbers (so_far i).answers) (get_or a₀ i 0) (drop (suc i) a₀) v i (count i)
      ∙ sym (append_snoc (numbers (so_far i).answers) v (drop (suc i) a₀))
      ∙ ap (λ (y : List ℕ). y ++ drop (suc i) a₀) (sym told') in
      let at : Holds start.config (so_far (suc i)).after b' l' = (
        ap (λ (y : After). y.breaker) e ∙ ap (λ (r : Sequence). stored start.config r.after) (sym (more i)),
        ap (λ (y : After). y.places) e ∙ ap (λ (r : Sequence). padded r.after.list) (sym (more i)),
      ) in
      rw add-one (record { held = at; told = put })

  pub turn_last : {a₀ : List ℕ} {b : Breaker} {l a : List ℕ} {i : ℕ} → Turn a₀ b l a i → i ≡ length x.generations → length a₀ ≤ i
      → batch (after nothing b l) a ≡ (let ran = in_turn reading start s (calls x) in batch (kept start.config (done ran.after)) (numbers ran.answers))
  turn_last {a₀} {b} {l} {a} {i} turn e h =
      ap₂ (λ (y : Breaker) (z : List ℕ). batch (after nothing y z) a) turn.held.0 turn.held.1
      ∙ ap (λ (y : List ℕ). batch (after nothing (stored start.config (so_far i).after) (padded (so_far i).after.list)) y)
      (turn.told ∙ ap (λ (y : List ℕ). numbers (so_far i).answers ++ y) (drop_of_length-le a₀ {i = i} h) ∙ append-nil (numbers (so_far i).answers))
      ∙ ap (λ (n : ℕ). batch (kept start.config (done (so_far n).after)) (numbers (so_far n).answers)) e

-- ---- the refusals
module _ (reading : ℕ) (x : Slices) (b : Breaker) (s answers : List ℕ) where
  pub batch-unlike : alike x answers ≡ false → batch (after (refused Storage) b s) answers ≡ finished_all reading x b s answers
  unfolding finished_all
  batch-unlike e = simp e

  pub batch-refused : alike x answers ≡ true → (r : Refusal) → Err r ≡ guarded Err (Ok (tt {0})) b s → batch (after (refused r) b s) answers ≡ finished_all reading x b s answers
  unfolding finished_all
  batch-refused e r k = simp e (guarded-refused (λ r. batch (after (refused r) b s) answers) _ b s r k)

  pub batch-done : alike x answers ≡ true → sound b s ≡ true
      → (let ran = in_turn reading b s (calls x) in batch (kept b.config (done ran.after)) (numbers ran.answers)) ≡ finished_all reading x b s answers
  unfolding finished_all
  batch-done e ok = simp e (guarded-done (λ r. batch (after (refused r) b s) answers) _ b s ok)
