-- What follows from `FinishingOrders` alone, with nothing of its proof: the statement says enough. Assumes nothing.
use Prim.Native.Nat.{ℕ}
use mathlib.Core.Path.{◌≡◌, sym, ◌∙◌, ap}
use mathlib.Core.Bool.{Bool, true, false}
use mathlib.Core.List.{List, [], ◌∷◌, ◌++◌, tail, Permᴰ}
use lib.ListN.{length, take, drop}
use Rattle.std.proofs.Common.{if◌then◌else◌}
use Rattle.error.specs.Told.{Told, nothing}
use Rattle.breaker.specs.declared.Breaker.{Breaker}
use Rattle.breaker.specs.Record.{settings, state}
use Rattle.breaker.specs.Rules.{Call}
use Rattle.breaker.specs.Orders.{is_other, without_others, first, put_back, AllOf, Harmless, Equal, in_turn, FinishingOrders}

abbrev insert : ℕ → Told → List Told → List Told
insert n a l = take n l ++ (a ∷ drop n l)

only-insert : (g : ℕ) (cs ds : List Call) (c : Call) → is_other g c ≡ true → without_others g (cs ++ (c ∷ ds)) ≡ without_others g (cs ++ ds)
only-insert g [] ds c e = rw e
only-insert g (d ∷ cs) ds c e = ap (λ (r : List Call). if is_other g d then r else d ∷ r) (only-insert g cs ds c e)

put-insert : (g : ℕ) (cs ds : List Call) (c : Call) (told : List Told) → is_other g c ≡ true
    → put_back g (cs ++ (c ∷ ds)) told ≡ insert (length cs) nothing (put_back g (cs ++ ds) told)
put-insert g [] ds c told e = rw e
put-insert g (d ∷ cs) ds c told e = go (is_other g d) (put-insert g cs ds c (tail told) e) (put-insert g cs ds c told e)
  where
    go : (x : Bool) → put_back g (cs ++ (c ∷ ds)) (tail told) ≡ insert (length cs) nothing (put_back g (cs ++ ds) (tail told))
        → put_back g (cs ++ (c ∷ ds)) told ≡ insert (length cs) nothing (put_back g (cs ++ ds) told)
        → (if x then nothing ∷ put_back g (cs ++ (c ∷ ds)) told else first told ∷ put_back g (cs ++ (c ∷ ds)) (tail told))
        ≡ insert (length (d ∷ cs)) nothing (if x then nothing ∷ put_back g (cs ++ ds) told else first told ∷ put_back g (cs ++ ds) (tail told))
    go false p q = ap (λ (r : List Told). first told ∷ r) p
    go true p q = ap (λ (r : List Told). nothing ∷ r) q

module _ (reading : ℕ) (b : Breaker) (places : List ℕ) (orders : FinishingOrders reading b places) where
  -- one ticket of another generation put in anywhere: the same end, and the same answers with nothing told at its place
  pub one-other : (cs ds : List Call) (c : Call) → is_other b.shared.generation c ≡ true →
      let r = in_turn reading b places (cs ++ ds) in
      in_turn reading b places (cs ++ (c ∷ ds)) ≡ record { after = r.after; answers = insert (length cs) nothing r.answers }
  one-other cs ds c e =
      orders.other-generations (cs ++ (c ∷ ds))
      ∙ rw (only-insert b.shared.generation cs ds c e, put-insert b.shared.generation cs ds c _ e, orders.other-generations (cs ++ ds))

  -- any two orders of harmless calls end equal
  pub any-two : (cs ds es : List Call) → AllOf b.shared.generation cs → Harmless (settings b.config) (state b places) cs → Permᴰ cs ds → Permᴰ cs es
      → Equal b (in_turn reading b places ds).after (in_turn reading b places es).after
  any-two cs ds es a p d e =
      let all = (orders.orders-agree cs a).1 p in
      record { every-field = (all ds d).every-field ∙ sym (all es e).every-field; all-places = (all ds d).all-places ∙ sym (all es e).all-places }
