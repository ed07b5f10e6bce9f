-- Laws of a call's line: what is printed is taken again, and what is taken was printed. Assumes nothing.
use Rattle.std.proofs.Common.{◌≡◌, ℕ, ◌^◌, ◌<◌, Bool, true, false, eqb, List, [], ◌∷◌, ◌++◌, append_assoc, Some, None, inl, inr, refl, sym, ap, subst, eqb-true, length, drop, ◌≤◌, ◌∙◌, arith}
use Rattle.std.proofs.lemmas.Option.{some_pair_parts}
use Rattle.std.proofs.lemmas.List.{drop_all}
use Rattle.error.specs.Choice.{bit}
use Rattle.error.proofs.Choice.{bit-back}
use Rattle.breaker.specs.declared.Ticket.{Ticket}
use Rattle.breaker.specs.Answers.{ticket_values}
use Rattle.lines.specs.Print.{print_decimal, print_fields, print_call, letter_of, fields_of, AllFit, CallFits}
use Rattle.lines.specs.Take.{◌>>=◌, after, take_decimal, take_ticket, with_ticket, take_ticketed, take_order, take_call}
use Rattle.lines.specs.Reads.{Read, NoCall, CallRead}
use Rattle.lines.specs.declared.Call.{Call}
use Rattle.lines.specs.declared.Order.{Order}
use Rattle.lines.specs.declared.Order.TheVariants.{Admit, Success, Failure, Abort, Reset}
use Rattle.lines.proofs.After.{got, bound-back, mapped-back, chosen-back, after-back}
use Rattle.lines.proofs.Numbers.{number-there, number-back}
use Rattle.lines.proofs.Fields.{ticket-back}
use Rattle.lines.proofs.Limits.{max64, limits_of, print_all, take_all, made_call, closed, rest-there, order-limits}

-- ---- there
abbrev ticket : List ℕ
ticket = max64 ∷ 1 ∷ []

ticket-there : (g : ℕ) (p : Bool) (rest : List ℕ) → g < 2 ^ 64 → take_all ticket (print_fields (g ∷ bit p ∷ []) ++ (10 ∷ rest)) ≡ Some (g ∷ bit p ∷ [], rest)
unfolding print_all print_fields
ticket-there g true rest h = rest-there ticket (g ∷ 1 ∷ []) rest (omega arith, (omega arith, tt))
ticket-there g false rest h = rest-there ticket (g ∷ 0 ∷ []) rest (omega arith, (omega arith, tt))

-- the fields of an order, its letter before them, by the limits of the letter
order-there : (t : ℕ) (o : Order) (rest : List ℕ) → AllFit (fields_of o)
    → (take_order (letter_of o ∷ (print_fields (fields_of o) ++ (10 ∷ rest))) >>= closed t) ≡ Some (record { reading = t; order = o }, rest)
unfolding limits_of print_all print_fields
order-there t o rest f = order-limits t (letter_of o) (print_fields (fields_of o) ++ (10 ∷ rest)) ∙ made o f
  where
    made : (o : Order) → AllFit (fields_of o)
        → (take_all (limits_of (letter_of o)) (print_fields (fields_of o) ++ (10 ∷ rest)) >>= made_call t (letter_of o)) ≡ Some (record { reading = t; order = o }, rest)
    made Admit f = rw (rest-there [] [] rest tt)
    made Reset f = rw (rest-there [] [] rest tt)
    made (Success k) f = rw (ticket-there k.generation k.probe rest f.0, bit-back k.probe)
    made (Failure k) f = rw (ticket-there k.generation k.probe rest f.0, bit-back k.probe)
    made (Abort k) f = rw (ticket-there k.generation k.probe rest f.0, bit-back k.probe)

-- a call's line with what follows it, as the readers meet it
line : (c : Call) (rest : List ℕ) → print_call c ++ rest ≡ print_decimal c.reading ++ (32 ∷ letter_of c.order ∷ (print_fields (fields_of c.order) ++ (10 ∷ rest)))
unfolding print_call
line c rest =
    let F = print_fields (fields_of c.order) in
    rw (append_assoc (print_decimal c.reading) (32 ∷ letter_of c.order ∷ (F ++ (10 ∷ []))) rest, append_assoc F (10 ∷ []) rest)

call-there : (c : Call) (rest : List ℕ) → CallFits c → take_call (print_call c ++ rest) ≡ Some (c, rest)
unfolding take_call after
call-there c rest f =
    rw (line c rest, number-there c.reading (32 ∷ letter_of c.order ∷ (print_fields (fields_of c.order) ++ (10 ∷ rest))) f.0 refl) (order-there c.reading c.order rest f.1)

-- ---- back
-- what stands behind a reading and its space is the order o
abbrev Stands : List ℕ → Order → List ℕ → Type 0
Stands bs o rest = AllFit (fields_of o) × (bs ≡ letter_of o ∷ (print_fields (fields_of o) ++ rest))

-- an order without a ticket, and one with it
bare-back : (k : ℕ) (bs : List ℕ) (d o : Order) (rest : List ℕ) → letter_of d ≡ k → fields_of d ≡ [] → got d bs ≡ got o rest → Stands (k ∷ bs) o rest
unfolding print_fields
bare-back k bs d o rest l f e = let p = some_pair_parts d o bs rest e in rw (← p.0) (rw f tt, rw f (cc (l, p.1)))

with-back : (k : ℕ) (q : Ticket) (o : Order) → with_ticket k q ≡ Some o → (letter_of o ≡ k) × (fields_of o ≡ ticket_values q)
with-back k q o e = elim (chosen-back (eqb k 83) _ _ o e) [
  | inl h ↦ is (Success q) (sym (eqb-true k 83 h.0)) refl h.1
  | inr h ↦ elim (chosen-back (eqb k 70) _ _ o h.1) [
    | inl h ↦ is (Failure q) (sym (eqb-true k 70 h.0)) refl h.1
    | inr h ↦ elim (chosen-back (eqb k 88) _ _ o h.1) [ inl h ↦ is (Abort q) (sym (eqb-true k 88 h.0)) refl h.1 | inr h ↦ cc (h.1) ]
  ]
]
  where
    is : (d : Order) → letter_of d ≡ k → fields_of d ≡ ticket_values q → Some d ≡ Some o → (letter_of o ≡ k) × (fields_of o ≡ ticket_values q)
    is d l f e = let x : d ≡ o = cc in rw (← x) (l, f)

ticketed-back : (k : ℕ) (bs : List ℕ) (o : Order) (rest : List ℕ) → take_ticketed k bs ≡ got o rest → Stands (k ∷ bs) o rest
ticketed-back k bs o rest e =
    let p = bound-back (take_ticket bs) _ (o, rest) e in
    let d = mapped-back _ (with_ticket k p.0.0) (o, rest) p.2 in
    let w = with-back k p.0.0 d.0 d.1 in
    let b = ticket-back bs p.0.0 p.0.1 p.1 in
    let x : d.0 ≡ o = ap (λ (y : Order × List ℕ). y.0) d.2 in
    let y : p.0.1 ≡ rest = ap (λ (y : Order × List ℕ). y.1) d.2 in
    rw (← x) (rw w.1 b.0, rw w.1 (cc (w.0, b.1, y)))

order-back : (bs : List ℕ) (o : Order) (rest : List ℕ) → take_order bs ≡ Some (o, rest) → Stands bs o rest
unfolding take_order
order-back [] o rest e = cc
order-back (k ∷ bs) o rest e = elim (chosen-back (eqb k 65) _ _ (o, rest) e) [
  | inl h ↦ bare-back k bs Admit o rest (sym (eqb-true k 65 h.0)) refl h.1
  | inr h ↦ elim (chosen-back (eqb k 90) _ _ (o, rest) h.1) [
    | inl h ↦ bare-back k bs Reset o rest (sym (eqb-true k 90 h.0)) refl h.1
    | inr h ↦ ticketed-back k bs o rest h.1
  ]
]

-- a reading, a space, an order and the line feed are a call's line
whole : (t : ℕ) (bs s letter more left rest : List ℕ) (o : Order) (c : Call) → (t < 2 ^ 64) × (bs ≡ print_decimal t ++ s) → s ≡ 32 ∷ letter → Stands letter o more → more ≡ 10 ∷ left
    → got (record { reading = t; order = o }) left ≡ got c rest → CallFits c × (bs ≡ print_call c ++ rest)
whole t bs s letter more left rest o c n e f m g =
    let d : Call = record { reading = t; order = o } in
    let p = some_pair_parts d c left rest g in
    let w : CallFits d × (bs ≡ print_call d ++ left) = ((n.0, f.0), rw (line d left) (cc (n.1, e, f.1, m))) in
    subst (λ (x : Call). CallFits x × (bs ≡ print_call x ++ rest)) p.0 (w.0, rw p.1 at w.1)

call_back : (bs : List ℕ) (c : Call) (rest : List ℕ) → take_call bs ≡ Some (c, rest) → CallFits c × (bs ≡ print_call c ++ rest)
unfolding take_call
call_back bs c rest e =
    let t = bound-back (take_decimal bs) _ (c, rest) e in
    let a = bound-back (after 32 t.0.1) _ (c, rest) t.2 in
    let o = bound-back (take_order a.0) _ (c, rest) a.2 in
    let n = bound-back (after 10 o.0.1) _ (c, rest) o.2 in
    whole t.0.0 bs t.0.1 a.0 o.0.1 n.0 rest o.0.0 c (number-back bs t.0.0 t.0.1 t.1) (after-back 32 t.0.1 a.0 a.1) (order-back a.0 o.0.0 o.0.1 o.1) (after-back 10 o.0.1 n.0 n.1) n.2

-- ---- what a reader's answer says of the bytes
pub call_read : (s : List ℕ) (r : Read Call) → r ≡ take_call s → CallRead s r
call_read s (Some (c, rest)) e = call_back s c rest (sym e)
call_read s None e = λ c rest f q. let t = call-there c rest f in cc

-- at the end, and at a place past it, stands none
pub call-end : (s : List ℕ) (at : ℕ) → length s ≤ at → NoCall (drop at s)
unfolding take_call take_decimal
call-end s at h c rest f e = let d = drop_all at s h in let t = call-there c rest f in let z : take_call [] ≡ None = refl in cc

-- bytes begin with one call's line at most
pub same-call : (c d : Call) (x y : List ℕ) → CallFits c → CallFits d → print_call c ++ x ≡ print_call d ++ y → (c ≡ d) × (x ≡ y)
same-call c d x y f g e = let a = call-there c x f in let b = call-there d y g in some_pair_parts c d x y (cc)
