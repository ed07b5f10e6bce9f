-- Laws of a line's fields by a list of limits: what is printed is taken again, and what is taken was printed; the lines of Take are the fields that their letter's limits say. Assumes nothing.
-- A field's limit is the greatest decimal that it holds; 0 stands for 16 hexadecimal digits.
use Rattle.std.proofs.Common.{◌≡◌, ℕ, zero, suc, ◌+◌, ◌*◌, ◌-◌, ◌^◌, ◌≤◌, ◌<◌, Bool, true, false, ltb, eqb, leb, if◌then◌else◌, List, [], ◌∷◌, ◌++◌, append_assoc, length, get_or, Option, Some, None, refl, sym, ap, ◌∙◌, arith, le-leb, leb-true, lt-ltb, ltb-true, ltb-false, ne_eqb, eqb-true}
use Rattle.std.specs.Option.{option_map}
use Rattle.std.proofs.lemmas.Bool.{lt-leb}
use Rattle.std.proofs.lemmas.Bool.Decides.{nat_tests}
use Rattle.error.specs.Choice.{bit}
use Rattle.error.proofs.Choice.{bit-back}
use Rattle.breaker.specs.declared.Ticket.{Ticket}
use Rattle.breaker.specs.Answers.{ticket_values}
use Rattle.lines.specs.Print.{print_decimal, print_hex16}
use Rattle.lines.specs.Reads.{Read}
use Rattle.lines.specs.Take.{◌>>=◌, after, is_decimal, take_digits, take_decimal, take_field, take_narrow, take_bits, take_ticket, with_ticket, take_ticketed, take_order, take_consecutive, take_ratio, take_windowed, take_policy, take_header}
use Rattle.lines.specs.declared.Call.{Call}
use Rattle.lines.specs.declared.Order.{Order}
use Rattle.lines.specs.declared.Order.TheVariants.{Admit, Reset}
use Rattle.lines.specs.declared.Header.{Header}
use Rattle.lines.specs.declared.HeaderPolicy.{HeaderPolicy}
use Rattle.lines.specs.declared.HeaderPolicy.TheVariants.{Consecutive, Ratio, Windowed}
use Rattle.lines.proofs.After.{got, bound-back, mapped-back, after-back}
use Rattle.lines.proofs.Numbers.{stops, digits_below, decimal_below, decimal-64, below-there, below-back}
use Rattle.lines.proofs.Fields.{bits-there, bits-back, is-bit}

abbrev pub max32 : ℕ
max32 = 2 ^ 32 - 1

abbrev pub max64 : ℕ
max64 = 2 ^ 64 - 1

abbrev pub top : ℕ → ℕ
top l = if eqb l 0 then max64 else l

-- each value within its limit
abbrev pub Within : List ℕ → List ℕ → Type 0
Within [] [] = Unit
Within [] (v ∷ vs) = ⊥
Within (l ∷ ls) [] = ⊥
Within (l ∷ ls) (v ∷ vs) = (v ≤ top l) × Within ls vs

abbrev pub print_as : ℕ → ℕ → List ℕ
print_as l v = if eqb l 0 then print_hex16 v else print_decimal v

unfoldable pub print_all : List ℕ → List ℕ → List ℕ
print_all [] vs = []
print_all (l ∷ ls) [] = []
print_all (l ∷ ls) (v ∷ vs) = 32 ∷ (print_as l v ++ print_all ls vs)

-- a space and a number
unfoldable pub take_as : ℕ → List ℕ → Read ℕ
take_as l bs = if eqb l 0 then take_bits bs else after 32 bs >>= decimal_below (l + 1)

-- a value put before those that were taken
abbrev pub ahead : ℕ → List ℕ × List ℕ → List ℕ × List ℕ
ahead v p = (v ∷ p.0, p.1)

-- these values, and what is left
abbrev pub with : List ℕ → List ℕ → List ℕ × List ℕ
with vs rest = (vs, rest)

-- a field for each limit, and the line feed
unfoldable pub take_all : List ℕ → List ℕ → Read (List ℕ)
take_all [] bs = option_map (with []) (after 10 bs)
take_all (l ∷ ls) bs = take_as l bs >>= (λ p. option_map (ahead p.0) (take_all ls p.1))

-- no field, nor a line's end, begins with a digit
stops-rest : (ls vs rest : List ℕ) → stops (print_all ls vs ++ (10 ∷ rest)) ≡ true
unfolding print_all
stops-rest [] vs rest = refl
stops-rest (l ∷ ls) [] rest = refl
stops-rest (l ∷ ls) (v ∷ vs) rest = refl

field-there : (l v : ℕ) (rest : List ℕ) → v ≤ top l → stops rest ≡ true → take_as l (32 ∷ (print_as l v ++ rest)) ≡ Some (v, rest)
unfolding take_as after
field-there l v rest h s = go (eqb l 0) h
  where
    printed : Bool → List ℕ
    printed x = if x then print_hex16 v else print_decimal v

    go : (x : Bool) → v ≤ (if x then max64 else l)
        → (if x then take_bits (32 ∷ (printed x ++ rest)) else decimal_below (l + 1) (printed x ++ rest)) ≡ Some (v, rest)
    go true h = bits-there v rest (omega arith)
    go false h = below-there (l + 1) v rest (omega arith) s

pub rest-there : (ls vs rest : List ℕ) → Within ls vs → take_all ls (print_all ls vs ++ (10 ∷ rest)) ≡ Some (vs, rest)
unfolding take_all print_all after
rest-there [] [] rest w = refl
rest-there [] (v ∷ vs) rest w = elim w [ ]
rest-there (l ∷ ls) [] rest w = elim w [ ]
rest-there (l ∷ ls) (v ∷ vs) rest w =
    rw (append_assoc, field-there l v (print_all ls vs ++ (10 ∷ rest)) w.0 (stops-rest ls vs rest), rest-there ls vs rest w.1)

as-back : (l : ℕ) (bs : List ℕ) (v : ℕ) (rest : List ℕ) → take_as l bs ≡ Some (v, rest) → (v ≤ top l) × (bs ≡ 32 ∷ (print_as l v ++ rest))
unfolding take_as
as-back l bs v rest e = go (eqb l 0) e
  where
    go : (x : Bool) → (if x then take_bits bs else after 32 bs >>= decimal_below (l + 1)) ≡ Some (v, rest)
        → (v ≤ (if x then max64 else l)) × (bs ≡ 32 ∷ ((if x then print_hex16 v else print_decimal v) ++ rest))
    go true q = let b = bits-back bs v rest q in (omega (arith, b.0), b.1)
    go false q =
        let a = bound-back (after 32 bs) (decimal_below (l + 1)) (v, rest) q in
        let n = below-back (l + 1) a.0 v rest (omega arith) a.2 in
        (omega (arith, n.0), cc (after-back 32 bs a.0 a.1, n.1))

pub rest_back : (ls bs vs rest : List ℕ) → take_all ls bs ≡ Some (vs, rest) → Within ls vs × (bs ≡ print_all ls vs ++ (10 ∷ rest))
unfolding take_all print_all
rest_back [] bs vs rest e = let a = mapped-back (with []) (after 10 bs) (vs, rest) e in go vs a.0 (after-back 10 bs a.0 a.1) a.2
  where
    go : (vs s : List ℕ) → bs ≡ 10 ∷ s → with [] s ≡ (vs, rest) → Within [] vs × (bs ≡ print_all [] vs ++ (10 ∷ rest))
    go [] s b q = (tt, b ∙ ap (λ (p : List ℕ × List ℕ). 10 ∷ p.1) q)
    go (v ∷ vs) s b q = let z : [] ≡ v ∷ vs = ap (λ (p : List ℕ × List ℕ). p.0) q in cc
rest_back (l ∷ ls) bs vs rest e =
    let a = bound-back (take_as l bs) _ (vs, rest) e in
    let m = mapped-back (ahead a.0.0) (take_all ls a.0.1) (vs, rest) a.2 in
    go a.0.0 a.0.1 m.0.0 m.0.1 (as-back l bs a.0.0 a.0.1 a.1) (rest_back ls a.0.1 m.0.0 m.0.1 m.1) m.2
  where
    go : (v : ℕ) (s ws left : List ℕ) → (v ≤ top l) × (bs ≡ 32 ∷ (print_as l v ++ s)) → Within ls ws × (s ≡ print_all ls ws ++ (10 ∷ left)) → ahead v (ws, left) ≡ (vs, rest)
        → Within (l ∷ ls) vs × (bs ≡ print_all (l ∷ ls) vs ++ (10 ∷ rest))
    go v s ws left f i q =
        let x : v ∷ ws ≡ vs = ap (λ (p : List ℕ × List ℕ). p.0) q in
        let y : left ≡ rest = ap (λ (p : List ℕ × List ℕ). p.1) q in
        rw (← x, ← y) ((f.0, i.0), rw (append_assoc (print_as l v) (print_all ls ws) (10 ∷ left)) (cc (f.1, i.1)))

-- as many values as limits, …
pub within-length : (ls vs : List ℕ) → Within ls vs → length vs ≡ length ls
within-length [] [] w = refl
within-length [] (v ∷ vs) w = elim w [ ]
within-length (l ∷ ls) [] w = elim w [ ]
within-length (l ∷ ls) (v ∷ vs) w = ap suc (within-length ls vs w.1)

-- … each within its own
pub within-at : (ls vs : List ℕ) → Within ls vs → (i : ℕ) → i < length ls → get_or vs i 0 ≤ top (get_or ls i 0)
within-at [] [] w i h = absurd (omega arith)
within-at [] (v ∷ vs) w i h = elim w [ ]
within-at (l ∷ ls) [] w i h = elim w [ ]
within-at (l ∷ ls) (v ∷ vs) w zero h = w.0
within-at (l ∷ ls) (v ∷ vs) w (suc i) h = within-at ls vs w.1 i (omega arith)

-- the values one by one
abbrev pub each : (ℕ → ℕ) → ℕ → List ℕ
each f zero = []
each f (suc n) = f 0 ∷ each (λ i. f (suc i)) n

each-is : (vs : List ℕ) → vs ≡ each (λ i. get_or vs i 0) (length vs)
each-is [] = refl
each-is (v ∷ vs) = ap (λ (t : List ℕ). v ∷ t) (each-is vs)

pub within-each : (ls vs : List ℕ) → Within ls vs → vs ≡ each (λ i. get_or vs i 0) (length ls)
within-each ls vs w = rw (within-length ls vs w) at (each-is vs)

-- ---- the readers of Take, by their limits; take_bits is the field of limit 0
abbrev pub at_most : ℕ → ℕ × List ℕ → Read ℕ
at_most l p = if leb p.0 l then Some p else None

-- more digits make no number smaller
past : (l v : ℕ) (bs : List ℕ) → l < v → (take_digits v bs >>= at_most l) ≡ None
unfolding take_digits
past l v [] h = rw (lt-leb v l h)
past l v (b ∷ bs) h = go (is_decimal b) (ltb (v * 10 + (b - 48)) (2 ^ 64)) (past l (v * 10 + (b - 48)) bs (omega arith))
  where
    go : (x y : Bool) → (take_digits (v * 10 + (b - 48)) bs >>= at_most l) ≡ None
        → ((if x then (if y then take_digits (v * 10 + (b - 48)) bs else None) else Some (v, b ∷ bs)) >>= at_most l) ≡ None
    go true true e = e
    go true false e = refl
    go false y e = rw (lt-leb v l h)

digits-at-most : (l v : ℕ) (bs : List ℕ) → v ≤ l → l ≤ max64 → digits_below (l + 1) v bs ≡ (take_digits v bs >>= at_most l)
unfolding take_digits digits_below
digits-at-most l v [] h m = rw (le-leb v l h)
digits-at-most l v (b ∷ bs) h m = go (is_decimal b) (ltb (v * 10 + (b - 48)) (l + 1)) refl (digits-at-most l (v * 10 + (b - 48)) bs)
  where
    w : ℕ
    w = v * 10 + (b - 48)

    go : (x y : Bool) → ltb w (l + 1) ≡ y → (w ≤ l → l ≤ max64 → digits_below (l + 1) w bs ≡ (take_digits w bs >>= at_most l))
        → (if x then (if y then digits_below (l + 1) w bs else None) else Some (v, b ∷ bs))
        ≡ ((if x then (if ltb w (2 ^ 64) then take_digits w bs else None) else Some (v, b ∷ bs)) >>= at_most l)
    go true true e ih = let n = ltb-true w (l + 1) e in rw (lt-ltb w (2 ^ 64) (omega arith)) (ih (omega arith) m)
    go true false e ih = over (ltb w (2 ^ 64)) (ltb-false w (l + 1) e)
      where
        over : (z : Bool) → l + 1 ≤ w → None ≡ ((if z then take_digits w bs else None) >>= at_most l)
        over true h = sym (past l w bs (omega arith))
        over false h = refl
    go false y e ih = rw (le-leb v l h)

-- within 64 bits, a decimal is taken and its limit is tested: …
pub as-field : (l : ℕ) (bs : List ℕ) → 0 < l → l ≤ max64 → take_as l bs ≡ (take_field bs >>= at_most l)
unfolding take_as take_field decimal_below take_decimal
as-field l bs h m = rw (ne_eqb l 0 (omega arith)) (go (after 32 bs))
  where
    decimal : (bs : List ℕ) → decimal_below (l + 1) bs ≡ (take_decimal bs >>= at_most l)
    decimal [] = refl
    decimal (b ∷ bs) = pick (eqb b 48) (is_decimal b)
      where
        pick : (x y : Bool) → (if x then Some (0, bs) else if y then digits_below (l + 1) 0 (b ∷ bs) else None)
            ≡ ((if x then Some (0, bs) else if y then take_digits 0 (b ∷ bs) else None) >>= at_most l)
        pick true y = rw (le-leb 0 l (omega arith))
        pick false true = digits-at-most l 0 (b ∷ bs) (omega arith) m
        pick false false = refl

    go : (o : Option (List ℕ)) → (o >>= decimal_below (l + 1)) ≡ ((o >>= take_decimal) >>= at_most l)
    go None = refl
    go (Some s) = decimal s

-- … take_field is the field of limit 2 ^ 64 - 1, …
pub as-64 : (bs : List ℕ) → take_as max64 bs ≡ take_field bs
unfolding take_as take_field
as-64 bs = go (after 32 bs)
  where
    go : (o : Option (List ℕ)) → (o >>= decimal_below (2 ^ 64)) ≡ (o >>= take_decimal)
    go None = refl
    go (Some s) = sym (decimal-64 s)

-- … take_narrow that of limit 2 ^ 32 - 1, …
pub as-32 : (bs : List ℕ) → take_as max32 bs ≡ take_narrow bs
unfolding take_narrow
as-32 bs = as-field max32 bs (omega arith) (omega arith) ∙ go (take_field bs)
  where
    go : (o : Read ℕ) → (o >>= at_most max32) ≡ (o >>= (λ p. if ltb p.0 (2 ^ 32) then Some p else None))
    go None = refl
    go (Some p) = let e : leb p.0 max32 ≡ ltb p.0 (2 ^ 32) = grind (arith, nat_tests) in rw e

-- … and take_ticket the fields of limits 2 ^ 64 - 1 and 1
pub ticket-limits : (bs : List ℕ) → take_all (max64 ∷ 1 ∷ []) bs ≡ (take_ticket bs >>= (λ k. option_map (with (ticket_values k.0)) (after 10 k.1)))
unfolding take_all take_ticket
ticket-limits bs = rw (as-64 bs) (go (take_field bs))
  where
    flagged : ℕ → ℕ × List ℕ → Read Ticket
    flagged g f = if leb f.0 1 then Some (record { generation = g; probe = eqb f.0 1 }, f.1) else None

    closed : Ticket × List ℕ → Read (List ℕ)
    closed k = option_map (with (ticket_values k.0)) (after 10 k.1)

    end : (g f : ℕ) (o : Option (List ℕ)) → f ≤ 1
        → option_map (ahead g) (option_map (ahead f) (option_map (with []) o)) ≡ option_map (with (g ∷ bit (eqb f 1) ∷ [])) o
    end g f None h = refl
    end g f (Some rest) h = rw (is-bit f h)

    flag : (g : ℕ) (o : Read ℕ)
        → option_map (ahead g) ((o >>= at_most 1) >>= (λ p. option_map (ahead p.0) (take_all [] p.1))) ≡ ((o >>= flagged g) >>= closed)
    flag g None = refl
    flag g (Some (f, bs)) = pick (leb f 1) refl
      where
        pick : (y : Bool) → leb f 1 ≡ y
            → option_map (ahead g) ((if y then got f bs else None) >>= (λ p. option_map (ahead p.0) (take_all [] p.1)))
            ≡ ((if y then got (record { generation = g; probe = eqb f 1 }) bs else None) >>= closed)
        pick true e = end g f (after 10 bs) (leb-true f 1 e)
        pick false e = refl

    go : (o : Read ℕ) → (o >>= (λ p. option_map (ahead p.0) (take_all (1 ∷ []) p.1)))
        ≡ ((o >>= (λ p. take_field p.1 >>= flagged p.0)) >>= closed)
    go None = refl
    go (Some (g, bs)) = rw (as-field 1 bs (omega arith) (omega arith)) (flag g (take_field bs))

-- ---- the lines of Take, by the limits of their letter

-- the limits of the fields behind a letter: C, R, W, then A and Z, then the calls with a ticket
unfoldable pub limits_of : ℕ → List ℕ
limits_of k =
    if eqb k 67 then max32 ∷ max64 ∷ max32 ∷ max32 ∷ []
    else if eqb k 82 then max32 ∷ 0 ∷ max32 ∷ max64 ∷ max32 ∷ max32 ∷ []
    else if eqb k 87 then max32 ∷ max64 ∷ max64 ∷ max32 ∷ max32 ∷ []
    else if eqb k 65 then []
    else if eqb k 90 then []
    else max64 ∷ 1 ∷ []

-- a header of its parts, and what is left
abbrev pub headed : HeaderPolicy → ℕ → ℕ → ℕ → List ℕ → Read Header
headed p c t r rest = Some (record { policy = p; cooldown_ms = c; trials = t; required = r }, rest)

-- the header of a letter and the values behind it
abbrev pub made_header : ℕ → List ℕ × List ℕ → Read Header
made_header k q =
    if eqb k 67 then headed (Consecutive (get_or q.0 0 0)) (get_or q.0 1 0) (get_or q.0 2 0) (get_or q.0 3 0) q.1
    else if eqb k 82 then headed (Ratio (get_or q.0 0 0) (get_or q.0 1 0) (get_or q.0 2 0)) (get_or q.0 3 0) (get_or q.0 4 0) (get_or q.0 5 0) q.1
    else if eqb k 87 then headed (Windowed (get_or q.0 0 0) (get_or q.0 1 0)) (get_or q.0 2 0) (get_or q.0 3 0) (get_or q.0 4 0) q.1
    else None

-- the order of a letter and the values behind it, and the call of a reading and these
abbrev pub made_order : ℕ → List ℕ → Option Order
made_order k vs =
    if eqb k 65 then Some Admit
    else if eqb k 90 then Some Reset
    else with_ticket k (record { generation = get_or vs 0 0; probe = eqb (get_or vs 1 0) 1 })

abbrev pub called : ℕ → List ℕ → Order → Call × List ℕ
called t rest o = (record { reading = t; order = o }, rest)

abbrev pub made_call : ℕ → ℕ → List ℕ × List ℕ → Read Call
made_call t k q = option_map (called t q.1) (made_order k q.0)

-- what is made of readers in a row, of one field more, of none, and nothing
module _ {B : Type 0} where
  regroup : {A C : Type 0} (o : Option A) (f : A → Option C) (g : C → Option B) → ((o >>= f) >>= g) ≡ (o >>= (λ a. f a >>= g))
  regroup None f g = refl
  regroup (Some a) f g = refl

  more : (l : ℕ) (ls bs : List ℕ) (o : Read ℕ) (g : ℕ × List ℕ → Option B) (f : List ℕ × List ℕ → Option B) → take_as l bs ≡ o
      → ((v : ℕ) (s : List ℕ) → g (v, s) ≡ (take_all ls s >>= (λ q. f (ahead v q)))) → (o >>= g) ≡ (take_all (l ∷ ls) bs >>= f)
  unfolding take_all
  more l ls bs None g f e h = rw e
  more l ls bs (Some (v, s)) g f e h = rw e (h v s ∙ over (take_all ls s))
    where
      over : (o : Read (List ℕ)) → (o >>= (λ q. f (ahead v q))) ≡ (option_map (ahead v) o >>= f)
      over None = refl
      over (Some q) = refl

  none-more : (bs : List ℕ) (g : List ℕ → Option B) (f : List ℕ × List ℕ → Option B) → ((rest : List ℕ) → g rest ≡ f ([], rest))
      → (after 10 bs >>= g) ≡ (take_all [] bs >>= f)
  unfolding take_all
  none-more bs g f h = go (after 10 bs)
    where
      go : (o : Option (List ℕ)) → (o >>= g) ≡ (option_map (with []) o >>= f)
      go None = refl
      go (Some rest) = h rest

  nothing-made : {A : Type 0} (o : Option A) → ◌≡◌ {A = Option B} None (o >>= (λ a. None))
  nothing-made None = refl
  nothing-made (Some a) = refl

-- ---- the header
bits-0 : (bs : List ℕ) → take_as 0 bs ≡ take_bits bs
unfolding take_as
bits-0 bs = refl

-- what every header has behind its policy
abbrev pub others : HeaderPolicy × List ℕ → Read Header
others p = do
  cooldown ← take_field p.1
  trials ← take_narrow cooldown.1
  required ← take_narrow trials.1
  rest ← after 10 required.1
  headed p.0 cooldown.0 trials.0 required.0 rest

others-limits : (p : HeaderPolicy) (bs : List ℕ) (f : List ℕ × List ℕ → Read Header) → ((c t r : ℕ) (rest : List ℕ) → headed p c t r rest ≡ f (c ∷ t ∷ r ∷ [], rest))
    → others (p, bs) ≡ (take_all (max64 ∷ max32 ∷ max32 ∷ []) bs >>= f)
others-limits p bs f h =
    more max64 (max32 ∷ max32 ∷ []) bs (take_field bs) _ f (as-64 bs)
    (λ c s. more max32 (max32 ∷ []) s (take_narrow s) _ _ (as-32 s) (λ t u. more max32 [] u (take_narrow u) _ _ (as-32 u) (λ r w. none-more w _ _ (λ rest. h c t r rest))))

pub consecutive-limits : (bs : List ℕ) → (take_consecutive bs >>= others) ≡ (take_all (limits_of 67) bs >>= made_header 67)
unfolding take_consecutive limits_of
consecutive-limits bs =
    regroup (take_narrow bs) _ others
    ∙ more max32 (max64 ∷ max32 ∷ max32 ∷ []) bs (take_narrow bs) _ (made_header 67) (as-32 bs) (λ n s. others-limits (Consecutive n) s _ (λ c t r rest. refl))

pub ratio-limits : (bs : List ℕ) → (take_ratio bs >>= others) ≡ (take_all (limits_of 82) bs >>= made_header 82)
unfolding take_ratio limits_of
ratio-limits bs =
    regroup (take_narrow bs) _ others
    ∙ more max32 (0 ∷ max32 ∷ max64 ∷ max32 ∷ max32 ∷ []) bs (take_narrow bs) _ (made_header 82) (as-32 bs) (λ w s.
    regroup (take_bits s) _ others
    ∙ more 0 (max32 ∷ max64 ∷ max32 ∷ max32 ∷ []) s (take_bits s) _ _ (bits-0 s) (λ b u.
    regroup (take_narrow u) _ others
    ∙ more max32 (max64 ∷ max32 ∷ max32 ∷ []) u (take_narrow u) _ _ (as-32 u) (λ m v. others-limits (Ratio w b m) v _ (λ c t r rest. refl))))

pub windowed-limits : (bs : List ℕ) → (take_windowed bs >>= others) ≡ (take_all (limits_of 87) bs >>= made_header 87)
unfolding take_windowed limits_of
windowed-limits bs =
    regroup (take_narrow bs) _ others
    ∙ more max32 (max64 ∷ max64 ∷ max32 ∷ max32 ∷ []) bs (take_narrow bs) _ (made_header 87) (as-32 bs) (λ k s.
    regroup (take_field s) _ others
    ∙ more max64 (max64 ∷ max32 ∷ max32 ∷ []) s (take_field s) _ _ (as-64 s) (λ p u. others-limits (Windowed k p) u _ (λ c t r rest. refl)))

-- a header is the fields that its letter's limits say
pub header-limits : (k : ℕ) (bs : List ℕ) → take_header (k ∷ bs) ≡ (take_all (limits_of k) bs >>= made_header k)
unfolding take_header take_policy limits_of
header-limits k bs = go (eqb k 67) (eqb k 82) (eqb k 87)
  where
    call : List ℕ
    call = if eqb k 65 then [] else if eqb k 90 then [] else max64 ∷ 1 ∷ []

    go : (x y z : Bool) → ((if x then take_consecutive bs else if y then take_ratio bs else if z then take_windowed bs else None) >>= others)
        ≡ (take_all (if x then limits_of 67 else if y then limits_of 82 else if z then limits_of 87 else call) bs >>= (λ q. if x then made_header 67 q else if y then made_header 82 q else if z then made_header 87 q else None))
    go true y z = consecutive-limits bs
    go false true z = ratio-limits bs
    go false false true = windowed-limits bs
    go false false false = nothing-made (take_all call bs)

-- ---- a call
-- an order and what is left, and these with the line feed
abbrev beside : List ℕ → Order → Order × List ℕ
beside s = λ o. (o, s)

abbrev pub closed : ℕ → Order × List ℕ → Read Call
closed t o = after 10 o.1 >>= (λ rest. Some (called t rest o.0))

-- a call, behind its reading, is the fields that its letter's limits say
pub order-limits : (t k : ℕ) (bs : List ℕ) → (take_order (k ∷ bs) >>= closed t) ≡ (take_all (limits_of k) bs >>= made_call t k)
unfolding take_order limits_of
order-limits t k bs = go (eqb k 65) (eqb k 90) (eqb k 67) (eqb k 82) (eqb k 87) refl refl refl refl refl
  where
    -- a letter of a header is no call's
    no-call : (ls : List ℕ) → ((take_ticket bs >>= (λ p. option_map (beside p.1) None)) >>= closed t) ≡ (take_all ls bs >>= (λ q. option_map (called t q.1) None))
    no-call ls = at (take_ticket bs) ∙ nothing-made (take_all ls bs)
      where
        at : (o : Read Ticket) → ((o >>= (λ p. option_map (beside p.1) None)) >>= closed t) ≡ None
        at None = refl
        at (Some p) = refl

    ticketed : (W : Ticket → Option Order)
        → ((take_ticket bs >>= (λ p. option_map (beside p.1) (W p.0))) >>= closed t)
        ≡ (take_all (max64 ∷ 1 ∷ []) bs >>= (λ q. option_map (called t q.1) (W (record { generation = get_or q.0 0 0; probe = eqb (get_or q.0 1 0) 1 }))))
    ticketed W = rw (ticket-limits bs) (at (take_ticket bs))
      where
        made : List ℕ × List ℕ → Read Call
        made q = option_map (called t q.1) (W (record { generation = get_or q.0 0 0; probe = eqb (get_or q.0 1 0) 1 }))

        both : (k : Ticket) (s : List ℕ) (w : Option Order) → (option_map (beside s) w >>= closed t) ≡ (option_map (with (ticket_values k)) (after 10 s) >>= (λ q. option_map (called t q.1) w))
        both k s None = nothing-made (option_map (with (ticket_values k)) (after 10 s))
        both k s (Some x) = over (after 10 s)
          where
            over : (o : Option (List ℕ)) → (o >>= (λ rest. Some (called t rest x))) ≡ (option_map (with (ticket_values k)) o >>= (λ q. Some (called t q.1 x)))
            over None = refl
            over (Some rest) = refl

        same : (k : Ticket) (o : Option (List ℕ)) → (option_map (with (ticket_values k)) o >>= (λ q. option_map (called t q.1) (W k))) ≡ (option_map (with (ticket_values k)) o >>= made)
        same k None = refl
        same k (Some rest) = rw (bit-back k.probe)

        at : (o : Read Ticket) → ((o >>= (λ p. option_map (beside p.1) (W p.0))) >>= closed t) ≡ ((o >>= (λ k. option_map (with (ticket_values k.0)) (after 10 k.1))) >>= made)
        at None = refl
        at (Some (k, s)) = both k s (W k) ∙ same k (after 10 s)

    other : (v w x y z : Bool) → v ≡ false → w ≡ false → x ≡ false → y ≡ false → z ≡ false
        → ((if v then Some (Admit, bs) else if w then Some (Reset, bs) else take_ticketed k bs) >>= closed t)
        ≡ (take_all (if x then limits_of 67 else if y then limits_of 82 else if z then limits_of 87 else if v then [] else if w then [] else max64 ∷ 1 ∷ []) bs
        >>= (λ q. option_map (called t q.1) (if v then Some Admit else if w then Some Reset else with_ticket k (record { generation = get_or q.0 0 0; probe = eqb (get_or q.0 1 0) 1 }))))
    other v w x y z a b c d e = rw (a, b, c, d, e) (ticketed (with_ticket k))

    go : (v w x y z : Bool) → eqb k 65 ≡ v → eqb k 90 ≡ w → eqb k 67 ≡ x → eqb k 82 ≡ y → eqb k 87 ≡ z → (take_order (k ∷ bs) >>= closed t) ≡ (take_all (limits_of k) bs >>= made_call t k)
    go true w x y z a b c d e = rw (eqb-true k 65 a) (none-more bs _ (made_call t 65) (λ rest. refl))
    go false true x y z a b c d e = rw (eqb-true k 90 b) (none-more bs _ (made_call t 90) (λ rest. refl))
    go false false true y z a b c d e = rw (eqb-true k 67 c) (no-call (limits_of 67))
    go false false false true z a b c d e = rw (eqb-true k 82 d) (no-call (limits_of 82))
    go false false false false true a b c d e = rw (eqb-true k 87 e) (no-call (limits_of 87))
    go false false false false false a b c d e = other (eqb k 65) (eqb k 90) (eqb k 67) (eqb k 82) (eqb k 87) a b c d e
