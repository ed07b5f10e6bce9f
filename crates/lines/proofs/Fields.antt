-- Laws of the fields: what is printed is taken again, and what is taken was printed. Assumes nothing.
use Rattle.std.proofs.Common.{◌≡◌, ℕ, zero, suc, ◌^◌, ◌≤◌, ◌<◌, leb, eqb, List, [], ◌∷◌, ◌++◌, append_assoc, Some, refl, sym, ap, ◌∙◌, arith, leb-true}
use Rattle.error.specs.Choice.{bit}
use Rattle.breaker.specs.declared.Ticket.{Ticket}
use Rattle.breaker.specs.Answers.{ticket_values}
use Rattle.lines.specs.Print.{print_decimal, print_hex16, print_fields, AllFit}
use Rattle.lines.specs.Take.{after, take_decimal, take_hex, take_field, take_bits, take_ticket}
use Rattle.lines.proofs.After.{bound-back, tested-back, after-back}
use Rattle.lines.proofs.Numbers.{number-back, hex16-there, hex16-back}

-- ---- there
pub bits-there : (v : ℕ) (rest : List ℕ) → v < 2 ^ 64 → take_bits (32 ∷ (print_hex16 v ++ rest)) ≡ Some (v, rest)
unfolding take_bits after
bits-there v rest h = hex16-there v rest h

-- a ticket's fields with what follows them
pub two-fields : (x y : ℕ) (rest : List ℕ) → print_fields (x ∷ y ∷ []) ++ rest ≡ 32 ∷ (print_decimal x ++ (32 ∷ (print_decimal y ++ rest)))
unfolding print_fields
two-fields x y rest = simp append_assoc

-- ---- back
pub field_back : (bs : List ℕ) (v : ℕ) (rest : List ℕ) → take_field bs ≡ Some (v, rest) → (v < 2 ^ 64) × (bs ≡ 32 ∷ (print_decimal v ++ rest))
unfolding take_field
field_back bs v rest e =
    let a = bound-back (after 32 bs) take_decimal (v, rest) e in
    let n = number-back a.0 v rest a.2 in
    (n.0, cc (after-back 32 bs a.0 a.1, n.1))

pub bits-back : (bs : List ℕ) (v : ℕ) (rest : List ℕ) → take_bits bs ≡ Some (v, rest) → (v < 2 ^ 64) × (bs ≡ 32 ∷ (print_hex16 v ++ rest))
unfolding take_bits
bits-back bs v rest e =
    let a = bound-back (after 32 bs) (take_hex 16 0) (v, rest) e in
    let n = hex16-back a.0 v rest a.2 in
    (n.0, cc (after-back 32 bs a.0 a.1, n.1))

pub is-bit : (n : ℕ) → n ≤ 1 → bit (eqb n 1) ≡ n
is-bit zero h = refl
is-bit (suc zero) h = refl
is-bit (suc (suc n)) h = absurd (omega arith)

pub ticket-back : (bs : List ℕ) (k : Ticket) (rest : List ℕ) → take_ticket bs ≡ Some (k, rest) → AllFit (ticket_values k) × (bs ≡ print_fields (ticket_values k) ++ rest)
unfolding take_ticket
ticket-back bs k rest e =
    let a = bound-back (take_field bs) _ (k, rest) e in
    let b = bound-back (take_field a.0.1) _ (k, rest) a.2 in
    let t = tested-back (leb b.0.0 1) (record { generation = a.0.0; probe = eqb b.0.0 1 }, b.0.1) (k, rest) b.2 in
    let f = field_back bs a.0.0 a.0.1 a.1 in
    let h = field_back a.0.1 b.0.0 b.0.1 b.1 in
    let q : a.0.0 ≡ k.generation = ap (λ (x : Ticket × List ℕ). x.0.generation) t.1 in
    let m : b.0.0 ≡ bit k.probe = sym (is-bit b.0.0 (leb-true b.0.0 1 t.0)) ∙ ap (λ (x : Ticket × List ℕ). bit x.0.probe) t.1 in
    let r : b.0.1 ≡ rest = ap (λ (x : Ticket × List ℕ). x.1) t.1 in
    ((omega (arith, f.0), (omega (arith, h.0), tt)), rw (two-fields k.generation (bit k.probe) rest) (cc (f.1, h.1, q, m, r)))
