-- `body::save::list_in` meets its contract: every place is cleared, then the items are read. Assumes nothing.
use Rattle.std.proofs.Common.{ℕ, ◌≡◌, sym, ap, ◌∙◌, arith, rules, length, replicate}
use Rattle.breaker.specs.declared.Breaker.{Breaker}
use Rattle.body.proofs.Saves.{list-read-as, good-most}
use Rattle.body.proofs.save.list_in.Goals as goal

pub returns-then-n-le-PLACES : goal.returns-then-n-le-PLACES
returns-then-n-le-PLACES c =
    λ x g e q l.
    let z : c.fill.new.self ≡ replicate (length c.args.list.now) 0 = search rules in
    list-read-as x g c.args.b c.args.s.now c.fill.new.self c.get_list.new.items e q (z ∙ ap (λ (n : ℕ). replicate n 0) l)
    (rw c.items_of.ensures at c.get_list.ensures)

pub returns-else-list-eq-PLACES : goal.returns-else-list-eq-PLACES
returns-else-list-eq-PLACES c = λ x g e q l.
    let n : c.args.b.shared.len ≡ x.breaker.shared.len = ap (λ (b : Breaker). b.shared.len) (sym q) in
    absurd (grind (arith, good-most x g))
