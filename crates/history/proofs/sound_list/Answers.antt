-- `history::sound_list` meets its contract: its tests are those of the definition. Assumes nothing.
use Rattle.std.proofs.Common.{◌≡◌, ◌&&◌, eqb, length, drop, ◌∙◌, eq-eqb, ne_eqb}
use Rattle.history.specs.Items.{all_below, are_items, fits, sound_list, view}
use Rattle.history.proofs.Sound.{by_tests, no_bits}
use Rattle.history.proofs.sound_list.Goals.{Joined-may_have, then-list-eq-PLACES, else-list-eq-PLACES, then-may_have, else-may_have}
use Rattle.history.proofs.sound_list.Goals as goal

lies : (c : Joined-may_have) → c.if-list-eq-PLACES.value ≡ (eqb (length c.args.list.now) 4096 && fits c.args.items c.args.len)
lies c =
    elim c.if-list-eq-PLACES.branch [
      | then-list-eq-PLACES v ↦ rw (eq-eqb _ _ v.if-list-eq-PLACES.true) (v.value-is ∙ v.may_have.ensures)
      | else-list-eq-PLACES v ↦ rw (ne_eqb _ _ v.if-list-eq-PLACES.false) (v.value-is ∙ ne_eqb _ _ v.if-list-eq-PLACES.false)
    ]

empty : (c : Joined-may_have) → c.if-may_have.value ≡ (c.if-list-eq-PLACES.value && all_below 1 (drop c.args.len c.args.list.now))
empty c =
    elim c.if-may_have.branch [
      | then-may_have w ↦ rw w.if-may_have.true (w.value-is ∙ no_bits w.any_bits.result ∙ w.any_bits.ensures 0)
      | else-may_have w ↦ rw w.if-may_have.false (w.value-is ∙ w.if-may_have.false)
    ]

tested : (c : Joined-may_have) → (c.if-may_have.value && are_items c.args.items (view c.args.len c.args.list.now)) ≡ sound_list c.args.items c.args.len c.args.list.now
tested c = by_tests c.args.items c.args.len c.args.list.now c.if-list-eq-PLACES.value c.if-may_have.value (lies c) (empty c)

pub returns-then-any_bits-eq0 : goal.returns-then-any_bits-eq0
returns-then-any_bits-eq0 c = c.are_items.ensures ∙ rw c.if-any_bits-eq0.true at (tested (goal.at.returns-then-any_bits-eq0 c).Joined-may_have)

pub returns-else-any_bits-eq0 : goal.returns-else-any_bits-eq0
returns-else-any_bits-eq0 c = c.if-any_bits-eq0.false ∙ rw c.if-any_bits-eq0.false at (tested (goal.at.returns-else-any_bits-eq0 c).Joined-may_have)
