-- `journal::write::write_fields`: the fields behind the loop are laid.
use Rattle.std.proofs.Common.{◌≡◌, ◌+◌, length, take}
use Rattle.lines.specs.Print.{print_fields}
use Rattle.journal.specs.Laid.{laid}
use Rattle.journal.proofs.write.write_fields.Given as goal

abbrev pub invariant-loop-value : goal.invariant-loop-value
invariant-loop-value l =
    (l.next ≡ l.at + length (print_fields (take l.value-index l.values))) × (l.out ≡ laid l.at (print_fields (take l.value-index l.values)) l.initial.out)
