-- `journal::write::write_parts` meets its contract. Assumes nothing.
use Rattle.std.proofs.Common.{arith}
use Rattle.lines.specs.Print.{print_fields}
use Rattle.journal.proofs.Laid.{fields-append, line_laid}
use Rattle.journal.proofs.write.write_parts.Goals as goal

pub returns : goal.returns
returns c =
    let next = c.write_fields-next in
    let end = c.write_fields-end in
    let l = line_laid c.args.out.now next.new.out end.new.out c.args.at next.result end.result c.args.letter (print_fields c.args.own.now) (print_fields c.args.more.now)
    (omega (arith, c.requires, next.ensures, end.ensures)) next.ensures.value next.ensures.out_after end.ensures.value end.ensures.out_after in
    let e = fields-append c.args.own.now c.args.more.now in
    record { value = rw e l.0; out_after = rw e l.1; upper_bound = omega (arith, next.ensures, end.ensures) }
