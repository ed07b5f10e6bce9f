-- `journal::write::write_fields` meets its contract. Assumes nothing.
use Rattle.std.proofs.Common.{◌+◌, ◌≤◌, length, take, get_or, sym, take_all, length-set, length-append, add-zero, arith}
use Rattle.lines.specs.Print.{print_fields, print_decimal}
use Rattle.journal.proofs.Laid.{laid_then, laid_nil, fields-more, fields_fit, fields-short}
use Rattle.journal.proofs.write.write_fields.Goals.{In-loop-value}
use Rattle.journal.proofs.write.write_fields.Goals as goal

pub loop-value-init : goal.loop-value-init
unfolding print_fields
loop-value-init c = (sym (add-zero _), laid_nil c.args.out.now c.args.at)

-- there is room for the next field
fit : (c : In-loop-value) → c.loop-value.next + (1 + length (print_decimal (get_or c.args.values.now c.loop-value.value-index 0))) ≤ length c.loop-value.out
fit c =
    omega (arith, c.requires, fields_fit c.args.values.now c.loop-value.value-index c.loop-value-test.true, fields-short c.args.values.now c.type_inv.values)

pub bounds-out-next : goal.bounds-out-next
bounds-out-next c = omega (arith, fit (goal.at.bounds-out-next c).In-loop-value)

pub write_decimal-next-requires : goal.write_decimal-next-requires
write_decimal-next-requires c = simp length-set (omega (arith, fit (goal.at.write_decimal-next-requires c).In-loop-value))

pub loop-value-preserved : goal.loop-value-preserved
loop-value-preserved c =
    let l = c.loop-value in
    let vs = c.args.values.now in
    let e = fields-more vs l.value-index c.loop-value-test.true in (
      rw (e, length-append) (omega (arith, c.write_decimal-next.ensures.value, l.invariant.0)),
      rw (c.write_decimal-next.ensures.out_after, l.invariant.1, l.invariant.0, e)
          (laid_then c.args.out.now c.args.at (print_fields (take l.value-index vs)) 32 (print_decimal (get_or vs l.value-index 0)) (omega (arith, fit (goal.at.loop-value-preserved c).In-loop-value))),
    )

pub returns-clause-upper_bound : goal.returns-clause-upper_bound
returns-clause-upper_bound c =
    let all = take_all c.loop-value.value-index c.args.values.now (omega (arith, c.loop-value-test.false)) in
    omega (arith, rw all at c.loop-value.invariant.0, fields-short c.args.values.now c.type_inv.values)
