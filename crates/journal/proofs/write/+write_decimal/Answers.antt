-- `journal::write::write_decimal` meets its contract: a digit, or what stands before the last one and then that. Assumes nothing.
use Rattle.std.proofs.Common.{◌+◌, ◌<◌, ◌/◌, ◌%◌, length, arith}
use Rattle.lines.specs.Print.{print_decimal}
use Rattle.lines.proofs.Numbers.{print-digit, print-more}
use Rattle.journal.proofs.Laid.{set-laid, laid-set, length-digit, length_more}
use Rattle.journal.proofs.write.+write_decimal.Goals as goal

pub bounds-out-at : goal.bounds-out-at
bounds-out-at t c = omega (arith, c.requires, length-digit c.args.n c.if-n-lt10.true)

pub returns-then-n-lt10-clause-value : goal.returns-then-n-lt10-clause-value
returns-then-n-lt10-clause-value t c = omega (arith, length-digit c.args.n c.if-n-lt10.true)

pub returns-then-n-lt10-clause-out_after : goal.returns-then-n-lt10-clause-out_after
returns-then-n-lt10-clause-out_after t c =
    let a = c.args in
    let h : a.at < length a.out.now = omega (arith, c.requires, length-digit a.n c.if-n-lt10.true) in
    rw (print-digit a.n c.if-n-lt10.true) (set-laid a.out.now a.at (48 + a.n) h)

pub write_decimal-next-requires : goal.write_decimal-next-requires
write_decimal-next-requires t c =
    (omega (arith, c.decreases, c.if-n-lt10.false), omega (arith, c.requires, length_more c.args.n c.if-n-lt10.false))

pub bounds-out-next : goal.bounds-out-next
bounds-out-next t c =
    let w = c.write_decimal-next in
    omega (arith, c.requires, w.ensures.value, w.auto.out, length_more c.args.n c.if-n-lt10.false)

pub returns-clause-value : goal.returns-clause-value
returns-clause-value t c = omega (arith, c.write_decimal-next.ensures.value, length_more c.args.n c.if-n-lt10.false)

pub returns-clause-out_after : goal.returns-clause-out_after
returns-clause-out_after t c =
    let a = c.args in
    let w = c.write_decimal-next in
    let l = length_more a.n c.if-n-lt10.false in
    rw (print-more a.n c.if-n-lt10.false, w.ensures.out_after, w.ensures.value) (laid-set a.out.now a.at (print_decimal (a.n / 10)) (48 + a.n % 10) (omega (arith, c.requires, l)))
