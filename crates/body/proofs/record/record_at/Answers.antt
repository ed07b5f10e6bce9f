-- `body::record::record_at` meets its contract. Assumes nothing.
use Rattle.std.proofs.Common.{arith, ap, ◌∙◌}
use Rattle.le_bytes.proofs.Little.{bytes-all}
use Rattle.body.specs.Record.{breaker_of}
use Rattle.body.proofs.Records.{read_none, read_more, read_all, read_fit}
use Rattle.body.proofs.record.record_at.Goals as goal

pub loop-i-init : goal.loop-i-init
loop-i-init c = read_none c.args.s.now _ c.args.at cc

pub loop-i-preserved : goal.loop-i-preserved
loop-i-preserved c = read_more c.args.s.now c.loop-i.values c.args.at c.loop-i.i c.loop-i.next c.number_at.result c.loop-i.invariant c.requires c.loop-i-test.true c.number_at.ensures

pub invariant_of-breaker : goal.invariant_of-breaker
invariant_of-breaker c = record { fit = read_fit c.args.s.now c.loop-i.values c.args.at (bytes-all c.args.s.now (λ i. omega (arith, c.type_inv.s i))) c.requires (read_all c.args.s.now c.loop-i.values c.args.at c.loop-i.i c.loop-i.next c.loop-i.invariant c.loop-i-test.false) }

pub returns : goal.returns
returns c = c.breaker.ensures ∙ ap breaker_of (read_all c.args.s.now c.loop-i.values c.args.at c.loop-i.i c.loop-i.next c.loop-i.invariant c.loop-i-test.false)
