-- `body::record::put_record` meets its contract. Assumes nothing.
use Rattle.std.proofs.Common.{ℕ, ◌+◌, length, sym, subst, arith, rules}
use Rattle.std.proofs.lemmas.List.{length_push}
use Rattle.std.proofs.lemmas.Slice.Zip.{zip_turn, zip_end}
use Rattle.body.specs.Save.{widths, fields_of}
use Rattle.body.proofs.Records.{PutTo, put_none, put_place, put_more, put_all}
use Rattle.body.proofs.record.put_record.Goals as goal

pub loop-width-init : goal.loop-width-init
loop-width-init c = (search rules, tt, put_none c.args.out.now c.args.at c.args.b)

pub overflow_add-next : goal.overflow_add-next
overflow_add-next c =
    let t = zip_turn widths (fields_of c.args.b) c.loop-width.yielded _ _ c.next.new.self _ (cc) (cc) c.loop-width.yielded_by _ c.in-Some.is c.next.ensures.steps in
    omega (arith, c.well_formed, c.requires, put_place c.args.out.now c.args.at c.args.b c.loop-width.out (length c.loop-width.yielded) c.loop-width.next c.in-Some.width.now c.loop-width.invariant.2 t.0 (t.2 0))

pub loop-width-preserved : goal.loop-width-preserved
loop-width-preserved c =
    let t = zip_turn widths (fields_of c.args.b) c.loop-width.yielded _ _ c.next.new.self _ (cc) (cc) c.loop-width.yielded_by _ c.in-Some.is c.next.ensures.steps in
    let P : ℕ → Type 0 = λ n. PutTo c.args.out.now c.args.at c.args.b c.put_number.new.out n (c.loop-width.next + c.in-Some.width.now) in
    let more = put_more c.args.out.now c.args.at c.args.b c.loop-width.out c.put_number.new.out (length c.loop-width.yielded) c.loop-width.next c.in-Some.width.now c.in-Some.value.now c.loop-width.invariant.2 c.requires t.0 (t.2 0) (t.3 0) c.put_number.ensures in
    (search rules, tt, subst P (sym (length_push c.loop-width.yielded (c.in-Some.width, c.in-Some.value))) more)

pub returns : goal.returns
returns c =
    let t = zip_end widths (fields_of c.args.b) c.loop-width.yielded _ _ c.next.new.self _ (cc) (cc) c.loop-width.yielded_by c.in-None.is c.next.ensures.steps in
    put_all c.args.out.now c.args.at c.args.b c.loop-width.out (length c.loop-width.yielded) c.loop-width.next c.loop-width.invariant.2 (omega arith)
