-- `body::save::write` meets its contract: name, record and list, one after another. Assumes nothing.
use Rattle.std.proofs.Common.{take, ap, ◌∙◌, arith}
use Rattle.le_bytes.specs.Bytes.{put_items}
use Rattle.body.specs.Save.{item_width}
use Rattle.history.specs.declared.Items.{Items}
use Rattle.body.proofs.Records.{room-widths}
use Rattle.body.proofs.Saves.{save-by}
use Rattle.body.proofs.save.write.Goals as goal

pub put_record-requires : goal.put_record-requires
put_record-requires c = omega (arith, c.copy.auto.out, c.size.ensures, c.if-size-out.true, room-widths)

pub returns-then-size-out : goal.returns-then-size-out
returns-then-size-out c =
    save-by c.args.name.now c.args.b c.args.list.now c.args.out.now c.copy.new.out c.put_record.new.out c.put_list.new.out c.if-name-eq-NAME.true c.if-n-list.true
    (omega (arith, c.size.ensures, c.if-size-out.true)) c.copy.ensures c.put_record.ensures
    (c.put_list.ensures ∙ ap (λ (i : Items). put_items 86 (item_width i) (take c.args.b.shared.len c.args.list.now) c.put_record.new.out) c.items_of.ensures)
