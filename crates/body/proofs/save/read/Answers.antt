-- `body::save::read` meets its contract: a body passes each test, and what passes all is the body of what is read of it. Assumes nothing.
use Rattle.std.proofs.Common.{◌≡◌, ◌&&◌, Option, drop, sym, ◌∙◌, subst, arith}
use Rattle.history.proofs.Laws.{take_rest}
use Rattle.breaker.specs.declared.Breaker.{Breaker}
use Rattle.breaker.specs.Record.{items_of, sound_record}
use Rattle.le_bytes.proofs.Little.{bytes-all}
use Rattle.body.specs.Save.{BodyRead}
use Rattle.body.proofs.Saves.{is_list, and_on, and_off, read_short, read_unnamed, read_by}
use Rattle.body.proofs.save.read.Goals.{then-s-lt-RECORD_END-via-then-s-lt-RECORD_END, then-s-lt-RECORD_END-via-else-s-lt-RECORD_END+then-not-is_name, then-sound_record, else-sound_record}
use Rattle.body.proofs.save.read.Goals as goal

pub returns-then-s-lt-RECORD_END : goal.returns-then-s-lt-RECORD_END
returns-then-s-lt-RECORD_END c =
    elim c.then-s-lt-RECORD_END.branch [
      | then-s-lt-RECORD_END-via-then-s-lt-RECORD_END w ↦ read_short c.args.s.now w.if-s-lt-RECORD_END.true
      | then-s-lt-RECORD_END-via-else-s-lt-RECORD_END+then-not-is_name w ↦ read_unnamed c.args.s.now (cc)
    ]

pub returns : goal.returns
returns c =
    let b = c.record_at-b.result in
    let t : c.if-sound_record.is_body ≡ (sound_record b && is_list (items_of b.config) b.shared.len (drop 86 c.args.s.now)) =
    elim c.if-sound_record.branch [
      | then-sound_record w ↦ and_on _ _ _ (sym c.sound_record.ensures ∙ w.if-sound_record.true) (w.is_body-is ∙ (rw (take_rest, w.items_of.ensures) at w.is_list-is_body.ensures))
      | else-sound_record w ↦ and_off _ _ _ (sym c.sound_record.ensures ∙ w.if-sound_record.false) (w.is_body-is ∙ w.if-sound_record.false)
    ] in
    let P : Option Breaker → Type 0 = λ r. BodyRead c.args.s.now r in
    subst P (sym c.then_some.ensures)
    (read_by c.args.s.now b c.if-sound_record.is_body (bytes-all c.args.s.now (λ i. omega (arith, c.type_inv.s i))) c.if-s-lt-RECORD_END.false (cc) c.record_at-b.ensures t)
