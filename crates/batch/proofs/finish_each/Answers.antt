-- `batch::finish_each` meets its contract: the turn of its loop, by how the call was made. Assumes nothing.
use Rattle.std.proofs.Common.{refl, ◌∙◌, arith, length-set, get_or}
use Rattle.error.specs.Choice.{flag_of}
use Rattle.error.specs.Told.{nothing, refused}
use Rattle.error.proofs.Choice.{flag-no, flag-yes}
use Rattle.breaker.specs.Batch.{slices}
use Rattle.breaker.specs.declared.Ticket.{Ticket}
use Rattle.outcomes.proofs.Settling.{settle-stale, settle-refused, settle-counted, settle-tripped}
use Rattle.batch.proofs.Sequences.{so_far, call-settles, call-aborts, turn-first, turn-sound, turn_more}
use Rattle.batch.proofs.finish_each.Goals.{then-not-settle, else-not-settle+then-b-ne-CLOSED, else-not-settle+else-b-ne-CLOSED+then-ticket-b, else-not-settle+else-b-ne-CLOSED+else-ticket-b+in-Ok-Counted, else-not-settle+else-b-ne-CLOSED+else-ticket-b+in-Ok-Tripped, else-not-settle+else-b-ne-CLOSED+else-ticket-b+in-Err}
use Rattle.batch.proofs.finish_each.Goals as goal

pub loop-i-init : goal.loop-i-init
loop-i-init c = record {
  turn = turn-first (slices c.args.generations.now c.args.probes.now c.args.settles.now c.args.marks.now) c.args.now_ms c.args.start c.args.list.now c.requires.sound_start c.args.answers.now;
  places = refl;
  answers = refl;
}

pub loop-i-preserved : goal.loop-i-preserved
loop-i-preserved c =
    let x = slices c.args.generations.now c.args.probes.now c.args.settles.now c.args.marks.now in
    let cfg = c.args.start.config in
    let st = (so_far x c.args.now_ms c.args.start c.args.list.now c.loop-i.i).after in
    let ok = turn-sound x c.args.now_ms c.args.start c.args.list.now c.requires.sound_start c.loop-i.invariant.turn in
    let h = c.loop-i.invariant.turn.held in
    let t : Ticket = record { generation = get_or x.generations c.loop-i.i 0; probe = flag_of (get_or x.probes c.loop-i.i 0) } in
    let n = get_or x.settles c.loop-i.i 0 in
    let m = flag_of (get_or x.marks c.loop-i.i 0) in
    let more = turn_more x c.args.now_ms c.args.start c.args.list.now c.loop-i.invariant.turn (omega (arith, c.requires.equal_lengths, c.loop-i-test.true)) in
    let settles = call-settles cfg st c.args.now_ms t m (flag_of n) in
    elim c.if-not-settle.branch [
      | then-not-settle w ↦ rw (w.list-is, w.answers-is, w.b-is) record {
        turn = more nothing w.abort_locked-b.result c.loop-i.list 0
            (call-aborts cfg st c.args.now_ms t m (flag_of n) (flag-no n w.if-not-settle.true) c.loop-i.list w.abort_locked-b.result (w.abort_locked-b.ensures cfg st h.0) h.1) refl;
        places = c.loop-i.invariant.places;
        answers = simp length-set c.loop-i.invariant.answers;
      }
      | else-not-settle+then-b-ne-CLOSED w ↦ rw (w.list-is, w.answers-is, w.b-is) record {
        turn = more nothing w.settle_unclosed-b.result w.settle_unclosed-b.new.list 0
            (settles (flag-yes n w.if-not-settle.false) _ (w.settle_unclosed-b.ensures w.if-b-ne-CLOSED.true ok cfg st h)) refl;
        places = w.settle_unclosed-b.auto.list ∙ c.loop-i.invariant.places;
        answers = simp length-set c.loop-i.invariant.answers;
      }
      | else-not-settle+else-b-ne-CLOSED+then-ticket-b w ↦ rw (w.list-is, w.answers-is, w.b-is) record {
        turn = more nothing c.loop-i.b c.loop-i.list 0
            (settles (flag-yes n w.if-not-settle.false) _ (settle-stale c.loop-i.b c.loop-i.list cfg st c.args.now_ms t m h w.if-ticket-b.true)) refl;
        places = c.loop-i.invariant.places;
        answers = simp length-set c.loop-i.invariant.answers;
      }
      | else-not-settle+else-b-ne-CLOSED+else-ticket-b+in-Ok-Counted w ↦
          let d = rw (w.in-Ok-Counted.is, w.in-Ok-Counted.field-0-is) at (w.settle_closed.ensures ok cfg st h) in
          rw (w.list-is, w.answers-is, w.b-is) record {
            turn = more nothing w.with_history-b.result w.settle_closed.new.list 0
                (settles (flag-yes n w.if-not-settle.false) _
                (settle-counted c.loop-i.b c.loop-i.list cfg st c.args.now_ms t m h w.if-ticket-b.false w.if-b-ne-CLOSED.false w.settle_closed.new.list w.in-Ok-Counted.change d.0 d.1
                w.with_history-b.result (λ ys e. w.with_history-b.ensures ys e cfg st h.0))) refl;
            places = w.settle_closed.auto.list ∙ c.loop-i.invariant.places;
            answers = simp length-set c.loop-i.invariant.answers;
          }
      | else-not-settle+else-b-ne-CLOSED+else-ticket-b+in-Ok-Tripped w ↦
          let d = rw (w.in-Ok-Tripped.is, w.in-Ok-Tripped.field-0-is) at (w.settle_closed.ensures ok cfg st h) in
          rw (w.list-is, w.answers-is, w.b-is) record {
            turn = more nothing w.opened-b.result w.settle_closed.new.list 0
                (settles (flag-yes n w.if-not-settle.false) _
                (settle-tripped c.loop-i.b c.loop-i.list cfg st c.args.now_ms t m h w.if-ticket-b.false w.if-b-ne-CLOSED.false w.settle_closed.new.list w.in-Ok-Tripped.change d.0 d.1
                w.with_history.result w.opened-b.result (λ ys e. w.with_history.ensures ys e cfg st h.0) (λ u e. w.opened-b.ensures cfg u e))) refl;
            places = w.settle_closed.auto.list ∙ c.loop-i.invariant.places;
            answers = simp length-set c.loop-i.invariant.answers;
          }
      | else-not-settle+else-b-ne-CLOSED+else-ticket-b+in-Err w ↦
          let d = rw w.in-Err.is at (w.settle_closed.ensures ok cfg st h) in
          rw (w.list-is, w.answers-is, w.b-is) record {
            turn = more (refused w.in-Err.refusal) c.loop-i.b w.settle_closed.new.list w.from.result
                (settles (flag-yes n w.if-not-settle.false) _
                (settle-refused c.loop-i.b c.loop-i.list cfg st c.args.now_ms t m h w.if-ticket-b.false w.if-b-ne-CLOSED.false w.settle_closed.new.list w.in-Err.refusal d.0 d.1)) (w.from.ensures ∙ w.number.ensures);
            places = w.settle_closed.auto.list ∙ c.loop-i.invariant.places;
            answers = simp length-set c.loop-i.invariant.answers;
          }
    ]
