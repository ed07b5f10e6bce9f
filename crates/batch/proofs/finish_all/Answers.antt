-- `batch::finish_all` meets its contract: the tests in their order, then the calls; and the orders. Assumes nothing.
use Rattle.std.proofs.Common.{◌≡◌, true, false, sym, ◌∙◌, eq-eqb, ne_eqb}
use Rattle.error.proofs.Passed.{passed}
use Rattle.breaker.specs.Batch.{slices, alike}
use Rattle.breaker.proofs.Guard.{tested-sound}
use Rattle.breaker.proofs.Orders.{finishing-orders}
use Rattle.batch.proofs.Sequences.{batch-unlike, batch-refused, batch-done}
use Rattle.batch.proofs.finish_all.Goals.{Else-answers-n, then-probes-n-via-then-probes-n, then-probes-n-via-else-probes-n+then-settles-n, then-probes-n-via-else-probes-n+else-settles-n+then-marks-n, then-probes-n-via-else-probes-n+else-settles-n+else-marks-n+then-answers-n}
use Rattle.batch.proofs.finish_all.Goals as goal

pub returns-then-probes-n : goal.returns-then-probes-n
returns-then-probes-n c =
    let x = slices c.args.generations.now c.args.probes.now c.args.settles.now c.args.marks.now in
    let e : alike x c.args.answers.now ≡ false =
    elim c.then-probes-n.branch [
      | then-probes-n-via-then-probes-n w ↦ simp (ne_eqb _ _ w.if-probes-n.true)
      | then-probes-n-via-else-probes-n+then-settles-n w ↦ simp (eq-eqb _ _ w.if-probes-n.false, ne_eqb _ _ w.if-settles-n.true)
      | then-probes-n-via-else-probes-n+else-settles-n+then-marks-n w ↦ simp (eq-eqb _ _ w.if-probes-n.false, eq-eqb _ _ w.if-settles-n.false, ne_eqb _ _ w.if-marks-n.true)
      | then-probes-n-via-else-probes-n+else-settles-n+else-marks-n+then-answers-n w ↦
          simp (eq-eqb _ _ w.if-probes-n.false, eq-eqb _ _ w.if-settles-n.false, eq-eqb _ _ w.if-marks-n.false, ne_eqb _ _ w.if-answers-n.true)
    ] in
    record {
      answers_after = batch-unlike c.args.now_ms x c.args.breaker c.args.list.now c.args.answers.now e;
      orders = λ ok k. finishing-orders c.args.now_ms c.args.breaker c.args.list.now ok k;
    }

same : (c : Else-answers-n) → alike (slices c.args.generations.now c.args.probes.now c.args.settles.now c.args.marks.now) c.args.answers.now ≡ true
same c = simp (eq-eqb _ _ c.if-probes-n.false, eq-eqb _ _ c.if-settles-n.false, eq-eqb _ _ c.if-marks-n.false, eq-eqb _ _ c.if-answers-n.false)

pub returns-in_err-test : goal.returns-in_err-test
returns-in_err-test c =
    let x = slices c.args.generations.now c.args.probes.now c.args.settles.now c.args.marks.now in
    record {
      answers_after = rw (passed c.from_residual.result c.in_err-test.field-0.0 c.from_residual.ensures)
          (batch-refused c.args.now_ms x c.args.breaker c.args.list.now c.args.answers.now (same (goal.at.returns-in_err-test c).Else-answers-n) c.in_err-test.field-0.0 (sym c.in_err-test.was ∙ c.test.ensures));
      orders = λ ok k. finishing-orders c.args.now_ms c.args.breaker c.args.list.now ok k;
    }

pub finish_each-requires : goal.finish_each-requires
finish_each-requires c = record {
  sound_start = tested-sound c.args.breaker c.args.list.now (sym c.in_ok-test.was ∙ c.test.ensures);
  equal_lengths = (c.if-probes-n.false, c.if-settles-n.false, c.if-marks-n.false, c.if-answers-n.false);
}

pub returns : goal.returns
returns c =
    let x = slices c.args.generations.now c.args.probes.now c.args.settles.now c.args.marks.now in
    record {
      answers_after = c.finish_each.ensures
          ∙ batch-done c.args.now_ms x c.args.breaker c.args.list.now c.args.answers.now (same (goal.at.returns c).Else-answers-n) (tested-sound c.args.breaker c.args.list.now (sym c.in_ok-test.was ∙ c.test.ensures));
      orders = λ ok k. finishing-orders c.args.now_ms c.args.breaker c.args.list.now ok k;
    }
