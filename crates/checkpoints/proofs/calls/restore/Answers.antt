-- `checkpoints::calls::restore` meets its contract: the tests, the look, then the return. Assumes nothing.
use Rattle.std.proofs.Common.{◌≡◌, true, List, [], Result, Ok, Option, ℕ, sym, ap, subst, ◌∙◌, arith}
use Rattle.error.specs.declared.Refusal.{Refusal}
use Rattle.error.specs.Told.{refused}
use Rattle.breaker.specs.Record.{sound}
use Rattle.breaker.specs.Calls.{after}
use Rattle.breaker.proofs.Record.{sound-places}
use Rattle.breaker.proofs.Guard.{guarded-refused, guarded-done, tested-sound}
use Rattle.body.specs.Save.{Save}
use Rattle.saves.specs.Buffer.{saves}
use Rattle.saves.specs.Look.{LookedAs}
use Rattle.error.proofs.Passed.{passed}
use Rattle.saves.proofs.Looking.{middle}
use Rattle.checkpoints.specs.Calls.{came_back}
use Rattle.checkpoints.proofs.Making.{refused-unsound, read-frame, read-summed, back-absent, back_at, place-within, part-run, part-summed}
use Rattle.checkpoints.proofs.calls.restore.Goals.{After-look, In_ok-test}
use Rattle.checkpoints.proofs.calls.restore.Goals as goal

-- what the look found
looked : (c : After-look) (l : Result (Option ℕ) Refusal) → c.look.result ≡ l → LookedAs c.args.buffer.now c.args.used c.args.name.now l
looked c l e = subst (λ (x : Result (Option ℕ) Refusal). LookedAs c.args.buffer.now c.args.used c.args.name.now x) e c.look.ensures

tested : (c : In_ok-test) → sound c.args.breaker c.args.list.now ≡ true
tested c = tested-sound c.args.breaker c.args.list.now (sym c.in_ok-test.was ∙ c.test.ensures)

pub returns-in_err-test : goal.returns-in_err-test
returns-in_err-test c =
    let e = sym c.in_err-test.was ∙ c.test.ensures in
    rw (passed c.from_residual.result c.in_err-test.field-0.0 c.from_residual.ensures) (
      saves [],
      λ ok. absurd (refused-unsound c.args.breaker c.args.list.now _ e ok),
      guarded-refused (λ r. after (refused r) c.args.breaker c.args.list.now) _ c.args.breaker c.args.list.now _ e,
    )

pub returns-in_default : goal.returns-in_default
returns-in_default c =
    let l = looked (goal.at.returns-in_default c).After-look _ (c.in_ok-place.was ∙ ap Ok c.in_default.is) in (
      saves l.0,
      λ ok. l.1,
      back-absent c.args.name.now l.0 c.args.breaker c.args.list.now l.2
          ∙ guarded-done (λ r. after (refused r) c.args.breaker c.args.list.now) _ c.args.breaker c.args.list.now (tested (goal.at.returns-in_default c).In_ok-test),
    )

pub returns-then-used-place : goal.returns-then-used-place
returns-then-used-place c =
    let l = looked (goal.at.returns-then-used-place c).After-look _ (c.in_ok-place.was ∙ ap Ok c.in-Some.is) in
    absurd (omega (arith, c.if-used-place.true, place-within c.args.buffer.now c.args.used c.in-Some.place l.2 l.3 l.4 (read-frame c.args.buffer.now c.args.used l.0 l.1).0 l.7 l.9))

pub slice_bounds-come_back-end : goal.slice_bounds-come_back-end
slice_bounds-come_back-end c =
    let l = looked (goal.at.slice_bounds-come_back-end c).After-look _ (c.in_ok-place.was ∙ ap Ok c.in-Some.is) in
    (read-frame c.args.buffer.now c.args.used l.0 l.1).0

pub come_back-requires : goal.come_back-requires
come_back-requires c =
    let l = looked (goal.at.come_back-requires c).After-look _ (c.in_ok-place.was ∙ ap Ok c.in-Some.is) in
    let f = (read-frame c.args.buffer.now c.args.used l.0 l.1).0 in
    part-summed c.args.buffer.now c.args.used c.in-Some.place l.2 l.3 l.4 f l.7 l.9 (read-summed c.args.buffer.now c.args.used l.0 l.1)

pub returns : goal.returns
returns c =
    let l = looked (goal.at.returns c).After-look _ (c.in_ok-place.was ∙ ap Ok c.in-Some.is) in
    let f = (read-frame c.args.buffer.now c.args.used l.0 l.1).0 in
    let ok = tested (goal.at.returns c).In_ok-test in (
      saves l.0,
      λ ok. l.1,
      c.come_back.ensures l.3 _ (middle l.2 l.3 l.4 l.5) (part-run c.args.buffer.now c.args.used c.in-Some.place l.2 l.3 l.4 f l.7 l.9) (sound-places c.args.breaker c.args.list.now ok)
          ∙ back_at c.args.name.now l.2 l.3 l.4 c.args.breaker c.args.list.now l.5 l.8
          ∙ ap (λ (ss : List Save). came_back c.args.name.now ss c.args.breaker c.args.list.now) (sym l.6)
          ∙ guarded-done (λ r. after (refused r) c.args.breaker c.args.list.now) _ c.args.breaker c.args.list.now ok,
    )
