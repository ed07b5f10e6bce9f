-- `checkpoints::calls::save` meets its contract: the tests, the look, then the save. Assumes nothing.
use Rattle.std.proofs.Common.{◌≡◌, [], Result, Ok, Option, ℕ, sym, ap, subst, ◌∙◌}
use Rattle.error.specs.declared.Refusal.{Refusal}
use Rattle.error.specs.Told.{refused}
use Rattle.breaker.proofs.Guard.{guarded-refused, guarded-done, tested-sound}
use Rattle.saves.specs.Buffer.{is_there, saves}
use Rattle.saves.specs.Look.{LookedAs}
use Rattle.error.proofs.Passed.{passed}
use Rattle.checkpoints.specs.Calls.{save_after}
use Rattle.saves.proofs.Walks.{there-append}
use Rattle.checkpoints.proofs.Making.{refused-unsound, read-frame, saved-there}
use Rattle.checkpoints.proofs.calls.save.Goals.{After-look}
use Rattle.checkpoints.proofs.calls.save.Goals as goal

-- what the look found
looked : (c : After-look) (l : Result (Option ℕ) Refusal) → c.look.result ≡ l → LookedAs c.args.buffer.now c.args.used c.args.name.now l
looked c l e = subst (λ (x : Result (Option ℕ) Refusal). LookedAs c.args.buffer.now c.args.used c.args.name.now x) e c.look.ensures

pub returns-in_err-test : goal.returns-in_err-test
returns-in_err-test c =
    let e = sym c.in_err-test.was ∙ c.test.ensures in
    rw (passed c.from_residual.result c.in_err-test.field-0.0 c.from_residual.ensures) (
      saves [],
      λ ok. absurd (refused-unsound c.args.breaker c.args.list.now _ e ok),
      guarded-refused (λ r. save_after (refused r) c.args.buffer.now) _ c.args.breaker c.args.list.now _ e,
    )

pub save_new-requires : goal.save_new-requires
save_new-requires c =
    let l = looked (goal.at.save_new-requires c).After-look _ (c.in_ok-look.was ∙ ap Ok c.in-None.is) in
    let f = read-frame c.args.buffer.now c.args.used l.0 l.1 in
    (tested-sound c.args.breaker c.args.list.now (sym c.in_ok-test.was ∙ c.test.ensures), f.0, f.1)

pub returns-in-Some : goal.returns-in-Some
returns-in-Some c =
    let l = looked (goal.at.returns-in-Some c).After-look _ (c.in_ok-look.was ∙ ap Ok c.in-Some.is) in (
      saves l.0,
      λ ok. l.1,
      saved-there c.args.name.now l.0 c.args.breaker c.args.list.now c.args.buffer.now c.args.used (ap (is_there c.args.name.now) l.6 ∙ there-append c.args.name.now l.2 l.3 l.4 l.8)
          ∙ guarded-done (λ r. save_after (refused r) c.args.buffer.now) _ c.args.breaker c.args.list.now (tested-sound c.args.breaker c.args.list.now (sym c.in_ok-test.was ∙ c.test.ensures)),
    )
