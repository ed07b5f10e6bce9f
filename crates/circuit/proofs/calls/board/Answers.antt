-- `circuit::calls::board` meets its contract: the figure of the failures that are counted. Assumes nothing.
use Rattle.std.proofs.Common.{◌≡◌, ℕ, ◌≤◌, true, [], ◌∷◌, drop, sym, ap, ◌∙◌, arith}
use Rattle.error.specs.Told.{tell}
use Rattle.history.specs.Items.{failures}
use Rattle.breaker.specs.Record.{state, sound}
use Rattle.breaker.specs.Calls as Calls
use Rattle.breaker.proofs.Guard.{tested-sound, asked-done}
use Rattle.steps.proofs.Holding.{holds}
use Rattle.outcomes.proofs.Deciding.{has-length, failures-counted}
use Rattle.circuit.proofs.Figures.{board-outcomes}
use Rattle.circuit.proofs.calls.board.Goals.{In-Outcomes, After-count_failures-failed}
use Rattle.circuit.proofs.calls.board.Goals as goal

tested : (c : In-Outcomes) → sound c.args.breaker c.args.list.now ≡ true
tested c = tested-sound c.args.breaker c.args.list.now (sym c.in_ok-test.was ∙ c.test.ensures)

counted : (c : After-count_failures-failed) → (c.count_failures-failed.result ≡ failures (drop 0 (state c.args.breaker c.args.list.now).list)) × (c.count_failures-failed.result ≤ 4096)
counted c =
    let b = c.args.breaker in
    let s = c.args.list.now in
    let ok = tested-sound b s (sym c.in_ok-test.was ∙ c.test.ensures) in
    failures-counted b s b.config (state b s) (holds b s ok) ok c.in-Outcomes.field-0 0 (sym c.items_of-items.ensures ∙ c.in-Outcomes.is) c.count_failures-failed.result c.count_failures-failed.ensures

pub overflow_cast-failed : goal.overflow_cast-failed
overflow_cast-failed c = let k = counted (goal.at.overflow_cast-failed c).After-count_failures-failed in omega arith

pub returns-in-Outcomes : goal.returns-in-Outcomes
returns-in-Outcomes c =
    let b = c.args.breaker in
    let s = c.args.list.now in
    let ok = tested (goal.at.returns-in-Outcomes c).In-Outcomes in
    ap (λ (n : ℕ). tell 0 (n ∷ [])) c.board_figure.ensures
    ∙ board-outcomes b.config (state b s) c.in-Outcomes.field-0 (sym c.items_of-items.ensures ∙ c.in-Outcomes.is) c.count_failures-failed.result b.shared.len
    (counted (goal.at.returns-in-Outcomes c).After-count_failures-failed).0 (has-length b s b.config (state b s) (holds b s ok) ok)
    ∙ asked-done Calls.board b s ok
