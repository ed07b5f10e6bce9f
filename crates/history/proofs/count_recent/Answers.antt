-- `history::count_recent` meets its contract. Assumes nothing.
use Rattle.std.proofs.Common.{◌≡◌, ◌-◌, ◌≤◌, leb, length, drop, subst, arith}
use Rattle.std.proofs.lemmas.List.{drop_min, take_rest}
use Rattle.history.specs.Items.{recent, view}
use Rattle.history.proofs.Laws.{or-small}
use Rattle.history.proofs.Counts.{count-take}
use Rattle.history.proofs.count_recent.Goals.{After-min-k, After-compared}
use Rattle.history.proofs.count_recent.Goals as goal

-- what is counted
part : (c : After-min-k) → recent c.args.cutoff (drop c.min-k.result c.view-times.result.now) ≡ recent c.args.cutoff (drop c.args.first (view c.args.len c.args.list.now))
part c = rw (c.min-k.ensures, c.view-times.ensures.value, drop_min)

pub returns-then-differences-cutoff-eq0 : goal.returns-then-differences-cutoff-eq0
returns-then-differences-cutoff-eq0 c =
    let h = or-small c.differences.result c.args.cutoff c.if-differences-cutoff-eq0.true in
    omega (arith, c.differences.ensures h.0 h.1, part (goal.at.returns-then-differences-cutoff-eq0 c).After-min-k)

-- no more are counted than there are
few : (c : After-compared) → recent c.args.cutoff (drop c.min-k.result c.view-times.result.now) ≤ length c.view-times.result.now - c.min-k.result
few c =
    subst (λ xs. recent c.args.cutoff xs ≤ length c.view-times.result.now - c.min-k.result) (take_rest c.view-times.result.now c.min-k.result)
    (count-take (λ t. leb c.args.cutoff t) (length c.view-times.result.now - c.min-k.result) (drop c.min-k.result c.view-times.result.now))

pub overflow_cast-result-2 : goal.overflow_cast-result-2
overflow_cast-result-2 c = omega (arith, c.compared.ensures, few (goal.at.overflow_cast-result-2 c).After-compared)

pub returns : goal.returns
returns c = omega (arith, c.compared.ensures, few (goal.at.returns c).After-compared, part (goal.at.returns c).After-min-k)
