-- `outcomes::decide::decide_time` meets its contract: what is before the cutoff goes, and the readings that stay are counted. Assumes nothing.
use Prim.Native.Nat.{ℕ, ◌+◌, ◌-◌, ◌^◌, min}
use native.Mathlib.Omega.{arith}
use mathlib.Core.Path.{◌≡◌, ap, ap₂, ◌∙◌}
use mathlib.Core.List.{List}
use lib.Dec.{leb}
use lib.ListN.{drop, length-drop}
use Rattle.history.specs.Items.{evicted, recent}
use Rattle.history.proofs.Counts.{count-le}
use Rattle.trip.specs.declared.Config.{Config}
use Rattle.breaker.specs.declared.Breaker.{Breaker}
use Rattle.breaker.specs.Record.{State, settings, sound}
use mathlib.Core.Bool.{true}
use Rattle.steps.specs.Steps.{Holds}
use Rattle.outcomes.proofs.Deciding.{failure-counted, has-length, seen, time-good, time-full, time-failed}
use Rattle.outcomes.proofs.decide.decide_time.Goals.{After-count_expired-gone}
use Rattle.outcomes.proofs.decide.decide_time.Goals as goal

cut : (c : After-count_expired-gone) (cfg : Config) (st : State) → Holds cfg st c.args.b c.args.list.now → c.cutoff-cutoff.result ≡ c.args.now_ms - cfg.period_ms
cut c cfg st h =
    c.cutoff-cutoff.ensures ∙ ap (λ (x : Breaker). c.args.now_ms - x.config.period_ms) h.0

goes : (c : After-count_expired-gone) (ok : sound c.args.b c.args.list.now ≡ true) (cfg : Config) (st : State) → Holds cfg st c.args.b c.args.list.now
    → drop c.count_expired-gone.result st.list ≡ evicted (c.args.now_ms - cfg.period_ms) st.list
goes c ok cfg st h =
    rw (seen c.args.b c.args.list.now cfg st h ok, cut c cfg st h) at c.count_expired-gone.ensures.0

pub returns-then-success : goal.returns-then-success
returns-then-success c =
    λ ok cfg st h p.
    let n = has-length c.args.b c.args.list.now cfg st h ok in
    rw c.if-success.true (time-good (settings cfg) st c.args.now_ms cfg.limit cfg.period_ms p c.count_expired-gone.result (goes (goal.at.returns-then-success c).After-count_expired-gone ok cfg st h) _ (omega (arith, length-drop c.count_expired-gone.result st.list, n)))

pub returns-then-stay-ge-MOST_ITEMS : goal.returns-then-stay-ge-MOST_ITEMS
returns-then-stay-ge-MOST_ITEMS c =
    λ ok cfg st h p.
    let n = has-length c.args.b c.args.list.now cfg st h ok in
    rw c.if-success.false (time-full (settings cfg) st c.args.now_ms cfg.limit cfg.period_ms p c.count_expired-gone.result (goes (goal.at.returns-then-stay-ge-MOST_ITEMS c).After-count_expired-gone ok cfg st h) (omega (arith, length-drop c.count_expired-gone.result st.list, n, c.if-stay-ge-MOST_ITEMS.true)))

pub returns : goal.returns
returns c =
    λ ok cfg st h p.
    let n = has-length c.args.b c.args.list.now cfg st h ok in
    let l = length-drop c.count_expired-gone.result st.list in
    let q : c.count_recent-recent.result ≡ recent (c.args.now_ms - cfg.period_ms) (drop c.count_expired-gone.result st.list) =
    c.count_recent-recent.ensures ∙ ap₂ (λ (x : ℕ) (xs : List ℕ). recent x (drop c.count_expired-gone.result xs)) (cut (goal.at.returns c).After-count_expired-gone cfg st h) (seen c.args.b c.args.list.now cfg st h ok) in
    failure-counted (settings cfg) c.args.now_ms st c.args.success _ _ _ c.counted.ensures c.if-success.false
    (time-failed (settings cfg) st c.args.now_ms cfg.limit cfg.period_ms p c.count_expired-gone.result (goes (goal.at.returns c).After-count_expired-gone ok cfg st h) (omega (arith, l, n, c.if-stay-ge-MOST_ITEMS.false)) c.saturating_add.result _ c.saturating_add-2.result c.times_trip.result
    (c.saturating_add.ensures ∙ ap (λ (x : Breaker). min (x.shared.run + 1) (2 ^ 32 - 1)) h.0) (omega (arith, l, n))
    (omega (arith, c.saturating_add-2.ensures, q, l, n, c.if-stay-ge-MOST_ITEMS.false, count-le (λ t. leb (c.args.now_ms - cfg.period_ms) t) (drop c.count_expired-gone.result st.list)))
    (c.times_trip.ensures ∙ ap (λ (x : Breaker). leb x.config.limit c.saturating_add-2.result) h.0))
