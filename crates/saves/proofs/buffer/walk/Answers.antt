-- `saves::buffer::walk` meets its contract. Assumes nothing.
use Rattle.std.proofs.Common.{refl, ℕ, ◌≡◌, ◌+◌, ◌*◌, Option, Some, drop, set, sym, subst, ◌∙◌, if◌then◌else◌, arith, rules, length-set}
use Rattle.history.proofs.Laws.{take_rest}
use Rattle.error.proofs.Passed.{passed}
use Rattle.saves.specs.declared.Stands.{Stands}
use Rattle.saves.specs.Look.{StandsAs, is_listed, is_asked}
use Rattle.saves.proofs.Walking.{Behind, behind-none, stands-none, stands-there, sums-behind, walk-wrong, walk-twice, walk-on, walk-done}
use Rattle.saves.proofs.buffer.walk.Goals.{After-save_at, In_ok-name, then-eq, else-eq}
use Rattle.saves.proofs.buffer.walk.Goals as goal

pub loop-at-init : goal.loop-at-init
loop-at-init c = (search rules, search rules, search rules, behind-none c.args.s.now c.args.asked _)

pub save_at-requires : goal.save_at-requires
save_at-requires c = rw take_rest (sums-behind c.args.s.now c.loop-at.at c.loop-at.invariant.2 (omega (arith, c.loop-at-test.true)) c.requires.1)

-- what stands at the place reached
stood : (c : After-save_at) → StandsAs (drop c.loop-at.at c.args.s.now) c.save_at.result
stood c = rw (take_rest c.loop-at.at c.args.s.now) at c.save_at.ensures.1

pub returns-in_err-name : goal.returns-in_err-name
returns-in_err-name c =
    let S : Option Stands → Type 0 = λ r. StandsAs (drop c.loop-at.at c.args.s.now) r in
    let n = stands-none c.save_at.result c.in_err-name.field-0.0 (sym c.ok_or.ensures.value ∙ c.in_err-name.was) in
    rw (passed c.from_residual.result c.in_err-name.field-0.0 c.from_residual.ensures) (
      n.1,
      walk-wrong c.args.s.now c.args.asked c.loop-at.names c.loop-at.count c.loop-at.at c.loop-at.place c.loop-at.invariant.3 c.loop-at-test.true
          (subst S n.0 (stood (goal.at.returns-in_err-name c).After-save_at)),
    )

-- what it is
it : (c : In_ok-name) → StandsAs (drop c.loop-at.at c.args.s.now) (Some c.in_ok-name.field-0)
it c =
    let S : Option Stands → Type 0 = λ r. StandsAs (drop c.loop-at.at c.args.s.now) r in
    subst S (stands-there c.save_at.result c.in_ok-name.field-0 (sym c.ok_or.ensures.value ∙ c.in_ok-name.was)) (rw (take_rest c.loop-at.at c.args.s.now) at c.save_at.ensures.1)

pub returns-then-contains : goal.returns-then-contains
unfolding is_listed
returns-then-contains c = (
  refl,
  walk-twice c.args.s.now c.args.asked c.loop-at.names c.loop-at.count c.loop-at.at c.loop-at.place c.loop-at.invariant.3 c.in_ok-name.field-0
      (it (goal.at.returns-then-contains c).In_ok-name) (sym c.contains.ensures.value ∙ c.if-contains.true),
)

pub loop-at-preserved : goal.loop-at-preserved
unfolding is_listed
loop-at-preserved c =
    let x = c.in_ok-name.field-0 in
    let next : c.if-eq.place ≡ (if is_asked c.args.asked x.name then Some c.loop-at.at else c.loop-at.place) =
    elim c.if-eq.branch [ then-eq w ↦ rw (sym w.if-eq.ensures) w.place-is | else-eq w ↦ rw (sym w.if-eq.ensures) w.place-is ] in
    let P : ℕ → Type 0 = λ n. Behind c.args.s.now c.args.asked (set c.loop-at.names c.loop-at.count x.name) (c.loop-at.count + 1) (c.loop-at.at + 512 * n) c.if-eq.place in (
      simp length-set c.loop-at.invariant.0,
      search rules,
      search rules,
      subst P (sym c.count_of.ensures)
          (walk-on c.args.s.now c.args.asked c.loop-at.names c.loop-at.count c.loop-at.at c.loop-at.place c.loop-at.invariant.3 x
          (it (goal.at.loop-at-preserved c).In_ok-name) (sym c.contains.ensures.value ∙ c.if-contains.false)
          (omega arith) c.if-eq.place next),
    )

pub returns : goal.returns
returns c = walk-done c.args.s.now c.args.asked c.loop-at.names c.loop-at.count c.loop-at.at c.loop-at.place c.loop-at.invariant.3 c.loop-at-test.false
