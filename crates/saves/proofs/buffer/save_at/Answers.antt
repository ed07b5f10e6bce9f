-- `saves::buffer::save_at` meets its contract: the run that is found, its body joined and read. Assumes nothing.
use Rattle.std.proofs.Common.{ℕ, ◌≡◌, List, Option, Some, None, length, take, ap, ◌∙◌, arith, length-take-le}
use Rattle.blocks.specs.Run.{body_in}
use Rattle.body.proofs.Saves.{body-least}
use Rattle.saves.specs.declared.Stands.{Stands}
use Rattle.saves.specs.Look.{SizeFits, StandsAs}
use Rattle.saves.proofs.Stand.{good-body, found-long, stands-not, stands-body, joined-body, stands-save}
use Rattle.saves.proofs.buffer.save_at.Goals.{After-join}
use Rattle.saves.proofs.buffer.save_at.Goals as goal

-- what is answered where nothing stands
nothing : (s : List ℕ) (r : Option Stands) → r ≡ None → StandsAs s None → SizeFits r × StandsAs s r
nothing s None e h = (tt, h)
nothing s (Some x) e h = cc

pub returns-in_err-version : goal.returns-in_err-version
returns-in_err-version c = nothing c.args.s.now c.from_residual.result c.from_residual.ensures (λ x rest g e. c.in_err-version.ensures c.requires 1 _ rest (good-body x g) e)

pub returns-then-version-ne-VERSION : goal.returns-then-version-ne-VERSION
returns-then-version-ne-VERSION c =
    (tt, λ x rest g e. stands-not c.args.s.now c.in_ok-version.field-0 (c.in_ok-version.ensures c.requires) x rest g e c.then-version-ne-VERSION.either)

-- the body that was joined is the run's
joined : (c : After-join) → take c.in_ok-version.field-0.size c.join.new.out ≡ body_in c.in_ok-version.field-0.size c.args.s.now
joined c =
    let f = c.in_ok-version.ensures c.requires in
    joined-body c.args.s.now c.args.body.now c.join.new.out c.in_ok-version.field-0.size c.join.ensures c.if-size-gt-ROOM.false (omega (arith, c.told-body)) (found-long c.args.s.now c.in_ok-version.field-0 f) f.1

pub returns-in_err-read : goal.returns-in_err-read
returns-in_err-read c =
    nothing c.args.s.now c.from_residual-in_err-read.result c.from_residual-in_err-read.ensures
    (λ x rest g e. c.in_err-read.ensures x g (joined (goal.at.returns-in_err-read c).After-join ∙ stands-body c.args.s.now c.in_ok-version.field-0 (c.in_ok-version.ensures c.requires) x rest g e))

pub returns : goal.returns
returns c =
    let r = c.in_ok-read.ensures in
    let l = length-take-le c.in_ok-version.field-0.size c.join.new.out (omega (arith, c.join.auto.out, c.told-body, c.if-size-gt-ROOM.false)) in (
      (omega (arith, body-least r.0 r.1, ap length r.2, l), c.if-size-gt-ROOM.false),
      stands-save c.args.s.now (take c.in_ok-version.field-0.size c.join.new.out) c.in_ok-version.field-0 c.number_at.result (c.in_ok-version.ensures c.requires) c.in_ok-read.field-0
          c.if-version-ne-VERSION.false (joined (goal.at.returns c).After-join) r c.number_at.ensures,
    )
