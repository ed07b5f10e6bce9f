-- `checkpoints::calls::come_back` meets its contract: the run that is found is the save's, and its body is read again. Assumes nothing.
use Rattle.std.proofs.Common.{rules, ℕ, ◌≡◌, List, ◌++◌, take, Option, Some, subst, ◌∙◌, arith}
use Rattle.blocks.specs.declared.Run.{Run}
use Rattle.blocks.specs.Run.{run_of, Finds}
use Rattle.breaker.specs.declared.Breaker.{Breaker}
use Rattle.body.specs.Save.{Save, Good, body_of, BodyRead}
use Rattle.saves.proofs.Stand.{good-body, found-long, stands-long, stands-body, joined-body}
use Rattle.checkpoints.proofs.Making.{came-back}
use Rattle.checkpoints.proofs.calls.come_back.Goals.{In-Some, After-join}
use Rattle.checkpoints.proofs.calls.come_back.Goals as goal

finds : (c : In-Some) → Finds c.args.s.now (Some c.in-Some.run')
finds c = subst (λ (r : Option Run). Finds c.args.s.now r) c.in-Some.is (c.run_at.ensures c.requires)

body_is : (c : After-join) → Finds c.args.s.now (Some c.in-Some.run') → (x : Save) (rest : List ℕ) → Good x → c.args.s.now ≡ run_of 1 (body_of x) ++ rest
    → take c.in-Some.run'.size c.join.new.out ≡ body_of x
body_is c f x rest g e =
    joined-body c.args.s.now c.room-body.result c.join.new.out c.in-Some.run'.size c.join.ensures c.if-run-gt-ROOM.false (search rules) (found-long c.args.s.now c.in-Some.run' f) f.1
    ∙ stands-body c.args.s.now c.in-Some.run' f x rest g e

pub returns-in_default : goal.returns-in_default
returns-in_default c =
    λ x rest g e l. absurd (subst (λ (r : Option Run). Finds c.args.s.now r) c.in_default.is (c.run_at.ensures c.requires) 1 (body_of x) rest (good-body x g) e)

pub returns-then-run-gt-ROOM : goal.returns-then-run-gt-ROOM
returns-then-run-gt-ROOM c =
    λ x rest g e l. absurd (omega (arith, stands-long c.args.s.now c.in-Some.run' (finds (goal.at.returns-then-run-gt-ROOM c).In-Some) x rest g e, c.if-run-gt-ROOM.true))

pub returns-in_default-read : goal.returns-in_default-read
returns-in_default-read c =
    λ x rest g e l. absurd (subst (λ (r : Option Breaker). BodyRead (take c.in-Some.run'.size c.join.new.out) r) c.in_default-read.is c.read.ensures x g
    (body_is (goal.at.returns-in_default-read c).After-join (finds (goal.at.returns-in_default-read c).In-Some) x rest g e))

pub returns : goal.returns
returns c =
    λ x rest g e l. came-back x g c.in-Some-read.saved c.args.breaker (take c.in-Some.run'.size c.join.new.out) c.list_in.new.list c.returned.result
    (body_is (goal.at.returns c).After-join (finds (goal.at.returns c).In-Some) x rest g e)
    (subst (λ (r : Option Breaker). BodyRead (take c.in-Some.run'.size c.join.new.out) r) c.in-Some-read.is c.read.ensures)
    (λ y h q z. c.list_in.ensures y h q z l) c.returned.ensures
