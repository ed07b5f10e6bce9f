-- `journal::run::replay_all` meets its contract: no header, a header that is refused, or one that makes a breaker. Assumes nothing.
use Rattle.std.proofs.Common.{◌≡◌, ◌++◌, arith}
use Rattle.lines.specs.Print.{print_header, HeaderFits}
use Rattle.journal.proofs.Building.{IsMade, some_breaker, build-made, build-refused}
use Rattle.journal.proofs.Replaying.{answers-headless, answers-refused, answers-headed}
use Rattle.journal.proofs.run.replay_all.Goals.{In-Ok, In-Some}
use Rattle.journal.proofs.run.replay_all.Goals as goal

pub returns-in_default-clause-answers : goal.returns-in_default-clause-answers
returns-in_default-clause-answers c =
    let w = c.write_malformed in
    answers-headless c.args.more c.args.s.now c.args.list.now c.args.out.now w.new.out w.result (omega (arith, w.ensures.upper_bound, c.requires.s_in_bounds)) c.in_default.ensures w.ensures.value w.ensures.out_after

-- the header that was read, and the breaker that was made of it
is : (c : In-Some) → HeaderFits c.in-Some.header × (c.args.s.now ≡ print_header c.in-Some.header ++ c.in-Some.rest.now)
is c = c.in-Some.ensures

made : (c : In-Ok) → IsMade c.in-Some.header c.in-Ok.made c.build.new.list
made c =
    build-made c.in-Some.header c.in-Ok.made c.in-Ok.made c.args.list.now c.build.new.list c.requires.list_len (rw (c.in-Ok.is, c.builder_of.ensures) at c.build.ensures c.in-Ok.made)

pub replay_calls-requires-clause-list_value : goal.replay_calls-requires-clause-list_value
replay_calls-requires-clause-list_value c = (made (goal.at.replay_calls-requires-clause-list_value c).In-Ok).4

pub returns-in-Err-clause-answers : goal.returns-in-Err-clause-answers
returns-in-Err-clause-answers c =
    let f = is (goal.at.returns-in-Err-clause-answers c).In-Some in
    let w = c.write_line in
    let no = build-refused c.in-Some.header some_breaker some_breaker c.args.list.now c.build.new.list c.requires.list_len c.in-Err.r (rw (c.in-Err.is, c.builder_of.ensures) at c.build.ensures some_breaker) in
    let v = rw (c.from.ensures, c.number.ensures) at w.ensures in
    answers-refused c.args.more c.args.s.now c.args.list.now c.args.out.now w.new.out w.result (omega (arith, w.ensures.upper_bound, c.requires.s_in_bounds)) c.build.new.list c.in-Some.header _ c.in-Err.r f.0 f.1 no v.value v.out_after

pub returns-in-Ok-clause-answers : goal.returns-in-Ok-clause-answers
returns-in-Ok-clause-answers c =
    let f = is (goal.at.returns-in-Ok-clause-answers c).In-Some in
    answers-headed c.args.more c.args.s.now c.args.list.now _ c.replay_calls.new.list c.in-Some.header _ c.in-Ok.made c.build.new.list f.0 f.1 (made (goal.at.returns-in-Ok-clause-answers c).In-Ok) c.replay_calls.ensures.ends
