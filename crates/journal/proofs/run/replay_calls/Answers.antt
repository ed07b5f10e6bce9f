-- `journal::run::replay_calls` meets its contract. Assumes nothing.
use Rattle.std.proofs.Common.{◌≡◌, ℕ, ◌+◌, ◌≤◌, Bool, true, false, eqb, ◌⊎◌, inl, inr, List, [], ◌++◌, length, append-nil, sym, ap, ◌∙◌, arith, eqb-true}
use Rattle.std.proofs.lemmas.List.{nil_from_length}
use Rattle.breaker.specs.Record.{settings, state, sound}
use Rattle.breaker.proofs.Record.{padded-state}
use Rattle.lines.specs.Print.{print_call, CallFits}
use Rattle.journal.specs.Replay.{called, answer_line, malformed_line, Replays, finished, malformed}
use Rattle.journal.specs.Steps.{step_told}
use Rattle.journal.proofs.Stepping.{stepped}
use Rattle.journal.proofs.Short.{Shown, step-short, shown}
use Rattle.journal.proofs.Replaying.{turn, last, kept, call_long}
use Rattle.journal.proofs.run.replay_calls.Goals.{In-Some, After-step-made}
use Rattle.journal.proofs.run.replay_calls.Goals as goal

-- the call that was read, and what it left
is : (c : In-Some) → CallFits c.in-Some.call × (c.loop-call.rest.now ≡ print_call c.in-Some.call ++ c.in-Some.after.now)
is c = c.in-Some.ensures

fewer : (c : In-Some) → length c.in-Some.after.now + 4 ≤ length c.loop-call.rest.now
fewer c = call_long c.in-Some.call _ _ (is c).1

left : (c : After-step-made) → let o = called c.in-Some.call (settings c.args.breaker.config) (state c.loop-call.breaker c.loop-call.list) in
    (sound c.step-made.result.breaker c.step-made.new.list ≡ true) × (state c.step-made.result.breaker c.step-made.new.list ≡ o.after) × (c.step-made.result.breaker.config ≡ c.args.breaker.config) × (step_told c.step-made.result.answer ≡ o.told)
left c = stepped c.in-Some.call c.loop-call.breaker c.loop-call.list c.step-made.new.list c.step-made.result c.args.breaker.config c.loop-call.invariant.config_is c.loop-call.invariant.sound_is c.step-made.ensures

widths : (c : After-step-made) → Shown (state c.step-made.result.breaker c.step-made.new.list)
widths c =
    shown c.step-made.result.breaker c.step-made.new.list (left c).0 (omega (arith, c.step-made.type_inv)) (omega (arith, c.step-made.type_inv)) (omega (arith, c.step-made.type_inv)) (omega (arith, c.step-made.type_inv))

pub loop-call-smaller : goal.loop-call-smaller
loop-call-smaller c = omega (arith, fewer (goal.at.loop-call-smaller c).In-Some)

pub loop-call-preserved : goal.loop-call-preserved
loop-call-preserved c =
    let l = c.loop-call in
    let i = l.invariant in
    let w = c.write_answer-end in
    let f = is (goal.at.loop-call-preserved c).In-Some in
    let m = fewer (goal.at.loop-call-preserved c).In-Some in
    let t = left (goal.at.loop-call-preserved c).After-step-made in
    let st = state c.step-made.result.breaker c.step-made.new.list in
    let told = step_told c.step-made.result.answer in
    let xs = answer_line told st in
    let h : w.result ≤ length l.out = omega (arith, w.ensures.upper_bound, i.room, c.requires.s_in_bounds) in
    let z = step-short c.in-Some.call (settings c.args.breaker.config) (state l.breaker l.list) st told t.1 t.3 (widths (goal.at.loop-call-preserved c).After-step-made) in record {
      sound_is = t.0;
      config_is = t.2;
      room = omega (arith, w.ensures.value, z, i.room);
      lines = omega (arith, i.lines);
      past = kept l.out w.new.out c.args.out.now l.end w.result xs w.ensures.value w.ensures.out_after h i.past;
      so = turn c.args.more (settings c.args.breaker.config) (state c.args.breaker c.args.list.now) c.args.s.now l.out w.new.out l.rest.now c.in-Some.after.now l.end w.result l.line (state l.breaker l.list) st c.in-Some.call xs f.0 f.1 t.1 (ap (λ x. answer_line x st) t.3) w.ensures.value w.ensures.out_after h i.so;
    }

not-empty : (xs : List ℕ) (b more : Bool) → b ≡ eqb (length xs) 0 → ((b ≡ true) × (more ≡ true)) ⊎ (b ≡ false) → xs ≡ [] → more ≡ true
not-empty xs b more e (inl w) n = w.1
not-empty xs b more e (inr w) n = let z : b ≡ true = rw n at e in cc

pub returns-then-not-more-clause-ends : goal.returns-then-not-more-clause-ends
returns-then-not-more-clause-ends c =
    let l = c.loop-call in
    let st = state l.breaker l.list in
    let r : Replays c.args.more (settings c.args.breaker.config) l.line st l.rest.now [] st = rw (nil_from_length l.rest.now (eqb-true _ 0 (sym c.is_empty.ensures ∙ c.if-is_empty.true))) (finished c.if-not-more.true) in
    (st, rw append-nil at (l.invariant.so [] st r), padded-state l.breaker l.list l.invariant.sound_is)

pub returns-clause-ends : goal.returns-clause-ends
returns-clause-ends c =
    let l = c.loop-call in
    let w = c.write_malformed in
    let st = state l.breaker l.list in
    let xs = malformed_line l.line in
    let r : Replays c.args.more (settings c.args.breaker.config) l.line st l.rest.now xs st = malformed (not-empty l.rest.now _ _ c.is_empty.ensures c.else-is_empty.either) c.in_default.ensures in
    let h : w.result ≤ length l.out = omega (arith, w.ensures.upper_bound, l.invariant.room, c.requires.s_in_bounds) in
    (st, last c.args.more (settings c.args.breaker.config) (state c.args.breaker c.args.list.now) c.args.s.now l.out w.new.out l.rest.now l.end w.result l.line st xs r w.ensures.value w.ensures.out_after h l.invariant.so, padded-state l.breaker l.list l.invariant.sound_is)

pub returns-clause-kept : goal.returns-clause-kept
returns-clause-kept c =
    let l = c.loop-call in
    let w = c.write_malformed in
    let h : w.result ≤ length l.out = omega (arith, w.ensures.upper_bound, l.invariant.room, c.requires.s_in_bounds) in
    (omega (arith, h, w.auto.out), kept l.out w.new.out c.args.out.now l.end w.result (malformed_line l.line) w.ensures.value w.ensures.out_after h l.invariant.past)
