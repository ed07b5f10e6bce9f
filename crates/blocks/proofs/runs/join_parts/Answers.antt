-- `blocks::runs::join_parts` meets its contract. Assumes nothing.
use Rattle.std.proofs.Common.{◌≡◌, ◌+◌, ◌-◌, ◌*◌, ◌/◌, ◌<◌, ◌≤◌, ℕ, List, [], sym, ap, ◌∙◌, arith, min, length, take, drop, get_or}
use native.Mathlib.Nat.{add-sub_cancel_left}
use Rattle.blocks.specs.Run.{body_in}
use Rattle.blocks.proofs.Every.{run-length, run-at}
use Rattle.blocks.proofs.Joins.{body-part, length-body, join-turn, join-end}
use Rattle.blocks.proofs.runs.join_parts.Goals.{After-count_of}
use Rattle.blocks.proofs.runs.join_parts.Goals as goal

-- there are so many blocks
long : (c : After-count_of) → length (take c.count_of.result c.blocks_of.result.now) ≡ c.count_of.result
long c = run-length c.count_of.result (length c.args.s.now / 512) c.args.s.now c.blocks_of.result.now c.blocks_of.ensures (omega (arith, c.count_of.ensures))

pub slice_bounds-b-items-end : goal.slice_bounds-b-items-end
slice_bounds-b-items-end c = sym (long (goal.at.slice_bounds-b-items-end c).After-count_of)

pub loop-i-preserved : goal.loop-i-preserved
loop-i-preserved c =
    let s = c.args.s.now in
    let i = c.loop-i.i in
    let size = length c.args.out.now in
    let body = body_in size s in
    let end = c.min-end.result in
    let n = c.count_of.ensures in
    let t : i < length (take c.count_of.result c.blocks_of.result.now) = c.loop-i-test.true in
    let h : i < c.count_of.result = omega (arith, long (goal.at.loop-i-preserved c).After-count_of) in
    let d = end - i * 496 in
    let blk = get_or (take c.count_of.result c.blocks_of.result.now) i [] in
    let b : blk ≡ take 512 (drop (512 * i) s) = run-at c.count_of.result (length s / 512) i s [] c.blocks_of.result.now c.blocks_of.ensures (omega arith) h in
    let part : c.copy_from_slice.new.self ≡ take d (drop (i * 496) body) =
    c.copy_from_slice.ensures.after ∙ ap (λ (x : ℕ). take x (drop 8 blk)) (add-sub_cancel_left 8 d) ∙ ap (λ (x : List ℕ). take d (drop 8 x)) b ∙ body-part s size i d (omega arith) (omega arith) (omega arith) (omega arith) in
    let l = length-body s size (omega arith) in
    let q : min (i * 496) size ≡ i * 496 = omega arith in
    let r : min ((i + 1) * 496) size ≡ end = omega arith in
    rw r (join-turn body c.loop-i.out c.copy_from_slice.new.self _ (i * 496) end (omega arith) (omega arith) (omega arith) part ∙ (rw q at c.loop-i.invariant))

pub returns : goal.returns
returns c =
    let size = length c.args.out.now in
    let n = c.count_of.ensures in
    let t : length (take c.count_of.result c.blocks_of.result.now) ≤ c.loop-i.i = c.loop-i-test.false in
    let l = long (goal.at.returns c).After-count_of in
    let m = length-body c.args.s.now size (omega arith) in
    sym (join-end (body_in size c.args.s.now) c.loop-i.out (min (c.loop-i.i * 496) size) (omega arith) (omega arith)) ∙ c.loop-i.invariant
