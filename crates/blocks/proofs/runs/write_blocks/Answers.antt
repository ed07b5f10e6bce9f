-- `blocks::runs::write_blocks` meets its contract. Assumes nothing.
use Rattle.std.proofs.Common.{◌≡◌, ◌+◌, ◌<◌, ℕ, sym, ap, ◌∙◌, arith, min, length, length-append}
use Rattle.std.specs.Iterator.Adapters.{enumerate_source, enumerate_count}
use Rattle.std.specs.Slice.Iter.{chunks_rest}
use Rattle.blocks.specs.Block.{block}
use Rattle.blocks.specs.Run.{run_of}
use Rattle.blocks.proofs.RunBlocks.{run-turn, run_end}
use Rattle.blocks.proofs.runs.write_blocks.Goals as goal

pub loop-i-preserved : goal.loop-i-preserved
loop-i-preserved c =
    let s = c.in-Some.ensures.steps in
    let v = c.args.version in
    let n = c.count_of-count.result in
    let i = enumerate_count c.loop-i.i-iterator in
    let r = chunks_rest (enumerate_source c.loop-i.i-iterator) in
    let more = chunks_rest (enumerate_source c.next.new.self) in
    let part = c.in-Some.part.now in
    let e = s.0.1.0 in
    let l : length part ≡ min 496 (length r) = s.0.1.1 ∙ ap (λ (k : ℕ). min k (length r)) c.loop-i.invariant.0 in
    let m : length r ≡ length part + length more = ap length e ∙ length-append part more in
    let h : i < n = omega (arith, c.count_of-count.ensures) in
    let b : c.write_block.new.out ≡ block v i n part = c.write_block.ensures ∙ ap (λ (k : ℕ). block v k n part) s.1 in
    (s.0.0 ∙ c.loop-i.invariant.0, omega arith, omega arith, rw (s.2, s.1) (run-turn v n i r part more e l c.loop-i.out c.write_block.new.out _ h (omega (arith, c.count_of-count.ensures)) b ∙ c.loop-i.invariant.3))

pub returns : goal.returns
unfolding run_of
returns c =
    let i = enumerate_count c.loop-i.i-iterator in
    let s = c.in-None.ensures.steps in
    let e : i ≡ c.count_of-count.result = omega (arith, c.count_of-count.ensures) in
    rw (← c.count_of-count.ensures) (sym (run_end c.args.version c.count_of-count.result i (chunks_rest (enumerate_source c.loop-i.i-iterator)) c.loop-i.out e (omega (arith, c.count_of-count.ensures))) ∙ c.loop-i.invariant.3)
