-- `blocks::runs::write_blocks` meets its contract. The loop's invariant: the blocks written, with those of what is left of the body, are the run. Assumes nothing.
use Rattle.std.proofs.Common.{◌≡◌, ◌-◌, ◌*◌, ◌≤◌, ◌++◌, length, take}
use Rattle.std.specs.Iterator.Adapters.{enumerate_source, enumerate_count}
use Rattle.std.specs.Slice.Iter.{chunks_rest, chunks_size}
use Rattle.blocks.specs.Run.{blocks_from}
use Rattle.blocks.proofs.runs.write_blocks.Given as goal

abbrev pub invariant-loop-i : goal.invariant-loop-i
invariant-loop-i l =
    let i = enumerate_count l.i-iterator in
    let rest = chunks_rest (enumerate_source l.i-iterator) in
    (chunks_size (enumerate_source l.i-iterator) ≡ 496) × (length rest ≡ length l.body - 496 * i) × (i ≤ l.count)
    × (take (i * 512) l.out ++ blocks_from l.version l.count i (l.count - i) rest ≡ blocks_from l.version l.count 0 l.count l.body)
