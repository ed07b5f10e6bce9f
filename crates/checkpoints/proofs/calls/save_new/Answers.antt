-- `checkpoints::calls::save_new` meets its contract. Assumes nothing.
use Rattle.std.proofs.Common.{rules, ℕ, ◌≡◌, ◌+◌, ◌*◌, Ok, sym, ap, ◌∙◌, arith, take, length-take-le}
use Rattle.blocks.specs.Run.{count_of, put_run}
use Rattle.body.specs.Save.{size_of}
use Rattle.checkpoints.specs.Calls.{save_after, saving_told}
use Rattle.checkpoints.proofs.Making.{sound-size, new-saved}
use Rattle.checkpoints.proofs.calls.save_new.Goals as goal

pub overflow_mul-blocks : goal.overflow_mul-blocks
overflow_mul-blocks c =
    let z = sound-size c.args.breaker c.args.list.now c.requires.0 in
    omega (arith, z, c.size-long.ensures, c.count_of-blocks.ensures)

pub slice_bounds-body-end : goal.slice_bounds-body-end
slice_bounds-body-end c =
    let z = sound-size c.args.breaker c.args.list.now c.requires.0 in
    omega (arith, z, c.size-long.ensures, c.write.auto.out)

pub slice_bounds-write_run-end : goal.slice_bounds-write_run-end
slice_bounds-write_run-end c =
    let z = sound-size c.args.breaker c.args.list.now c.requires.0 in
    sym (length-take-le c.size-long.result c.write.new.out (omega (arith, z, c.size-long.ensures, c.write.auto.out)))

pub returns : goal.returns
returns c =
    let e : c.count_of-blocks.result ≡ count_of (size_of c.args.breaker) = c.count_of-blocks.ensures ∙ ap count_of c.size-long.ensures in
    ap (λ (n : ℕ). save_after (saving_told (Ok (c.args.used + 512 * n))) c.write_run.new.out) e
    ∙ new-saved c.args.name.now c.args.breaker c.args.list.now c.args.buffer.now c.args.used (cc)
    (omega (arith, c.requires.1, c.if-buffer-used.false, ap (λ (n : ℕ). 512 * n) e)) c.requires.0 c.room-body.result c.write.new.out c.write_run.new.out (search rules) c.write.ensures
    (c.write_run.ensures ∙ ap (λ (n : ℕ). put_run c.args.used 1 (take n c.write.new.out) c.args.buffer.now) c.size-long.ensures)
