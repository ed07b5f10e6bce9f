-- `saves::buffer::look` meets its contract: the passes in their order, then the walk. Assumes nothing.
use Rattle.std.proofs.Common.{◌≡◌, true, length, sym, ◌∙◌, arith, length-take-le}
use Rattle.blocks.specs.Block.{summed, versioned}
use Rattle.saves.specs.Buffer.{framed, sizes, sums, versions}
use Rattle.saves.proofs.Names.{framed→}
use Rattle.saves.proofs.Looking.{every_used, look_by}
use Rattle.saves.proofs.buffer.look.Goals as goal

pub returns-then-not-is_framed : goal.returns-then-not-is_framed
returns-then-not-is_framed c = sizes (sym c.is_framed.ensures ∙ c.if-not-is_framed.true)

pub slice_bounds-s-end : goal.slice_bounds-s-end
slice_bounds-s-end c =
    let f : framed (length c.args.buffer.now) c.args.used ≡ true = sym c.is_framed.ensures ∙ c.if-not-is_framed.false in
    sym (length-take-le c.args.used c.args.buffer.now (framed→ (length c.args.buffer.now) c.args.used f).1)

pub returns-then-not-all_summed : goal.returns-then-not-all_summed
returns-then-not-all_summed c =
    let f : framed (length c.args.buffer.now) c.args.used ≡ true = sym c.is_framed.ensures ∙ c.if-not-is_framed.false in
    sums f (every_used summed c.args.buffer.now c.args.used c.all_summed.result f c.all_summed.ensures ∙ c.if-not-all_summed.true)

pub returns-then-not-all_versioned : goal.returns-then-not-all_versioned
returns-then-not-all_versioned c =
    let f : framed (length c.args.buffer.now) c.args.used ≡ true = sym c.is_framed.ensures ∙ c.if-not-is_framed.false in
    versions f (every_used summed c.args.buffer.now c.args.used c.all_summed.result f c.all_summed.ensures ∙ c.if-not-all_summed.false)
    (every_used versioned c.args.buffer.now c.args.used c.all_versioned.result f c.all_versioned.ensures ∙ c.if-not-all_versioned.true)

pub walk-requires : goal.walk-requires
walk-requires c =
    let f : framed (length c.args.buffer.now) c.args.used ≡ true = sym c.is_framed.ensures ∙ c.if-not-is_framed.false in
    let p = framed→ (length c.args.buffer.now) c.args.used f in
    (omega (arith, length-take-le c.args.used c.args.buffer.now p.1, p.0, p.1), sym c.all_summed.ensures ∙ c.if-not-all_summed.false)

pub returns : goal.returns
returns c =
    let f : framed (length c.args.buffer.now) c.args.used ≡ true = sym c.is_framed.ensures ∙ c.if-not-is_framed.false in
    look_by c.args.buffer.now c.args.used c.args.name.now c.asked_number.result c.asked_number.ensures f
    (every_used summed c.args.buffer.now c.args.used c.all_summed.result f c.all_summed.ensures ∙ c.if-not-all_summed.false)
    (every_used versioned c.args.buffer.now c.args.used c.all_versioned.result f c.all_versioned.ensures ∙ c.if-not-all_versioned.false)
    c.walk.result c.walk.ensures
