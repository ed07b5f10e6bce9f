-- `blocks::passes::all_summed` meets its contract. Assumes nothing.
use Rattle.std.proofs.Common.{length, ◌/◌, ◌∙◌, rules, tests}
use Rattle.std.specs.Simd.{first_chunks}
use Rattle.std.proofs.lemmas.Iterator.{YieldsList-from_slice}
use Rattle.std.proofs.lemmas.Iterator.Search.{all_from_yields_List}
use Rattle.blocks.specs.Block.{summed}
use Rattle.blocks.proofs.Every.{every-each}
use Rattle.blocks.proofs.passes.all_summed.Goals as goal

pub returns : goal.returns
returns c =
    let n = length c.args.s.now / 512 in
    all_from_yields_List summed _ _ _ c.all.ensures.ran (YieldsList-from_slice (first_chunks 512 n c.args.s.now) cc) (λ x b q k. search (rules, tests)) ∙ every-each summed n c.args.s.now
