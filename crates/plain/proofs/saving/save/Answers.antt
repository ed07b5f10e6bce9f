-- `plain::saving::save` meets its contract: the save by value, told. Assumes nothing.
use Rattle.plain.proofs.Known.{cross-save}
use Rattle.plain.proofs.saving.save.Goals as goal

pub returns : goal.returns
returns c =
    let x = c.save.ensures in
    (x.0, x.1, cross-save _ _ _ c.tell.ensures _ x.2)
