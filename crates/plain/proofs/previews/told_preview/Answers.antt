-- `plain::previews::told_preview` meets its contract: what was seen, told. Assumes nothing.
use mathlib.Core.Path.{ap, ◌∙◌}
use mathlib.Core.List.{[]}
use Rattle.plain.proofs.Seen.{seen, seen-crossed}
use Rattle.plain.proofs.previews.told_preview.Goals as goal

pub returns : goal.returns
returns c = ap seen (c.told_done.ensures []) ∙ seen-crossed _ _
