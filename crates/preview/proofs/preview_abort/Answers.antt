-- `preview::preview_abort` meets its contract: the call itself. Assumes nothing.
use Rattle.std.proofs.Common.{ap, ◌∙◌}
use Rattle.preview.specs.Preview.{preview_of}
use Rattle.preview.proofs.Previews.{preview-left}
use Rattle.preview.proofs.preview_abort.Goals as goal

pub returns : goal.returns
returns c = preview-left c.abort_as.result c.args.breaker c.args.list.now ∙ ap preview_of c.abort_as.ensures
