-- `preview::preview_settle` meets its contract: what is decided, once the breaker is tested. Assumes nothing.
use Rattle.std.proofs.Common.{sym, ◌∙◌}
use Rattle.breaker.specs.Calls as Calls
use Rattle.preview.proofs.Previews.{preview-done}
use Rattle.preview.proofs.preview_settle.Goals as goal

pub returns : goal.returns
returns c = preview-done (Calls.settle c.args.now_ms c.args.ticket c.args.success) c.args.breaker c.args.list.now (sym c.in_ok-test.was ∙ c.test.ensures) c.decide_settle.result c.decide_settle.ensures
