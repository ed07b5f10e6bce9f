-- `outcomes::settle::emptied` meets its contract: a sound list is cleared. Assumes nothing.
use Rattle.std.proofs.Common.{ap, ◌∙◌}
use Rattle.history.specs.Change.{Left}
use Rattle.history.proofs.Held.{clear-held}
use Rattle.breaker.specs.Record.{items_of}
use Rattle.breaker.proofs.Record.{sound→}
use Rattle.outcomes.proofs.settle.emptied.Goals as goal

pub returns : goal.returns
returns c =
    λ ok.
    ap (λ (l : Left). l.places) (c.clear-length.ensures ∙ clear-held (items_of c.args.b.config) c.args.b.shared.len c.args.list.now (sound→ c.args.b c.args.list.now ok).list)
