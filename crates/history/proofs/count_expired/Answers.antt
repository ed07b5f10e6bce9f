-- `history::count_expired` meets its contract. Assumes nothing.
use Rattle.std.proofs.Common.{ℕ, ltb, drop, ap, ◌∙◌, arith}
use Rattle.std.specs.List.{prefix_len}
use Rattle.history.specs.Items.{view}
use Rattle.history.proofs.Change.{evicted-front}
use Rattle.history.proofs.count_expired.Goals as goal

pub returns : goal.returns
returns c =
    let xs = view c.args.len c.args.list.now in
    (ap (λ (i : ℕ). drop i xs) (c.first_recent.ensures.value ∙ ap (prefix_len (λ t. ltb t c.args.cutoff)) c.view.ensures.value) ∙ evicted-front c.args.cutoff xs, omega arith)
