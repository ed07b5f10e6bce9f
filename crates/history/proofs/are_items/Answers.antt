-- `history::are_items` meets its contract. Assumes nothing.
use Rattle.std.proofs.Common.{◌∙◌}
use Rattle.history.proofs.are_items.Goals as goal

pub returns-in-Outcomes : goal.returns-in-Outcomes
returns-in-Outcomes c = c.any_bits.ensures 1 ∙ rw c.in-Outcomes.is
