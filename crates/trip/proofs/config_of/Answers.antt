-- `trip::config_of` meets its contract: a normalised ratio is a number. Assumes nothing.
use Rattle.std.proofs.Common.{sym, ◌∙◌}
use Rattle.trip.proofs.Settings.{normalised-number}
use Rattle.trip.proofs.config_of.Goals as goal

pub float_to_bits-result : goal.float_to_bits-result
float_to_bits-result c = normalised-number c.args.trip _ _ _ (sym c.normalised.ensures ∙ c.in-Ratio.is)
