-- `history::remove` meets its contract: the items that stay are moved down, and the places behind them are cleared. Assumes nothing.
use Rattle.std.proofs.Common.{◌-◌, arith, rules}
use Rattle.history.proofs.Laid.{laid_kept}
use Rattle.history.proofs.remove.Goals as goal

pub returns : goal.returns
returns c =
    laid_kept c.args.s.now c.args.n c.args.k (c.args.n - c.args.k) (omega (arith, c.requires)) c.requires.1 c.slide.new.s c.fill.new.self c.slide.ensures (c.fill.ensures.after (search rules))
