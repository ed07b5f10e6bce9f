-- `le_bytes::numbers::read` meets its contract. Assumes nothing.
use Rattle.std.proofs.Common.{List, ℕ, ◌++◌, length, drop, replicate, ap, ◌∙◌, w64}
use Rattle.std.specs.Int.{from_le_bytes}
use Rattle.le_bytes.proofs.Little.{number-read}
use Rattle.le_bytes.proofs.numbers.read.Goals as goal

pub returns : goal.returns
returns c = c.from_le_bytes.ensures ∙ ap (λ (t : List ℕ). from_le_bytes w64 (t ++ drop (length c.args.s.now) (replicate 8 0))) c.copy_from_slice.ensures.after ∙ number-read c.args.s.now c.requires
