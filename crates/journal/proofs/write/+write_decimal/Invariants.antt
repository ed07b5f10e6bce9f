-- `journal::write::write_decimal`: the measure is the number.
use Rattle.journal.proofs.write.+write_decimal.Given as goal

abbrev pub decreases-write_decimal : goal.decreases-write_decimal
decreases-write_decimal l = l.n
