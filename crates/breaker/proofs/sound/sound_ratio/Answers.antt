-- `breaker::sound::sound_ratio` meets its contract: -0.0, and any other by its bits. Assumes nothing.
use Rattle.std.proofs.Common.{◌∙◌, eq-eqb, arith}
use Rattle.breaker.proofs.Record.{sound-negative-zero, sound-bits}
use Rattle.breaker.proofs.sound.sound_ratio.Goals as goal

pub returns-then-bits-eq-SIGN_BIT : goal.returns-then-bits-eq-SIGN_BIT
returns-then-bits-eq-SIGN_BIT c = eq-eqb _ _ c.if-bits-eq-SIGN_BIT.true ∙ sound-negative-zero c.args.bits (omega arith)

pub returns-else-bits-eq-SIGN_BIT : goal.returns-else-bits-eq-SIGN_BIT
returns-else-bits-eq-SIGN_BIT c = sound-bits c.args.bits c.well_formed.0.1 (λ e. omega arith)
