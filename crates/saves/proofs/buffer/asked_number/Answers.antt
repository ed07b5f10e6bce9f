-- `saves::buffer::asked_number` meets its contract. Assumes nothing.
use Rattle.std.proofs.Common.{◌∙◌, rules, ◌≡◌}
use Rattle.std.specs.Option.{IfSome}
use Rattle.le_bytes.specs.Bytes.{number_at}
use Rattle.saves.proofs.Names.{asked_by}
use Rattle.saves.proofs.buffer.asked_number.Goals as goal

pub returns : goal.returns
returns c =
    let n : IfSome c.then.result (λ a. a ≡ number_at 0 8 c.args.name.now) = search rules in
    λ m q. asked_by c.args.name.now m q c.then.result (c.then.ensures.variant ∙ c.is_name.ensures) n
