-- `outcomes::settle::store` meets its contract: by what the list holds. Assumes nothing.
use Rattle.std.proofs.Common.{ℕ, [], ◌∷◌, sym, ap, ◌∙◌}
use Rattle.error.proofs.Choice.{byte-bit}
use Rattle.history.specs.Change.{replaced}
use Rattle.outcomes.proofs.Deciding.{is-outcomes, is-times, store_nothing, store-items}
use Rattle.outcomes.proofs.settle.store.Goals as goal

pub returns-then-failed : goal.returns-then-failed
returns-then-failed c =
    λ ok cfg st h l. c.turn_over-then-failed.ensures
    ∙ store-items c.args.b c.args.list.now cfg st h ok c.args.failed c.args.now_ms c.args.gone (c.args.now_ms ∷ []) (rw (is-times cfg (rw h.0 at (sym c.items_of.ensures ∙ c.in-Times.is)), c.if-failed.true)) l

pub returns-in-Nothing : goal.returns-in-Nothing
returns-in-Nothing c =
    λ ok cfg st h l. store_nothing c.args.b c.args.list.now cfg st h ok c.args.failed c.args.now_ms c.args.gone (rw h.0 at (sym c.items_of.ensures ∙ c.in-Nothing.is))

pub returns-in-Outcomes : goal.returns-in-Outcomes
returns-in-Outcomes c =
    λ ok cfg st h l. c.turn_over.ensures
    ∙ ap (λ (n : ℕ). replaced c.args.gone (n ∷ []) c.args.b.shared.len c.args.list.now) (c.from.ensures ∙ byte-bit c.args.failed)
    ∙ store-items c.args.b c.args.list.now cfg st h ok c.args.failed c.args.now_ms c.args.gone _ (rw (is-outcomes cfg _ (rw h.0 at (sym c.items_of.ensures ∙ c.in-Outcomes.is)))) l

pub returns-else-failed : goal.returns-else-failed
returns-else-failed c =
    λ ok cfg st h l. c.drop_oldest.ensures
    ∙ store-items c.args.b c.args.list.now cfg st h ok c.args.failed c.args.now_ms c.args.gone [] (rw (is-times cfg (rw h.0 at (sym c.items_of.ensures ∙ c.in-Times.is)), c.if-failed.false)) l
