-- `waiting::ends::given_up` meets its contract: the abort, beside whatever is told. Assumes nothing.
use Rattle.std.proofs.Common.{refl, false}
use Rattle.history.specs.Items.{padded}
use Rattle.steps.proofs.Aborting.{given_back}
use Rattle.waiting.proofs.ends.given_up.Goals as goal

pub returns : goal.returns
returns c = λ cfg st e. given_back _ cfg c.args.ticket false st _ (padded st.list) (c.abort_locked.ensures cfg st e) refl
