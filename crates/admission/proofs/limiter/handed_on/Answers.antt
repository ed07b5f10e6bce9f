-- `admission::limiter::handed_on` meets its contract: an admission kept, or aborted. Assumes nothing.
use Rattle.admission.proofs.limiter.handed_on.Goals as goal

pub returns : goal.returns
returns c = λ cfg st e. rw c.if-acquired.false (c.abort_locked.ensures cfg st e)
