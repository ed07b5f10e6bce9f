-- The held check, by the tests that the code makes. Assumes nothing.
use Rattle.std.proofs.Common.{◌≤◌, ◌≡◌, eq-eqb, le-leb}
use Rattle.wait.specs.declared.Wait.{Wait}
use Rattle.wait.specs.declared.Observed.{Observed}
use Rattle.wait.specs.declared.Ending.TheVariants.{Done}
use Rattle.wait.specs.declared.Move.TheVariants.{Ends}
use Rattle.keep.specs.Keep.{postponed, checks}

-- without a pause, a grant that is due is done
pub check_done : (w : Wait) (t : Observed) → t.pause ≡ 0 → (postponed t w).due ≤ t.clock → Ends Done ≡ checks w t
unfolding checks
check_done w t e l = simp (eq-eqb _ _ e, le-leb _ _ l)
