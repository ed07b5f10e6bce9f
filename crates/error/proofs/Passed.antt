-- What `?` hands on. Assumes nothing.
use Rattle.std.proofs.Common.{◌≡◌, Result, Ok, Err, ap}
use Rattle.std.specs.Result.{IsErr, IsErrAnd}

pub passed : {A E : Type 0} (x : Result A E) (e : E) → IsErr x × IsErrAnd x (λ y. y ≡ e) → x ≡ Err e
passed (Ok a) e h = absurd h.1
passed {E = E} (Err y) e h = ap (λ (z : E). Err z) h.1
