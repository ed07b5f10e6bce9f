-- A buffer is read in one way only. Assumes nothing.
use mathlib.Core.Path.{◌≡◌, refl, sym, ap, ◌∙◌}
use mathlib.Core.Bool.{Bool, true, false, false≢true}
use mathlib.Core.List.{List, [], ◌∷◌, ◌++◌, append-nil}
use Prim.Native.Nat.{ℕ}
use native.Mathlib.Omega.{arith}
use lib.ListN.{length, length-append}
use Rattle.blocks.specs.Run.{run_of}
use Rattle.body.specs.Save.{Save, body_of}
use Rattle.saves.specs.Buffer.{runs_of, AllGood, Reading, saves, Reads, sizes, sums, versions, rest, all}
use Rattle.saves.proofs.Walks.{run-some, runs-left}
use Rattle.saves.proofs.Walking.{all-behind}

clash : {A : Type 0} (b : Bool) → b ≡ true → b ≡ false → A
clash b t f = absurd (false≢true (sym f ∙ t))

-- saves of the same bytes are the same
pub runs_same : (ss ws : List Save) → AllGood ss → AllGood ws → runs_of ss ≡ runs_of ws → ss ≡ ws
unfolding runs_of
runs_same ss ws a b e =
    let l = runs-left ss ws [] a b (append-nil (runs_of ss) ∙ e) in
    go l.0 l.1 l.2
  where
    go : (more : List Save) → ws ≡ ss ++ more → [] ≡ runs_of more → ss ≡ ws
    go [] q d = sym (q ∙ append-nil ss)
    go (y ∷ ys) q d =
        let g = (all-behind ss (y ∷ ys) (rw q at b)).0 in
        absurd (omega (arith, run-some y g, ap length d, length-append (run_of 1 (body_of y)) (runs_of ys)))

pub one-reading : (buffer : List ℕ) (used : ℕ) (x y : Reading) → Reads buffer used x → Reads buffer used y → x ≡ y
one-reading buffer used x y (sizes f) (sizes g) = refl
one-reading buffer used x y (sizes f) (sums g s) = clash _ g f
one-reading buffer used x y (sizes f) (versions g s v) = clash _ g f
one-reading buffer used x y (sizes f) (rest g s v n) = clash _ g f
one-reading buffer used x y (sizes f) (all g s v ss a e) = clash _ g f
one-reading buffer used x y (sums f s) (sizes g) = clash _ f g
one-reading buffer used x y (sums f s) (sums g t) = refl
one-reading buffer used x y (sums f s) (versions g t v) = clash _ t s
one-reading buffer used x y (sums f s) (rest g t v n) = clash _ t s
one-reading buffer used x y (sums f s) (all g t v ss a e) = clash _ t s
one-reading buffer used x y (versions f s v) (sizes g) = clash _ f g
one-reading buffer used x y (versions f s v) (sums g t) = clash _ s t
one-reading buffer used x y (versions f s v) (versions g t w) = refl
one-reading buffer used x y (versions f s v) (rest g t w n) = clash _ w v
one-reading buffer used x y (versions f s v) (all g t w ss a e) = clash _ w v
one-reading buffer used x y (rest f s v n) (sizes g) = clash _ f g
one-reading buffer used x y (rest f s v n) (sums g t) = clash _ s t
one-reading buffer used x y (rest f s v n) (versions g t w) = clash _ v w
one-reading buffer used x y (rest f s v n) (rest g t w m) = refl
one-reading buffer used x y (rest f s v n) (all g t w ss a e) = absurd (n ss a e)
one-reading buffer used x y (all f s v ss a e) (sizes g) = clash _ f g
one-reading buffer used x y (all f s v ss a e) (sums g t) = clash _ s t
one-reading buffer used x y (all f s v ss a e) (versions g t w) = clash _ v w
one-reading buffer used x y (all f s v ss a e) (rest g t w n) = absurd (n ss a e)
one-reading buffer used x y (all f s v ss a e) (all g t w ws b d) = ap saves (runs_same ss ws a b (sym e ∙ d))
