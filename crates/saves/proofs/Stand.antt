-- What stands at the front of bytes: a run that is found there is a save's exactly where its body is. Assumes nothing.
use mathlib.Core.Path.{◌≡◌, sym, ap, ◌∙◌}
use mathlib.Core.List.{List, ◌++◌}
use Prim.Native.Nat.{ℕ, ◌+◌, ◌*◌, ◌<◌, ◌≤◌}
use native.Mathlib.Omega.{arith}
use lib.ListN.{length, take, drop, replicate, length-append}
use lib.Seq.{take_at}
use Rattle.breaker.specs.declared.Breaker.{Breaker}
use Rattle.le_bytes.specs.Bytes.{number, number_at, encoded}
use Rattle.le_bytes.proofs.Little.{bytes-append}
use Rattle.le_bytes.proofs.Written.{number_in, width-most}
use Rattle.le_bytes.proofs.Widths.{bytes-encoded}
use Rattle.blocks.specs.declared.Run.{Run}
use Rattle.blocks.specs.Run.{count_of, run_of, Body, body_in, put_body, Finds}
use Rattle.blocks.proofs.Joins.{length_run, body-in}
use Rattle.blocks.proofs.Unique.{run-one}
use Rattle.body.specs.Save.{Save, Good, widths, fields_of, width_of, body_of, BodyRead}
use Rattle.body.proofs.Records.{room-widths}
use Rattle.body.proofs.Saves.{name-ascii, body-name, body-length, body-least, good-most, width-le}
use Rattle.std.proofs.Common.{Some, ◌⊎◌, inl, inr}
use Rattle.saves.specs.Look.{StandsAs}
use Rattle.saves.proofs.Names.{bytes_below}

-- ---- the body of a good save is one that a run can hold
pub good-long : (x : Save) (g : Good x) → length (body_of x) ≤ 32854
good-long x g = omega (arith, body-length x g, room-widths, width-most x.breaker.shared.len (width_of x.breaker) (width-le x.breaker), good-most x g)

pub good-body : (x : Save) (g : Good x) → Body 1 (body_of x)
good-body x g =
    record {
      two_bytes = omega arith;
      some = omega (arith, body-least x g);
      most = omega (arith, good-long x g);
      bytes =
          bytes-append x.name (encoded widths (fields_of x.breaker) ++ encoded (replicate (length x.items) (width_of x.breaker)) x.items)
          (bytes_below 128 x.name (omega arith) (name-ascii x.name g.named))
          (bytes-append (encoded widths (fields_of x.breaker)) (encoded (replicate (length x.items) (width_of x.breaker)) x.items)
          (bytes-encoded widths (fields_of x.breaker)) (bytes-encoded (replicate (length x.items) (width_of x.breaker)) x.items));
    }

-- ---- a run that was found, and a save that stands there
module _ (s : List ℕ) (run : Run) (f : Finds s (Some run)) where
  pub found-long : 512 * count_of run.size ≤ length s
  found-long =
      let e : length s ≡ length (run_of run.version (body_in run.size s)) + length (drop (512 * count_of run.size) s) = ap length f.2 ∙ length-append (run_of run.version (body_in run.size s)) (drop (512 * count_of run.size) s) in
      let l : length (run_of run.version (body_in run.size s)) ≡ 512 * count_of run.size = length_run run.version (body_in run.size s) ∙ ap (λ (n : ℕ). 512 * count_of n) f.1 in
      omega arith

  module _ (x : Save) (rest : List ℕ) (g : Good x) (e : s ≡ run_of 1 (body_of x) ++ rest) where
    one : (run.version ≡ 1) × (body_in run.size s ≡ body_of x) × (drop (512 * count_of run.size) s ≡ rest)
    one = run-one run.version 1 (body_in run.size s) (body_of x) (drop (512 * count_of run.size) s) rest f.0 (good-body x g) (sym f.2 ∙ e)

    pub stands-version : run.version ≡ 1
    stands-version = one.0

    pub stands-long : run.size ≤ 32854
    stands-long = omega (arith, good-long x g, ap length one.1, f.1)

    pub stands-body : body_in run.size s ≡ body_of x
    stands-body = one.1

    pub stands-not : (run.version ≡ 1 → ⊥) ⊎ ((run.version ≡ 1) × (32854 < run.size)) → ⊥
    stands-not (inl h) = h stands-version
    stands-not (inr h) = omega (arith, stands-long, h.1)

-- ---- the body that was joined
pub joined-body : (s body out : List ℕ) (size : ℕ) → out ≡ put_body size s body → size ≤ 32854 → 32854 ≤ length body → 512 * count_of size ≤ length s → length (body_in size s) ≡ size
    → take size out ≡ body_in size s
joined-body s body out size e h l m n =
    ap (λ (x : List ℕ). take size x) (e ∙ sym (body-in size s body (omega arith) (omega arith) m))
    ∙ take_at (body_in size s) (drop (0 + length (body_in size s)) body) size n

pub stands-save : (s part : List ℕ) (run : Run) (name : ℕ) (f : Finds s (Some run)) (b : Breaker) → run.version ≡ 1 → part ≡ body_in run.size s → BodyRead part (Some b) → name ≡ number_at 0 8 part
    → StandsAs s (Some (record { name = name; size = run.size }))
stands-save s part run name f b ev ep r en =
    let x = r.0 in
    let g = r.1 in
    let eb : body_in run.size s ≡ body_of x = sym ep ∙ r.2 in
    let e : s ≡ run_of 1 (body_of x) ++ drop (512 * count_of run.size) s =
    f.2 ∙ ap (λ (n : ℕ). run_of n (body_in run.size s) ++ drop (512 * count_of run.size) s) ev ∙ ap (λ (y : List ℕ). run_of 1 y ++ drop (512 * count_of run.size) s) eb in
    let l : length (body_of x) ≡ run.size = ap length (sym eb) ∙ f.1 in
    let lp : length part ≡ run.size = ap length ep ∙ f.1 in
    let nm : number x.name ≡ name = sym (en ∙ sym (number_in 0 8 part (omega arith) (omega (arith, body-least x g, l, lp))) ∙ ap (λ (y : List ℕ). number (take 8 y)) r.2 ∙ ap number (body-name x g)) in
    (x, g, e, found-long s run f, l, nm)
