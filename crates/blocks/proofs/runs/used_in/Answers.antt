-- `blocks::runs::used_in` meets its contract: each test is one of what is read of a block. Assumes nothing.
use Rattle.std.proofs.Common.{◌≡◌, ℕ, true, None, sym, ◌∙◌, arith}
use Rattle.std.proofs.lemmas.Bool.{false≢true}
use Rattle.le_bytes.proofs.Little.{bytes-all}
use Rattle.blocks.specs.Block.{may_hold, version_in, index_in, count_in, used_in}
use Rattle.blocks.specs.Run.{UsedIn}
use Rattle.blocks.proofs.Blocks.{Reads, may-some, reads_of, reads-version, reads-index, reads-count, no_block, is_block}
use Rattle.blocks.proofs.Judging.{proper→, reads-proper}
use Rattle.blocks.proofs.runs.used_in.Goals.{Joined-else-header-version, else-header-version-via-then-header-version+then-header-index+then-header-count+else-is_proper, else-header-version-via-then-header-version+then-header-index+else-header-count, else-header-version-via-then-header-version+else-header-index, else-header-version-via-else-header-version}
use Rattle.blocks.proofs.runs.used_in.Goals as goal

pub returns-then-is_proper-clause-most : goal.returns-then-is_proper-clause-most
returns-then-is_proper-clause-most c =
    let m = (may-some _ _ _ (proper→ c.args.b.now (sym c.is_proper.ensures ∙ c.if-is_proper.true)).0).2 in omega (arith, m, c.header-then-is_proper.ensures)

pub returns-then-is_proper-clause-found : goal.returns-then-is_proper-clause-found
returns-then-is_proper-clause-found c = λ ok.
    let b = c.args.b.now in
    let v : version_in b ≡ c.args.version = sym c.header.ensures ∙ c.if-header-version.true in
    let i : index_in b ≡ c.args.index = sym c.header-then-header-version.ensures ∙ c.if-header-index.true in
    let n : count_in b ≡ c.args.count = sym c.header-then-header-index.ensures ∙ c.if-header-count.true in
    let u : used_in b ≡ c.from.result = sym (c.from.ensures ∙ c.header-then-is_proper.ensures) in
    let p = proper→ b (sym c.is_proper.ensures ∙ c.if-is_proper.true) in
    is_block b c.args.version c.args.index c.args.count (bytes-all b c.fits-b) c.from.result (reads_of b c.args.version c.args.index c.args.count c.from.result c.told-b ok v i n u (rw u at p.1)) (rw (i, n, u) at p.0)

-- no block, where nothing can be read of it
none : (c : Joined-else-header-version) → ((u : ℕ) → Reads c.args.b.now c.args.version c.args.index c.args.count u → may_hold c.args.index c.args.count u ≡ true → ⊥) → UsedIn c.args.b.now c.args.version c.args.index c.args.count None
none c f = no_block c.args.b.now c.args.version c.args.index c.args.count (bytes-all c.args.b.now c.fits-b) (omega (arith, c.ranges.version)) (omega (arith, c.ranges.index)) (omega (arith, c.ranges.count)) f

pub returns-else-header-version-clause-found : goal.returns-else-header-version-clause-found
returns-else-header-version-clause-found c = λ ok. none c (λ u r m.
    elim c.else-header-version.branch [
      | else-header-version-via-then-header-version+then-header-index+then-header-count+else-is_proper w ↦ absurd (false≢true (sym w.if-is_proper.false ∙ w.is_proper.ensures ∙ reads-proper _ _ _ _ _ r m))
      | else-header-version-via-then-header-version+then-header-index+else-header-count w ↦ w.if-header-count.false (w.header-then-header-index.ensures ∙ reads-count _ _ _ _ _ r)
      | else-header-version-via-then-header-version+else-header-index w ↦ w.if-header-index.false (w.header-then-header-version.ensures ∙ reads-index _ _ _ _ _ r)
      | else-header-version-via-else-header-version w ↦ w.if-header-version.false (c.header.ensures ∙ reads-version _ _ _ _ _ r)
    ])
