-- `blocks::runs::run_at` meets its contract. Assumes nothing.
use Rattle.std.proofs.Common.{◌≡◌, ◌+◌, ◌*◌, ◌/◌, ◌<◌, ◌≤◌, ◌++◌, ℕ, List, [], Some, refl, sym, ap, ◌∙◌, arith, length, take, drop, get_or, length-drop, length-take-le}
use native.Mathlib.Nat.{sub-zero}
use Rattle.le_bytes.specs.Bytes.{Bytes}
use Rattle.le_bytes.proofs.Little.{bytes-all, bytes_take}
use Rattle.blocks.specs.Block.{summed, version_in, count_in}
use Rattle.blocks.specs.Run.{count_of, run_of, Body, UsedIn, joined}
use Rattle.blocks.proofs.Every.{every-at, blocks-length, chunk-at, run-at}
use Rattle.blocks.proofs.RunBlocks.{Told, run-told, told-header, told-not, run_more, run-whole, run_none, part-facts}
use Rattle.blocks.proofs.Joins.{joined-more, bytes-joined, length-joined, finds-run}
use Rattle.blocks.proofs.runs.run_at.Goals.{After-header-count, In-loop-i}
use Rattle.blocks.proofs.runs.run_at.Goals as goal

-- what a run here would say, by its first block
told : (c : After-header-count) (w : ℕ) (body rest : List ℕ) → Bytes c.args.s.now → Body w body → c.args.s.now ≡ run_of w body ++ rest
    → Told c.args.s.now w (count_of (length body)) × (w ≡ c.header-version.result) × (count_of (length body) ≡ c.header-count.result)
told c w body rest k b e =
    let s = c.args.s.now in
    let t = run-told s w body rest b e in
    let h = told-header s w (count_of (length body)) k b.two_bytes t in
    let l = c.in_ok-first.ensures.item.3 in
    let f : c.in_ok-first.first.now ≡ take 512 s = l.1 [] ∙ ap (λ (x : List (List ℕ)). get_or x 0 []) c.blocks_of-blocks.ensures ∙ chunk-at (length s / 512) 0 s [] (omega (arith, t.long, t.some)) in
    (t, sym h.0 ∙ ap version_in (sym f) ∙ sym c.header-version.ensures, sym h.1 ∙ ap count_in (sym f) ∙ sym c.header-count.ensures)

pub returns-in_err-first : goal.returns-in_err-first
returns-in_err-first c = rw c.from_residual.ensures (λ ok w body rest b e.
    let t = run-told c.args.s.now w body rest b e in
    let l = blocks-length (length c.args.s.now / 512) c.args.s.now c.blocks_of-blocks.result.now c.blocks_of-blocks.ensures in
    let n = c.in_err-first.ensures.item.3 in
    omega (arith, t.long, t.some))

pub returns-then-count-lt1 : goal.returns-then-count-lt1
returns-then-count-lt1 c = λ ok w body rest b e.
    let t = told (goal.at.returns-then-count-lt1 c).After-header-count w body rest (bytes-all c.args.s.now (λ k. omega (arith, c.type_inv.s k))) b e in
    omega (arith, t.0.some, t.0.most, t.2, c.then-count-lt1.either)

pub returns-in_err-run : goal.returns-in_err-run
returns-in_err-run c = rw c.from_residual-in_err-run.ensures (λ ok w body rest b e.
    let t = told (goal.at.returns-in_err-run c).After-header-count w body rest (bytes-all c.args.s.now (λ k. omega (arith, c.type_inv.s k))) b e in
    omega (arith, t.0.long, t.2, c.from.ensures, c.in_err-run.ensures.lookup.0, blocks-length (length c.args.s.now / 512) c.args.s.now c.blocks_of-blocks.result.now c.blocks_of-blocks.ensures))

-- there is a block
here : (c : In-loop-i) → (c.loop-i.i < c.header-count.result) × (c.header-count.result ≤ length c.args.s.now / 512) × (get_or c.in_ok-run.run'.now c.loop-i.i [] ≡ take 512 (drop (512 * c.loop-i.i) c.args.s.now))
here c =
    let s = c.args.s.now in
    let i = c.loop-i.i in
    let g = c.in_ok-run.ensures.lookup.0 in
    let n = c.from.result in
    let t : i < length c.in_ok-run.run'.now = c.loop-i-test.true in
    let l = blocks-length (length s / 512) s c.blocks_of-blocks.result.now c.blocks_of-blocks.ensures in
    let h : i < n = omega (arith, g.3) in
    let f : n ≤ length s / 512 = omega (arith, g.1) in
    let r : c.in_ok-run.run'.now ≡ take n c.blocks_of-blocks.result.now = g.2 ∙ ap (λ (k : ℕ). take k c.blocks_of-blocks.result.now) (sub-zero n) in
    (omega (arith, c.from.ensures), omega (arith, c.from.ensures), ap (λ (x : List (List ℕ)). get_or x i []) r ∙ run-at n (length s / 512) i s [] c.blocks_of-blocks.result.now c.blocks_of-blocks.ensures f h)

pub returns-in_err-size : goal.returns-in_err-size
returns-in_err-size c = rw c.from_residual-in_err-size.ensures (λ ok w body rest b e.
    let s = c.args.s.now in
    let t = told (goal.at.returns-in_err-size c).After-header-count w body rest (bytes-all s (λ k. omega (arith, c.type_inv.s k))) b e in
    let h = here (goal.at.returns-in_err-size c).In-loop-i in
    let y = every-at summed (length s / 512) c.loop-i.i s ok (omega arith) in
    told-not s w (count_of (length body)) c.header-version.result c.header-count.result c.loop-i.i t.0 t.1 t.2 h.0 ((rw h.2 at c.in_err-size.ensures.found) y))

pub overflow_add-size : goal.overflow_add-size
overflow_add-size c = let h = here (goal.at.overflow_add-size c).In-loop-i in omega (arith, c.in_ok-size.ensures.most, c.loop-i.invariant.0)

pub loop-i-preserved : goal.loop-i-preserved
loop-i-preserved c =
    let h = here (goal.at.loop-i-preserved c).In-loop-i in
    let u = c.in_ok-size.field-0 in
    let m = c.in_ok-size.ensures.most in (
      omega arith,
      λ ok.
          let s = c.args.s.now in
          let v = c.header-version.result in
          let n = c.header-count.result in
          let i = c.loop-i.i in
          let size = c.loop-i.size in
          let b = take 512 (drop (512 * i) s) in
          let k = c.loop-i.invariant.1 ok in
          let q : size ≡ 496 * i = k.0 h.0 in
          let f : UsedIn b v i n (Some u) = (rw h.2 at c.in_ok-size.ensures.found) (every-at summed (length s / 512) i s ok (omega arith)) in
          let w : length b ≡ 512 = length-take-le 512 (drop (512 * i) s) (omega (arith, length-drop (512 * i) s)) in
          let p = part-facts b v i n u w m f in
          let xs = take size (joined i s) in
          let lx : length xs ≡ 496 * i = length-take-le size (joined i s) (omega (arith, length-joined i s (omega arith))) ∙ q in
          let g : take (size + u) (joined (i + 1) s) ≡ xs ++ take u (drop 8 b) = rw q (joined-more s i u (omega arith) m) in
          (λ j. let e = p.3 j in omega arith, λ j. omega (arith, p.2), rw g (run_more s xs (take u (drop 8 b)) v n i lx (omega (arith, p.0)) p.1 k.2)),
    )

pub returns : goal.returns
returns c = λ ok.
    let s = c.args.s.now in
    let v = c.header-version.result in
    let n = c.header-count.result in
    let i = c.loop-i.i in
    let size = c.loop-i.size in
    let g = c.in_ok-run.ensures.lookup.0 in
    let l = blocks-length (length s / 512) s c.blocks_of-blocks.result.now c.blocks_of-blocks.ensures in
    let t : length c.in_ok-run.run'.now ≤ i = c.loop-i-test.false in
    let a : i ≤ length c.in_ok-run.run'.now = c.loop-i.auto.i-end in
    let e : i ≡ n = omega (arith, g.3, c.from.ensures) in
    let o : n ≤ length s / 512 = omega (arith, g.1, c.from.ensures) in
    let k = c.loop-i.invariant.1 ok in
    let z = k.1 (omega arith) in
    let y : n ≡ count_of size = omega (arith, c.loop-i.invariant.0) in
    let j = joined n s in
    let lj : length (take size j) ≡ size = length-take-le size j (omega (arith, c.loop-i.invariant.0, length-joined n s (omega arith))) in
    let w : s ≡ run_of v (take size j) ++ drop (512 * n) s = run-whole s (take size j) v n n refl (ap count_of lj ∙ sym y) (rw e at k.2) in
    let bs = bytes-all s (λ x. omega (arith, c.type_inv.s x)) in
    finds-run s v n size y (record { two_bytes = omega (arith, c.header-version.type_inv); some = omega (arith, lj, c.if-count-lt1.false); most = omega (arith, lj, c.loop-i.invariant.0, c.if-count-gt-MOST_BLOCKS.false); bytes = bytes_take size j (bytes-joined n s bs) }) lj w

pub loop-i-init : goal.loop-i-init
loop-i-init c = (omega arith, λ ok. (λ _. refl, λ z. omega arith, run_none c.args.s.now (joined 0 c.args.s.now) c.header-version.result c.header-count.result))
