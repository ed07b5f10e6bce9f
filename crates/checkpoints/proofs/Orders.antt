-- A return leaves a sound breaker, and half-open a start of FinishingOrders. Assumes nothing.
use Prim.Native.Nat.{ℕ}
use mathlib.Core.Path.{◌≡◌, sym}
use mathlib.Core.Bool.{Bool, true, false, not}
use mathlib.Core.List.{List, [], ◌∷◌}
use lib.Dec.{eqb}
use lib.ListN.{length}
use Rattle.std.proofs.Common.{if◌then◌else◌}
use Rattle.error.specs.Told.{refused, nothing}
use Rattle.error.specs.declared.Refusal.TheVariants.{Storage, Unsound, Name}
use Rattle.error.proofs.OneToOne.{no-refusal}
use Rattle.history.specs.Items.{padded}
use Rattle.breaker.specs.declared.Breaker.{Breaker}
use Rattle.breaker.specs.Record.{state, sound}
use Rattle.breaker.specs.Rules.{done, returned}
use Rattle.breaker.specs.Calls.{After, after, kept}
use Rattle.breaker.proofs.Keeps.{sound-state, sound-returned}
use Rattle.breaker.proofs.Orders.{finishing-orders}
use Rattle.body.specs.Save.{Save}
use Rattle.saves.specs.Buffer.{Reading, wrong, saves, AllGood, Reads, all, same_bytes}
use Rattle.checkpoints.specs.Calls.{came_back, restored_from}
use Rattle.checkpoints.specs.Orders.{FinishingOrdersAfterReturn}

-- what is told 0 is sound
abbrev SoundIfDone : After → Type 0
SoundIfDone a = a.told ≡ nothing → sound a.breaker a.places ≡ true

module _ (name : List ℕ) (b : Breaker) (s : List ℕ) where
  back-sound : (ss : List Save) → AllGood ss → SoundIfDone (came_back name ss b s)
  back-sound [] g e = no-refusal Name [] (sym e)
  back-sound (x ∷ xs) g e = go (same_bytes name x.name) (back-sound xs g.2) e
    where
      found : After
      found = kept x.breaker.config (done (returned b.shared.generation (state x.breaker (padded x.items))))

      go : (same : Bool) → SoundIfDone (came_back name xs b s) → SoundIfDone (if same then found else came_back name xs b s)
      go true rest e =
          let st = state x.breaker (padded x.items) in
          sound-returned x.breaker.config st (sound-state x.breaker (padded x.items) g.0.is_sound) b.shared.generation
      go false rest e = rest e

  from-sound : (buffer : List ℕ) (used : ℕ) (x : Reading) → Reads buffer used x → SoundIfDone (restored_from x name b s)
  from-sound buffer used (wrong r) reads e = no-refusal r [] (sym e)
  from-sound buffer used (saves ss) (all f u v ws g p) e = back-sound ss g e

  guard-sound : (a : After) → SoundIfDone a → (x y : Bool) → SoundIfDone (if not x then after (refused Storage) b s else if not y then after (refused Unsound) b s else a)
  guard-sound a d false y e = no-refusal Storage [] (sym e)
  guard-sound a d true false e = no-refusal Unsound [] (sym e)
  guard-sound a d true true e = d e

pub finishing-orders-after-return : FinishingOrdersAfterReturn
finishing-orders-after-return buffer used x reads name b s told =
    let ok = guard-sound name b s (restored_from x name b s) (from-sound name b s buffer used x reads) (eqb (length s) 4096) (sound b s) told in
    (ok, λ half reading. finishing-orders reading _ _ ok half)
