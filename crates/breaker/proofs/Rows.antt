-- Rows 3 to 8 of document 01's table, each met by an example, with what is left. Assumes nothing.
use Prim.Native.Nat.{ℕ}
use mathlib.Core.Path.{◌≡◌, refl, sym}
use mathlib.Core.Bool.{Bool, true, false, ◌&&◌}
use mathlib.Core.List.{List, [], ◌∷◌}
use native.Mathlib.Omega.{arith}
use lib.ListN.{length, replicate, length-replicate}
use borrow.Author.Tests.{le-leb, le-ltb}
use Rattle.error.specs.Told.{tell, refused}
use Rattle.error.specs.declared.Refusal.TheVariants.{Storage, Unsound, Full}
use Rattle.history.specs.Items.{evicted}
use Rattle.trip.specs.Policy.{Windowed}
use Rattle.breaker.specs.declared.Delay.{Delay}
use Rattle.breaker.specs.declared.Breaker.{Breaker}
use Rattle.breaker.specs.declared.Decision.TheVariants.{Retry, Impossible}
use Rattle.breaker.specs.Record.{Settings, State, Closed, HalfOpen, Open, settings, state, sound_config, sound_shared, sound}
use Rattle.breaker.specs.Rules.{Outcome, outcome, no_counts, in_closed, settled, aborted, admit}
use Rattle.breaker.specs.Calls.{after, kept, on_sound, admission, try_admit}
use Rattle.breaker.proofs.Guard.{guarded-storage, guarded-unsound}

-- 3: storage of 4,095 places; all is left
pub row3 : (rule : Settings → State → Outcome) (b : Breaker) → on_sound rule b (replicate 4095 0) ≡ after (refused Storage) b (replicate 4095 0)
unfolding on_sound
row3 rule b = sym (guarded-storage (λ r. after (refused r) b (replicate 4095 0)) (kept b.config (rule (settings b.config) (state b (replicate 4095 0)))) b (replicate 4095 0) (λ e. omega (arith, length-replicate {A = ℕ} 4095 0)))

-- 4: state code 3; all is left
pub row4 : (rule : Settings → State → Outcome) (b : Breaker) (s : List ℕ) → length s ≡ 4096 → b.shared.state ≡ 3 → on_sound rule b s ≡ after (refused Unsound) b s
unfolding sound sound_shared on_sound
row4 rule b s p k = sym (guarded-unsound (λ r. after (refused r) b s) _ b s p (rw k (never (sound_config b.config))))
  where
    never : (x : Bool) → (x && false) ≡ false
    never true = refl
    never false = refl

-- 5: 4,096 times, none of which the cutoff 0 evicts; all is left, the run too
abbrev watching : List ℕ → State
watching ts = record { state = Closed; generation = 0; run = 9; counts = no_counts; open_until = 0; list = ts }

abbrev window : Settings
window = record { policy = Windowed 3 100; cooldown = 1; trials = 1; required = 1 }

kept-all : (ts : List ℕ) → evicted 0 ts ≡ ts
unfolding evicted
kept-all [] = refl
kept-all (t ∷ ts) = rw (le-ltb t 0 (omega arith))

pub row5 : (ts : List ℕ) (p : Bool) → length ts ≡ 4096
    → settled window 60 (record { generation = 0; probe = p }) false (watching ts) ≡ outcome (refused Full) (watching ts)
unfolding settled in_closed
row5 ts p l = rw (kept-all ts, le-leb 4096 (length ts) (omega arith))

-- 6: Open until 1,030, at 1,029: a delay of 1; the record is left
abbrev shut : State
shut = record { state = Open; generation = 7; run = 2; counts = no_counts; open_until = 1030; list = [] }

pub row6 : (s : Settings) (trait : Bool) → admission trait 1029 s shut ≡ outcome (tell 6 (1 ∷ [])) shut
unfolding admit
row6 s true = refl
row6 s false = refl

-- 7 and 8: at 1,030 the admission goes HalfOpen with a probe, which the inner reply aborts; the transition stays
abbrev tried : State
tried = record { state = HalfOpen; generation = 8; run = 2; counts = no_counts; open_until = 1030; list = [] }

pub row7 : (s : Settings) (d : Delay) (capacity : ℕ) → try_admit (Retry d) capacity 1030 s shut ≡ outcome (tell 7 []) tried
unfolding admit aborted
row7 s d capacity = refl

pub row8 : (s : Settings) (capacity : ℕ) → try_admit Impossible capacity 1030 s shut ≡ outcome (tell 8 (1 ∷ capacity ∷ [])) tried
unfolding admit aborted
row8 s capacity = refl
