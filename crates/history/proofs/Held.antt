-- What a change makes of a sound list: every place is the rule's list, padded, and the list is sound again. Assumes nothing.
--     replaced-held, clear-held, clear-sound   any kind
--     outcome-sound, failures-held             Ratio
--     time-sound, evict-sound                  Windowed
use Rattle.std.proofs.Common.{◌≡◌, ℕ, ◌-◌, ◌%◌, ◌^◌, ◌<◌, ◌≤◌, true, false, eqb, leb, List, [], ◌∷◌, ◌++◌, length, drop, refl, ap, ◌∙◌, arith, length-append, length-drop, length-take-le, lt-ltb, eq-eqb, le-leb, leb-false, if◌then◌else◌}
use Rattle.error.specs.Told.{tell}
use Rattle.error.specs.declared.Refusal.TheVariants.{Full}
use Rattle.history.specs.declared.Items.{Items}
use Rattle.history.specs.declared.Items.TheVariants.{Nothing, Outcomes, Times}
use Rattle.history.specs.Items.{view, padded, all_below, fits, are_items, sound_list, failures, item_sum, newest, evicted}
use Rattle.history.specs.Change.{Left, left, held, become, refuse, on_list, full, replaced, cleared}
use Rattle.history.proofs.Laws.{below-append, below-drop}
use Rattle.history.proofs.Counts.{count-le, sum-failures}
use Rattle.history.proofs.Laid.{laid-padded}
use Rattle.history.proofs.Sound.{sound→, →sound, fits-outcomes, outcomes-fit}
use Rattle.history.proofs.Change.{evicted-le, evicted-more}

pub newest-le : (w : ℕ) (ys : List ℕ) → length (newest w ys) ≤ w
newest-le w ys = simp length-drop (omega arith)

module _ (items : Items) (n : ℕ) (s : List ℕ) (ok : sound_list items n s ≡ true) where
  fine : (kind : Items) (x : Left) → fits kind n ≡ true → on_list kind n s x ≡ x
  fine kind x f = simp (eq-eqb _ _ (sound→ items n s ok).places, f)

  becomes : (xs : List ℕ) → length xs ≤ 4096 → become xs n s ≡ held xs
  becomes xs h =
      let z = sound→ items n s ok in
      ap (λ (t : List ℕ). left (tell 0 (length xs ∷ [])) t) (laid-padded n xs s z.le z.places h z.is_padded)

  pub replaced-held : (gone : ℕ) (new : List ℕ) → length (drop gone (view n s) ++ new) ≤ 4096 → replaced gone new n s ≡ held (drop gone (view n s) ++ new)
  unfolding replaced
  replaced-held gone new h =
      let xs = drop gone (view n s) ++ new in
      fine Times (if leb (length xs) 4096 then become xs n s else refuse Full s) (le-leb n 4096 (sound→ items n s ok).le)
      ∙ rw (le-leb (length xs) 4096 h) (becomes xs h)

  pub clear-held : cleared n s ≡ held []
  unfolding cleared
  clear-held = fine Times (become [] n s) (le-leb n 4096 (sound→ items n s ok).le) ∙ becomes [] (omega arith)

items-nil : (items : Items) → are_items items [] ≡ true
unfolding all_below
items-nil Nothing = refl
items-nil (Outcomes w) = refl
items-nil Times = refl

pub clear-sound : (items : Items) → fits items 0 ≡ true → sound_list items 0 (padded []) ≡ true
clear-sound items f = →sound items [] f (items-nil items)

-- ---- Ratio
module _ (w o n : ℕ) (s : List ℕ) (ok : sound_list (Outcomes w) n s ≡ true) where
  abbrev pub outcomes : List ℕ
  outcomes = newest w (view n s ++ o ∷ [])

  fit : (1 ≤ w) × (w ≤ 4096) × (n ≤ w)
  fit = fits-outcomes w n (sound→ (Outcomes w) n s ok).length_fits

  pub outcome-sound : o < 2 → sound_list (Outcomes w) (length outcomes) (padded outcomes) ≡ true
  unfolding all_below
  outcome-sound h =
      →sound (Outcomes w) outcomes (outcomes-fit w (length outcomes) fit.0 fit.1 (newest-le w (view n s ++ o ∷ [])))
      (below-drop 2 (length (view n s ++ o ∷ []) - w) (view n s ++ o ∷ []) (rw (below-append, (sound→ (Outcomes w) n s ok).of_its_kind, lt-ltb o 2 h)))

-- ---- Windowed
module _ (reading period n : ℕ) (s : List ℕ) (ok : sound_list Times n s ≡ true) where
  abbrev cutoff : ℕ
  cutoff = reading - period

  abbrev pub times : List ℕ
  times = evicted cutoff (view n s ++ reading ∷ [])

  room : full cutoff (view n s) ≡ false → length times ≤ 4096
  room e = rw (evicted-more cutoff reading (view n s) (omega arith), length-append) (omega (arith, leb-false 4096 (length (evicted cutoff (view n s))) e))

  pub time-sound : full cutoff (view n s) ≡ false → sound_list Times (length times) (padded times) ≡ true
  time-sound e = →sound Times times (le-leb (length times) 4096 (room e)) refl

  short : length (evicted cutoff (view n s)) ≤ 4096
  short = omega (arith, evicted-le cutoff (view n s), length-take-le n s (omega (arith, (sound→ Times n s ok).le, (sound→ Times n s ok).places)), (sound→ Times n s ok).le)

  pub evict-sound : sound_list Times (length (evicted cutoff (view n s))) (padded (evicted cutoff (view n s))) ≡ true
  evict-sound = →sound Times (evicted cutoff (view n s)) (le-leb (length (evicted cutoff (view n s))) 4096 short) refl

-- ---- the count of a sound list's failures, from a place on
module _ (w n first : ℕ) (s : List ℕ) (ok : sound_list (Outcomes w) n s ≡ true) where
  pub failures-le : failures (drop first (view n s)) ≤ 4096
  failures-le =
      let z = sound→ (Outcomes w) n s ok in
      omega (arith, count-le (λ x. eqb x 1) (drop first (view n s)), length-drop first (view n s), length-take-le n s (omega (arith, z.le, z.places)), z.le)

  pub failures-held : item_sum (drop first (view n s)) % 2 ^ 64 ≡ failures (drop first (view n s))
  failures-held = omega (arith, sum-failures (drop first (view n s)) (below-drop 2 first (view n s) (sound→ (Outcomes w) n s ok).of_its_kind), failures-le)
