-- Nothing is lost where an answer is packed: what was told is read back from the four numbers. Assumes nothing.
use Rattle.std.proofs.Common.{◌≡◌, ℕ, List, [], ◌∷◌, refl, sym, ap, ◌∙◌, eqb, take, map, get_or, if◌then◌else◌, Option, Some, None, Result, Ok, Err}
use Rattle.error.specs.Told.{Told as Answer, tell, nothing, number_of, refused, told_or, told_by}
use Rattle.error.specs.declared.Refusal.{Refusal}
use Rattle.error.specs.declared.Refusal.TheVariants.{Time, Limit, Storage, Unsound, Full, Turn, Damaged, Version, Name}
use Rattle.blocks.specs.Block.{judged_told}
use Rattle.breaker.specs.declared.Ticket.{Ticket}
use Rattle.breaker.specs.declared.Delay.{Delay}
use Rattle.breaker.specs.declared.NotAdmitted.{NotAdmitted}
use Rattle.breaker.specs.declared.NotAdmitted.TheVariants as NotAdmittedIs
use Rattle.breaker.specs.declared.Tried.{Tried}
use Rattle.breaker.specs.declared.Tried.TheVariants as TriedIs
use Rattle.breaker.specs.declared.Decision.{Decision}
use Rattle.breaker.specs.declared.Decision.TheVariants as DecisionIs
use Rattle.breaker.specs.Answers.{decision_values, reservation_values, not_admitted, granted_told, inner_told, admission_told, finished_told, tried_told, standing_told, notice_told, decided_told, reserved_told, counted_told}
use Rattle.checkpoints.specs.Calls.{saving_told}
use Rattle.crossing.specs.declared.Told.{Told}
use Rattle.crossing.specs.Crossing.{packed}

-- an answer, read back: `width` says how many values it has, by its number and its first value
abbrev pub restored : (ℕ → ℕ → ℕ) → Told → Answer
restored width t = tell t.number (take (width t.number t.v1) (t.v1 ∷ t.v2 ∷ t.v3 ∷ []))

-- what is read back is known by the four numbers
pub known_by : (width : ℕ → ℕ → ℕ) (s t : Answer) → restored width (packed s) ≡ s → restored width (packed t) ≡ t → packed s ≡ packed t → s ≡ t
known_by width s t p q e = sym p ∙ ap (restored width) e ∙ q

-- ---- the widths

abbrev pub ticket_width : ℕ → ℕ → ℕ
ticket_width n v =
    if eqb n 0 then 2
    else if eqb n 6 then 1
    else if eqb n 8 then 2
    else 0

abbrev pub delay_width : ℕ → ℕ → ℕ
delay_width n v = if eqb n 6 then 1 else 0

abbrev pub count_width : ℕ → ℕ → ℕ
count_width n v = if eqb n 0 then 1 else 0

-- a place and a length
abbrev pub part_width : ℕ → ℕ → ℕ
part_width n v = if eqb n 0 then 2 else 0

-- kind 2 has a delay for a decision, and kind 1 for a reservation
abbrev pub kind_width : ℕ → ℕ → ℕ → ℕ
kind_width delayed n v =
    if eqb n 0 then (if eqb v delayed then 2 else 1)
    else 0

-- ---- a refusal has no value

-- a reading of the number alone that is right for each refusal is right for all
abbrev Right : (ℕ → Answer) → ℕ → Type 0
Right back n = back n ≡ tell n []

pub refused-back : (back : ℕ → Answer) (r : Refusal)
    → Right back 1 → Right back 2 → Right back 3 → Right back 4 → Right back 5 → Right back 11 → Right back 13 → Right back 14 → Right back 15
    → back (number_of r) ≡ refused r
refused-back back Time p1 p2 p3 p4 p5 p11 p13 p14 p15 = p1
refused-back back Limit p1 p2 p3 p4 p5 p11 p13 p14 p15 = p2
refused-back back Storage p1 p2 p3 p4 p5 p11 p13 p14 p15 = p3
refused-back back Unsound p1 p2 p3 p4 p5 p11 p13 p14 p15 = p4
refused-back back Full p1 p2 p3 p4 p5 p11 p13 p14 p15 = p5
refused-back back Turn p1 p2 p3 p4 p5 p11 p13 p14 p15 = p11
refused-back back Damaged p1 p2 p3 p4 p5 p11 p13 p14 p15 = p13
refused-back back Version p1 p2 p3 p4 p5 p11 p13 p14 p15 = p14
refused-back back Name p1 p2 p3 p4 p5 p11 p13 p14 p15 = p15

-- so says a width, of the nine numbers
abbrev pub Bare : (ℕ → ℕ → ℕ) → Type 0
Bare width = map (λ n. width n 0) (1 ∷ 2 ∷ 3 ∷ 4 ∷ 5 ∷ 11 ∷ 13 ∷ 14 ∷ 15 ∷ []) ≡ 0 ∷ 0 ∷ 0 ∷ 0 ∷ 0 ∷ 0 ∷ 0 ∷ 0 ∷ 0 ∷ []

pub bare-back : (width : ℕ → ℕ → ℕ) → Bare width → (r : Refusal) (zeros : List ℕ) → tell (number_of r) (take (width (number_of r) 0) zeros) ≡ refused r
bare-back width bare r zeros =
    let at : (n i : ℕ) → tell n (take (get_or (map (λ m. width m 0) (1 ∷ 2 ∷ 3 ∷ 4 ∷ 5 ∷ 11 ∷ 13 ∷ 14 ∷ 15 ∷ [])) i 0) zeros) ≡ tell n (take (get_or (0 ∷ 0 ∷ 0 ∷ 0 ∷ 0 ∷ 0 ∷ 0 ∷ 0 ∷ 0 ∷ []) i 0) zeros)
    = λ n i. ap (λ (ws : List ℕ). tell n (take (get_or ws i 0) zeros)) bare
    in
    refused-back (λ n. tell n (take (width n 0) zeros)) r (at 1 0) (at 2 1) (at 3 2) (at 4 3) (at 5 4) (at 11 5) (at 13 6) (at 14 7) (at 15 8)

-- ---- an answer is read back where what it tells, and what is told in its place, is

module _ (width : ℕ → ℕ → ℕ) where
  abbrev Back : Answer → Type 0
  Back t = restored width (packed t) ≡ t

  or-back : {A E : Type 0} (answer : A → Answer) (instead : E → Answer) → ((a : A) → Back (answer a)) → ((e : E) → Back (instead e)) → (x : Result A E) → Back (told_or answer instead x)
  or-back answer instead f g (Ok a) = f a
  or-back answer instead f g (Err e) = g e

  by-back : {A : Type 0} (answer : A → Answer) → Bare width → ((a : A) → Back (answer a)) → (x : Result A Refusal) → Back (told_by answer x)
  by-back answer bare f = or-back answer refused f (λ r. bare-back width bare r (0 ∷ 0 ∷ 0 ∷ []))

  shed-back : {A : Type 0} (answer : A → Answer) → Bare width → ((v : ℕ) → width 6 v ≡ 1) → ((a : A) → Back (answer a)) → (x : Result A NotAdmitted) → Back (told_or answer not_admitted x)
  shed-back answer bare one f = or-back answer not_admitted f instead
    where
      instead : (e : NotAdmitted) → Back (not_admitted e)
      instead (NotAdmittedIs.Shed d) = ap (λ (k : ℕ). tell 6 (take k (d.ms ∷ 0 ∷ 0 ∷ []))) (one d.ms)
      instead (NotAdmittedIs.Refused r) = bare-back width bare r (0 ∷ 0 ∷ 0 ∷ [])

-- ---- the ten answers

pub admission-back : (a : Result Ticket NotAdmitted) → restored ticket_width (packed (admission_told a)) ≡ admission_told a
admission-back = shed-back ticket_width granted_told refl (λ v. refl) (λ t. refl)

pub finished-back : (a : Result (Unit {0}) Refusal) → restored delay_width (packed (finished_told a)) ≡ finished_told a
finished-back = by-back delay_width (λ u. nothing) refl (λ u. refl)

pub tried-back : (a : Result Tried NotAdmitted) → restored ticket_width (packed (tried_told a)) ≡ tried_told a
tried-back = shed-back ticket_width inner_told refl (λ v. refl) back
  where
    back : (a : Tried) → restored ticket_width (packed (inner_told a)) ≡ inner_told a
    back (TriedIs.Granted t) = refl
    back TriedIs.Retry = refl
    back (TriedIs.Impossible cost capacity) = refl

pub standing-back : (a : Result (Unit {0}) NotAdmitted) → restored delay_width (packed (standing_told a)) ≡ standing_told a
standing-back = shed-back delay_width (λ u. nothing) refl (λ v. refl) (λ u. refl)

pub counted_back : (a : Result ℕ Refusal) → restored count_width (packed (counted_told a)) ≡ counted_told a
counted_back = by-back count_width (λ n. tell 0 (n ∷ [])) refl (λ n. refl)

pub notice-back : (a : Result ℕ Refusal) → restored count_width (packed (notice_told a)) ≡ notice_told a
notice-back = counted_back

pub saving-back : (a : Result ℕ Refusal) → restored count_width (packed (saving_told a)) ≡ saving_told a
saving-back = counted_back

pub judged-back : (a : Result ℕ Refusal) → restored part_width (packed (judged_told a)) ≡ judged_told a
judged-back = by-back part_width (λ used. tell 0 (8 ∷ used ∷ [])) refl (λ used. refl)

pub decided-back : (a : Result Decision Refusal) → restored (kind_width 2) (packed (decided_told a)) ≡ decided_told a
decided-back = by-back (kind_width 2) (λ d. tell 0 (decision_values d)) refl back
  where
    back : (d : Decision) → restored (kind_width 2) (packed (tell 0 (decision_values d))) ≡ tell 0 (decision_values d)
    back DecisionIs.Acquired = refl
    back (DecisionIs.Retry d) = refl
    back DecisionIs.Impossible = refl

pub reserved-back : (a : Result (Option Delay) Refusal) → restored (kind_width 1) (packed (reserved_told a)) ≡ reserved_told a
reserved-back = by-back (kind_width 1) (λ w. tell 0 (reservation_values w)) refl back
  where
    back : (w : Option Delay) → restored (kind_width 1) (packed (tell 0 (reservation_values w))) ≡ tell 0 (reservation_values w)
    back (Some d) = refl
    back None = refl
