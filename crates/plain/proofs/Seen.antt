-- What a preview saw is what its call would leave, but for the places. Assumes nothing.
use Rattle.std.proofs.Common.{◌≡◌, [], refl, Result, Ok, Err}
use Rattle.error.specs.declared.Refusal.{Refusal}
use Rattle.breaker.specs.declared.Breaker.{Breaker}
use Rattle.breaker.specs.Calls.{done_by_value}
use Rattle.preview.specs.Preview.{previewed}
use Rattle.crossing.specs.declared.PlainPreview.{PlainPreview}
use Rattle.crossing.specs.Crossing.{Crossing, crossed, packed_preview}

abbrev pub seen : Crossing → PlainPreview
seen x = record { told = x.told; breaker = x.breaker; len = x.breaker.shared.len }

pub seen-crossed : (called : Result Breaker Refusal) (handed : Breaker) → seen (crossed (done_by_value called handed [])) ≡ packed_preview (previewed called handed)
unfolding crossed
seen-crossed (Ok next) handed = refl
seen-crossed (Err r) handed = refl
