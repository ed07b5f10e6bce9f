-- Internal: the record of its numbers. Nobody need believe it.
use Rattle.std.specs.Prelude.{ℕ, List, [], ◌∷◌, get_or}
use Rattle.std.specs.Coded.{×_prop, Unit-prop, le_prop}
use Rattle.le_bytes.specs.Bytes.{Fit}
use Rattle.breaker.specs.declared.Breaker.{Breaker}

unfoldable pub breaker_of : List ℕ → Breaker
breaker_of vs =
    record {
      config =
          record {
            kind = get_or vs 0 0;
            limit = get_or vs 1 0;
            ratio_bits = get_or vs 2 0;
            min_calls = get_or vs 3 0;
            period_ms = get_or vs 4 0;
            cooldown_ms = get_or vs 5 0;
            trials = get_or vs 6 0;
            required = get_or vs 7 0;
          };
      shared =
          record {
            state = get_or vs 8 0;
            generation = get_or vs 9 0;
            run = get_or vs 10 0;
            counts = record { inflight = get_or vs 11 0; trait_probes = get_or vs 12 0; successes = get_or vs 13 0 };
            open_until = get_or vs 14 0;
            len = get_or vs 15 0;
          };
    }

-- numbers fit their widths in one way
pub Fit-prop : (ws vs : List ℕ) → IsProp (Fit ws vs)
Fit-prop [] [] = Unit-prop
Fit-prop [] (v ∷ vs) = λ x y. absurd x
Fit-prop (w ∷ ws) [] = λ x y. absurd x
Fit-prop (w ∷ ws) (v ∷ vs) = ×_prop le_prop (Fit-prop ws vs)
