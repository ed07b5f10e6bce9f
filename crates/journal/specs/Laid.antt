-- Internal: what the writers leave in a buffer. Nobody need believe it.
use Rattle.std.specs.Prelude.{ℕ, ◌+◌, List, ◌++◌, length, take, drop}

-- xs laid over s from place `at` on
abbrev pub laid : ℕ → List ℕ → List ℕ → List ℕ
laid at xs s = take at s ++ (xs ++ drop (at + length xs) s)
