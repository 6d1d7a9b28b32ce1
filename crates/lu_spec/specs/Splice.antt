-- Ranges of lists.
use Rattle.std.specs.Prelude.{ℕ, ◌+◌, List, ◌++◌, length, take, drop}

-- so many elements from a place on
abbrev pub piece_at : {A : Type 0} → List A → ℕ → ℕ → List A
piece_at xs at count = take count (drop at xs)

-- the list with a piece in place of as many elements from a place on
abbrev pub spliced : {A : Type 0} → List A → ℕ → List A → List A
spliced xs at piece = take at xs ++ (piece ++ drop (at + length piece) xs)
