-- The bytes of ints.
use Rattle.std.specs.Prelude.{ℕ, ℤ, List, [], ◌∷◌, ◌++◌}
use Rattle.std.specs.Int.{w32, cast_unsigned, to_le_bytes}

-- the bytes of an int
abbrev pub word_bytes : ℤ → List ℕ
word_bytes x = to_le_bytes w32 (cast_unsigned w32 x)

-- the bytes of several, in order
abbrev pub words_bytes : List ℤ → List ℕ
words_bytes [] = []
words_bytes (x ∷ xs) = word_bytes x ++ words_bytes xs
