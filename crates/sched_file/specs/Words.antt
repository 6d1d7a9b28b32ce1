-- The words of a line.
use Rattle.std.specs.Prelude.{ℕ, suc, zero, List, [], ◌∷◌, Bool, false, not, nat_eq, Option, Some, None, if◌then◌else◌}

-- a space
abbrev pub is_blank : ℕ → Bool
is_blank b = nat_eq b 32

abbrev pub begins : (ℕ → Bool) → List ℕ → Bool
begins test [] = false
begins test (b ∷ bs) = test b

-- a byte put before the first piece
abbrev pub onto_first : ℕ → List (List ℕ) → List (List ℕ)
onto_first b [] = (b ∷ []) ∷ []
onto_first b (piece ∷ more) = (b ∷ piece) ∷ more

-- the longest runs of bytes that are no spaces
abbrev pub words_of : List ℕ → List (List ℕ)
words_of [] = []
words_of (b ∷ bs) =
    if is_blank b then words_of bs
    else (if begins (λ c. not (is_blank c)) bs then onto_first b (words_of bs) else (b ∷ []) ∷ words_of bs)

-- the length of the run of such bytes that a text begins with
abbrev pub run_length : List ℕ → ℕ
run_length [] = zero
run_length (b ∷ bs) = if is_blank b then zero else suc (run_length bs)

-- the one word of a list, and the two words
abbrev pub one_of : List (List ℕ) → Option (List ℕ)
one_of (word ∷ []) = Some word
one_of _ = None

abbrev pub two_of : List (List ℕ) → Option (List ℕ × List ℕ)
two_of (first ∷ second ∷ []) = Some (first, second)
two_of _ = None
