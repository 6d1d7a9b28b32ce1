-- Names of a valid program.
use Rattle.std.specs.Prelude.{ℕ, ◌-◌, ◌^◌, Bool, true, false, ◌&&◌, ◌||◌, not, ◌==◌, nat_eq, nat_lt, bytes_eq, codes, List, [], ◌∷◌, ◌++◌, map, length, slice_get}
use Rattle.std.specs.Char.{is_ascii_alphabetic, is_ascii_alphanumeric}
use Rattle.std.specs.List.{list_all, list_any}
use Rattle.std.specs.Option.{option_map_or}
use Rattle.src_meaning.specs.declared.validity.TheConstants.{KEYWORDS, BUILT_INS}
use Rattle.src_tree.specs.declared.program.Global.{Global}
use Rattle.src_tree.specs.declared.program.Function.{Function}

abbrev pub Text : Type 0
Text = List ℕ

abbrev pub is_letter : ℕ → Bool
is_letter b = is_ascii_alphabetic b || b == 95

abbrev pub is_word_byte : ℕ → Bool
is_word_byte b = is_ascii_alphanumeric b || b == 95

-- a letter or `_`, and then letters, digits and `_`
abbrev pub is_word : Text → Bool
is_word [] = false
is_word (b ∷ bs) = is_letter b && list_all is_word_byte bs

abbrev pub is_keyword : Text → Bool
is_keyword word = list_any (λ w. bytes_eq w.now word) KEYWORDS

abbrev pub is_identifier : Text → Bool
is_identifier word = is_word word && not (is_keyword word)

-- no two are equal
abbrev pub are_distinct : List Text → Bool
are_distinct [] = true
are_distinct (x ∷ xs) = not (list_any (bytes_eq x) xs) && are_distinct xs

-- distinct identifiers, fewer than 4,294,967,295
abbrev pub are_names : List Text → Bool
are_names names = nat_lt (length names) (2 ^ 32 - 1) && (list_all is_identifier names && are_distinct names)

-- the number names an entry of the names
abbrev pub is_name : List Text → ℕ → Bool
is_name names n = nat_lt n (length names)

-- the name of that number is this word
abbrev pub is_called : List Text → ℕ → Text → Bool
is_called names n word = option_map_or (bytes_eq word) (slice_get names n) false

-- `send`, `malloc`, `calloc`, `free` and `panic`, which a program can't declare
abbrev pub is_built_in : List Text → ℕ → Bool
is_built_in names n = list_any (λ w. is_called names n w.now) BUILT_INS

-- no two globals have one name
abbrev pub globals_differ : List Global → Bool
globals_differ [] = true
globals_differ (g ∷ gs) = not (list_any (λ h. nat_eq g.name h.name) gs) && globals_differ gs

-- no two functions have one name
abbrev pub functions_differ : List Function → Bool
functions_differ [] = true
functions_differ (f ∷ fs) = not (list_any (λ h. nat_eq f.name h.name) fs) && functions_differ fs

abbrev pub is_no_function : List Function → Global → Bool
is_no_function fs g = not (list_any (λ f. nat_eq g.name f.name) fs)

-- globals and functions have names of one space
abbrev pub names_differ : List Global → List Function → Bool
names_differ gs fs = globals_differ gs && (functions_differ fs && list_all (is_no_function fs) gs)

abbrev pub is_free : List Text → ℕ → Bool
is_free names n = is_name names n && not (is_built_in names n)
