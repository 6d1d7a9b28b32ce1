-- The piece at the front of a text, by its length.
use Rattle.std.specs.Prelude.{◌≡◌, ◌≢◌, ◌≤◌, ◌<◌, ℕ, suc, ◌+◌, Bool, true, false, not, ◌||◌, ◌&&◌, ◌==◌, if◌then◌else◌, [], ◌∷◌, ◌++◌, length, take, slice_index, Option, Some, None, option_map}
use Rattle.std.specs.Char.{is_ascii_digit}
use Rattle.c_ast.specs.Lexeme.{Text, Meaning, escaped, is_plain, is_blank, is_letter, mark_of}
use Rattle.c_ast.specs.Lexical.{IsLongest}

-- the first len bytes of the text are its longest lexeme, and stand for m
pub record IsFront (text : Text) (len : ℕ) (m : Meaning) : Type 0 where
  pub front : Text
  pub rest : Text
  pub split : text ≡ front ++ rest
  pub size : length front ≡ len
  pub some : 0 < len
  pub longest : IsLongest front rest m

-- a byte that begins no blank, word, number or quoted text
abbrev pub is_other : ℕ → Bool
is_other b = if is_blank b || is_letter b || is_ascii_digit b || b == 39 || b == 34 then false else true

-- what begins the text is a mark, if it is a lexeme
pub record BeginsMark (text : Text) : Type 0 where
  pub some : 0 < length text
  pub other : is_other (slice_index text 0) ≡ true
  pub no_comment : slice_index text 0 ≡ 47 → (slice_index text 1 ≢ 42) × (slice_index text 1 ≢ 47)

-- what the element in front of a text stands for between quotes, and its length
abbrev pub plain_element : ℕ → ℕ → Option (ℕ × ℕ)
plain_element quote b = if is_plain quote b then Some (b, 1) else None

abbrev pub escaped_element : Text → Option (ℕ × ℕ)
escaped_element [] = None
escaped_element (b ∷ bs) = option_map (λ c. (c, 2)) (escaped b)

abbrev pub element : ℕ → Text → Option (ℕ × ℕ)
element quote [] = None
element quote (b ∷ bs) = if b == 92 then escaped_element bs else plain_element quote b

-- what a character stands for behind its opening quote, and its length with the closing one
abbrev pub plain_end : ℕ → Text → Option (ℕ × ℕ)
plain_end b [] = None
plain_end b (quote ∷ bs) = if is_plain 39 b && quote == 39 then Some (b, 2) else None

abbrev pub escaped_end : Text → Option (ℕ × ℕ)
escaped_end [] = None
escaped_end (b ∷ []) = None
escaped_end (b ∷ quote ∷ bs) = if quote == 39 then option_map (λ c. (c, 3)) (escaped b) else None

abbrev pub character_end : Text → Option (ℕ × ℕ)
character_end [] = None
character_end (b ∷ bs) = if b == 92 then escaped_end bs else plain_end b bs

-- a byte that stands before the end of a line
abbrev pub is_of_line : ℕ → Bool
is_of_line b = not (b == 10)

-- the length up to and with the first closing of a comment
abbrev pub longer : ℕ → Option ℕ → Option ℕ
longer n = option_map (λ len. n + len)

abbrev pub comment_end : Text → Option ℕ
comment_end [] = None
comment_end (b ∷ bs) = if b == 42 && slice_index bs 0 == 47 then Some 2 else option_map (λ len. suc len) (comment_end bs)

-- what a string stands for behind its opening quote, and its length with the closing one
abbrev pub with_element : Option ℕ → Option (Text × ℕ) → Option (Text × ℕ)
with_element None r = None
with_element (Some b) r = option_map (λ r. (b ∷ r.0, suc r.1)) r

abbrev pub one_longer : Text × ℕ → Text × ℕ
one_longer r = (r.0, suc r.1)

abbrev pub string_from : Bool → Text → Option (Text × ℕ)
string_from is_escaped [] = None
string_from true (b ∷ bs) = with_element (escaped b) (string_from false bs)
string_from false (b ∷ bs) =
    if b == 34 then Some ([], 1)
    else (if b == 92 then option_map one_longer (string_from true bs) else (if is_plain 34 b then with_element (Some b) (string_from false bs) else None))

abbrev pub string_end : Text → Option (Text × ℕ)
string_end = string_from false

-- what was read and its length, with what came before
abbrev pub behind : Text → ℕ → Option (Text × ℕ) → Option (Text × ℕ)
behind bytes n = option_map (λ r. (bytes ++ r.0, n + r.1))

-- no longer front of the text is a mark
abbrev pub IsLastMark : Text → ℕ → Type 0
IsLastMark text len = (k : ℕ) → len < k → k ≤ 3 → k ≤ length text → mark_of (take k text) ≡ None
