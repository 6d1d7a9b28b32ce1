-- Lexemes: the bytes that blanks, comments and tokens are spelled with, and what they stand for.
use Rattle.std.specs.Prelude.{ℕ, ◌+◌, ◌*◌, ◌-◌, ◌^◌, Bool, true, false, not, ◌&&◌, ◌||◌, if◌then◌else◌, ◌==◌, nat_lt, bytes_eq, codes, List, [], ◌∷◌, map, length, drop, take_while, fold, slice_index, Option, Some, None, option_map}
use Rattle.std.specs.Char.{is_ascii_digit, is_ascii_hexdigit, is_ascii_alphabetic, is_ascii_alphanumeric}
use Rattle.std.specs.List.{list_all}
use Rattle.c_ast.specs.declared.token.Token.{Token}
use Rattle.c_ast.specs.declared.token.Token.TheVariants as token
use Rattle.c_ast.specs.declared.token.Keyword.{Keyword}
use Rattle.c_ast.specs.declared.token.Reserved.{Reserved}
use Rattle.c_ast.specs.declared.token.Mark.{Mark}
use Rattle.c_ast.specs.declared.token.Number.{Number}
use Rattle.c_ast.specs.declared.token.NumberKind.{NumberKind}
use Rattle.c_ast.specs.declared.token.NumberKind.TheVariants.{Int, UnsignedInt, LongLong, UnsignedLongLong}
use Rattle.c_ast.specs.declared.spelling.TheConstants.{KEYWORDS, RESERVED_WORDS, MARKS}

abbrev pub Text : Type 0
Text = List ℕ

pub data Meaning : Type 0 where
  -- a blank or a comment
  nothing : Meaning
  one : Token → Meaning
  -- the bytes have the form of a number, and no value
  no_number : Meaning
  -- a comment that isn't closed
  unclosed : Meaning

-- what stands beside a word in a table
abbrev pub look_up : {A : Type 0} → List (Text × A) → Text → Option A
look_up [] word = None
look_up (row ∷ rows) word = if bytes_eq row.0 word then Some row.1 else look_up rows word

-- the meaning where the list is empty
abbrev pub where_empty : Text → Meaning → Option Meaning
where_empty [] m = Some m
where_empty (b ∷ bs) m = None

abbrev pub where_true : Bool → Meaning → Option Meaning
where_true true m = Some m
where_true false m = None

-- space, tab, LF, CR
abbrev pub is_blank : ℕ → Bool
is_blank b = b == 32 || b == 9 || b == 10 || b == 13

abbrev pub is_letter : ℕ → Bool
is_letter b = is_ascii_alphabetic b || b == 95

abbrev pub is_word_byte : ℕ → Bool
is_word_byte b = is_ascii_alphanumeric b || b == 95

-- ---- words

abbrev pub reserved_or_name : Option Reserved → Text → Token
reserved_or_name (Some r) word = token.Reserved r
reserved_or_name None word = token.Identifier word

abbrev pub keyword_or_name : Option Keyword → Text → Token
keyword_or_name (Some k) word = token.Keyword k
keyword_or_name None word = reserved_or_name (look_up (map (λ row. (row.0.now, row.1)) RESERVED_WORDS) word) word

-- a keyword, a reserved word or an identifier
unfoldable pub word_token : Text → Token
word_token word = keyword_or_name (look_up (map (λ row. (row.0.now, row.1)) KEYWORDS) word) word

-- ---- numbers

-- the numbers of a kind are below it
abbrev pub limit_of : NumberKind → ℕ
limit_of Int = 2 ^ 31
limit_of UnsignedInt = 2 ^ 32
limit_of LongLong = 2 ^ 63
limit_of UnsignedLongLong = 2 ^ 64

-- the kinds that a suffix allows, the one to be taken first in front; none where it is no suffix
abbrev pub kinds_of : Bool → Text → List NumberKind
kinds_of is_hexadecimal suffix =
    if bytes_eq suffix [] then (if is_hexadecimal then Int ∷ UnsignedInt ∷ LongLong ∷ UnsignedLongLong ∷ [] else Int ∷ LongLong ∷ [])
    else (if bytes_eq suffix (codes "u") || bytes_eq suffix (codes "U") then UnsignedInt ∷ UnsignedLongLong ∷ []
    else (if bytes_eq suffix (codes "ll") || bytes_eq suffix (codes "LL") then (if is_hexadecimal then LongLong ∷ UnsignedLongLong ∷ [] else LongLong ∷ [])
    else (if bytes_eq suffix (codes "ull") || bytes_eq suffix (codes "ULL") then UnsignedLongLong ∷ [] else [])))

-- the number of the first kind that holds the value
abbrev pub first_that_holds : ℕ → List NumberKind → Option Number
first_that_holds value [] = None
first_that_holds value (kind ∷ kinds) = if nat_lt value (limit_of kind) then Some (record { value = value; kind = kind }) else first_that_holds value kinds

abbrev pub digit_of : ℕ → ℕ
digit_of b = if is_ascii_digit b then b - 48 else (if nat_lt b 97 then b - 55 else b - 87)

abbrev pub value_in : ℕ → Text → ℕ
value_in base digits = fold (λ value b. value * base + digit_of b) 0 digits

abbrev pub is_suffix_letter : ℕ → Bool
is_suffix_letter b = b == 117 || b == 85 || b == 108 || b == 76

-- digits without a leading zero, or 0 alone
abbrev pub is_decimal : Text → Bool
is_decimal digits = list_all is_ascii_digit digits && (bytes_eq digits (codes "0") || not (slice_index digits 0 == 48))

-- `0x` or `0X` and a digit or more
abbrev pub is_hexadecimal : Text → Bool
is_hexadecimal digits = nat_lt 2 (length digits) && slice_index digits 0 == 48 && (slice_index digits 1 == 120 || slice_index digits 1 == 88) && list_all is_ascii_hexdigit (drop 2 digits)

abbrev pub number_with : Text → Text → Option Number
number_with digits suffix =
    if is_hexadecimal digits then first_that_holds (value_in 16 (drop 2 digits)) (kinds_of true suffix)
    else (if is_decimal digits then first_that_holds (value_in 10 digits) (kinds_of false suffix) else None)

-- the number that a word spells which begins with a digit
unfoldable pub number_of : Text → Option Number
number_of word = let digits = take_while (λ b. not (is_suffix_letter b)) word in number_with digits (drop (length digits) word)

abbrev pub number_meaning : Option Number → Meaning
number_meaning (Some n) = one (token.Number n)
number_meaning None = no_number

-- ---- characters and strings

-- what a byte stands for behind a backslash
abbrev pub escaped : ℕ → Option ℕ
escaped b =
    if b == 110 then Some 10 else (if b == 116 then Some 9 else (if b == 114 then Some 13 else (if b == 48 then Some 0
    else (if b == 92 || b == 39 || b == 34 then Some b else None))))

-- a byte that stands for itself between quotes
abbrev pub is_plain : ℕ → ℕ → Bool
is_plain quote b = nat_lt 31 b && nat_lt b 127 && not (b == 92) && not (b == quote)

abbrev pub where_true_value : Bool → ℕ → Option ℕ
where_true_value true b = Some b
where_true_value false b = None

abbrev pub plain_character : ℕ → Text → Option ℕ
plain_character b (quote ∷ []) = where_true_value (is_plain 39 b && quote == 39) b
plain_character b _ = None

abbrev pub escaped_character : Text → Option ℕ
escaped_character (b ∷ quote ∷ []) = if quote == 39 then escaped b else None
escaped_character _ = None

-- behind the opening quote: what the one element stands for that the closing quote ends
abbrev pub character_body : Text → Option ℕ
character_body [] = None
character_body (b ∷ bs) = if b == 92 then escaped_character bs else plain_character b bs

abbrev pub joined : Option ℕ → Option Text → Option Text
joined (Some b) (Some bs) = Some (b ∷ bs)
joined _ _ = None

abbrev pub closing : Text → Option Text
closing [] = Some []
closing (b ∷ bs) = None

-- Behind the opening quote: what the elements stand for that the closing quote ends. After a backslash the first byte is escaped.
abbrev pub string_body : Bool → Text → Option Text
string_body is_escaped [] = None
string_body true (b ∷ bs) = joined (escaped b) (string_body false bs)
string_body false (b ∷ bs) =
    if b == 34 then closing bs
    else (if b == 92 then string_body true bs else (if is_plain 34 b then joined (Some b) (string_body false bs) else None))

-- ---- marks and comments

unfoldable pub mark_of : Text → Option Mark
mark_of = look_up (map (λ row. (row.0.now, row.1)) MARKS)

abbrev pub mark_meaning : Text → Option Meaning
mark_meaning word = option_map (λ m. one (token.Mark m)) (mark_of word)

-- behind the opening of a comment: up to the first closing, or without one
abbrev pub block_comment : Text → Option Meaning
block_comment [] = Some unclosed
block_comment (b ∷ bs) = if b == 42 && slice_index bs 0 == 47 then where_empty (drop 1 bs) nothing else block_comment bs

-- behind a slash
abbrev pub after_slash : Text → Option Meaning
after_slash bs =
    if slice_index bs 0 == 42 then block_comment (drop 1 bs)
    else (if slice_index bs 0 == 47 then where_true (list_all (λ b. not (b == 10)) (drop 1 bs)) nothing else mark_meaning (47 ∷ bs))

-- ---- what bytes stand for, if they are a lexeme

abbrev pub lexeme : Text → Option Meaning
lexeme [] = None
lexeme (b ∷ bs) =
    if is_blank b then where_empty bs nothing
    else (if is_letter b then where_true (list_all is_word_byte bs) (one (word_token (b ∷ bs)))
    else (if is_ascii_digit b then where_true (list_all is_word_byte bs) (number_meaning (number_of (b ∷ bs)))
    else (if b == 39 then option_map (λ c. one (token.Character c)) (character_body bs)
    else (if b == 34 then option_map (λ text. one (token.Text text)) (string_body false bs)
    else (if b == 47 then after_slash bs else mark_meaning (b ∷ bs))))))
