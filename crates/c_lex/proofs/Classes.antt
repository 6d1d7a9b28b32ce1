-- A byte begins one class of lexemes at most.
use Rattle.std.proofs.Common.{◌≡◌, ◌<◌, ℕ, zero, suc, lit<, true, false, List, [], ◌∷◌, refl, arith}
use Rattle.std.specs.Char.{is_ascii_digit, is_ascii_hexdigit}
use Rattle.std.specs.Cmp.Derive.{both_true}
use Rattle.std.specs.List.{list_all}
use Rattle.std.specs.Str.{IsAscii}
use Rattle.std.specs.Cmp.{first_so, second_so}
use Rattle.c_ast.specs.Lexeme.{is_blank, is_letter, is_word_byte}

pub letter-not_blank : (b : ℕ) → is_letter b ≡ true → is_blank b ≡ false
letter-not_blank b h = grind arith

pub letter-in_word : (b : ℕ) → is_letter b ≡ true → is_word_byte b ≡ true
letter-in_word b h = grind arith

pub digit-not_blank : (b : ℕ) → is_ascii_digit b ≡ true → is_blank b ≡ false
digit-not_blank b h = grind arith

pub digit-not_letter : (b : ℕ) → is_ascii_digit b ≡ true → is_letter b ≡ false
digit-not_letter b h = grind arith

pub digit-in_word : (b : ℕ) → is_ascii_digit b ≡ true → is_word_byte b ≡ true
digit-in_word b h = grind arith

pub word-ascii : (b : ℕ) → is_word_byte b ≡ true → b < 128
word-ascii b h = grind arith

pub word_is_ascii : (w : List ℕ) → list_all is_word_byte w ≡ true → IsAscii w
word_is_ascii [] h i = lit< tt
word_is_ascii (b ∷ bs) h zero = word-ascii b (first_so (is_word_byte b) (list_all is_word_byte bs) h)
word_is_ascii (b ∷ bs) h (suc i) = word_is_ascii bs (second_so (is_word_byte b) (list_all is_word_byte bs) h) i

digit-hexadecimal : (b : ℕ) → is_ascii_digit b ≡ true → is_ascii_hexdigit b ≡ true
digit-hexadecimal b h = grind arith

pub decimal_is_hexadecimal : (digits : List ℕ) → list_all is_ascii_digit digits ≡ true → list_all is_ascii_hexdigit digits ≡ true
decimal_is_hexadecimal [] h = refl
decimal_is_hexadecimal (b ∷ bs) h =
    both_true (digit-hexadecimal b (first_so (is_ascii_digit b) (list_all is_ascii_digit bs) h)) (decimal_is_hexadecimal bs (second_so (is_ascii_digit b) (list_all is_ascii_digit bs) h))
