-- The forms of names, and of the values of keys.
use Rattle.std.specs.Prelude.{ℕ, ◌+◌, ℤ, pos, negsuc, List, [], ◌∷◌, length, Bool, false, ◌&&◌, ◌||◌, not, nat_eq, nat_le, Option, Some, None, if◌then◌else◌, codes}
use Rattle.std.specs.Char.{is_ascii_alphanumeric, is_ascii_digit}
use Rattle.std.specs.List.{list_all}
use Rattle.std.specs.Str.{bytes_eq}
use Rattle.lu_spec.specs.Then.{then_option}
use Rattle.toml.specs.Data.{Data, Items, no_items, item, as_str, as_integer}
use Rattle.plan_file.specs.declared.plan.Dangling.{Dangling}
use Rattle.plan_file.specs.declared.plan.Dangling.TheVariants as dangling
use Rattle.plan_file.specs.declared.plan.Pointers.{Pointers}
use Rattle.plan_file.specs.declared.plan.Pointers.TheVariants as pointers

abbrev pub is_file_byte : ℕ → Bool
is_file_byte b = is_ascii_alphanumeric b || nat_eq b 46 || nat_eq b 95 || nat_eq b 45 || nat_eq b 47

-- a file name: 1..255 bytes of `A-Z a-z 0-9 . _ - /`
abbrev pub is_file_name : List ℕ → Bool
is_file_name text = nat_le 1 (length text) && nat_le (length text) 255 && list_all is_file_byte text

abbrev pub is_name_byte : ℕ → Bool
is_name_byte b = is_ascii_alphanumeric b || nat_eq b 95

-- a name: a letter or `_`, and then letters, digits and `_`, at most 63 bytes in all
abbrev pub is_name : List ℕ → Bool
is_name [] = false
is_name (b ∷ bs) = not (is_ascii_digit b) && is_name_byte b && nat_le (length bs) 62 && list_all is_name_byte bs

-- a filter: at most 4,096 bytes
abbrev pub is_filter : List ℕ → Bool
is_filter text = nat_le (length text) 4096

-- what stands before the first such byte, or the whole
abbrev pub before_byte : ℕ → List ℕ → List ℕ
before_byte stop [] = []
before_byte stop (b ∷ bs) = if nat_eq b stop then [] else b ∷ before_byte stop bs

-- what follows the first such byte, or nothing
abbrev pub after_byte : ℕ → List ℕ → List ℕ
after_byte stop [] = []
after_byte stop (b ∷ bs) = if nat_eq b stop then bs else after_byte stop bs

-- a name, that byte, and a text of some form
abbrev pub is_split : ℕ → (List ℕ → Bool) → List ℕ → Bool
is_split stop test text = is_name (before_byte stop text) && test (after_byte stop text)

-- one or more decimal digits
abbrev pub is_digits : List ℕ → Bool
is_digits text = nat_le 1 (length text) && list_all is_ascii_digit text

-- `TAG.NAME`
abbrev pub is_dotted : List ℕ → Bool
is_dotted text = is_split 46 is_name text

-- `FUNCTION#NUMBER`
abbrev pub is_site : List ℕ → Bool
is_site text = is_split 35 is_digits text

-- the text, where it passes the test
abbrev pub passing : (List ℕ → Bool) → List ℕ → Option (List ℕ)
passing test text = if test text then Some text else None

-- a text of some form
abbrev pub text_where : (List ℕ → Bool) → Data → Option (List ℕ)
text_where test d = then_option (as_str d) (passing test)

abbrev pub number_within : ℕ → ℕ → ℤ → Option ℕ
number_within low high (pos n) = if nat_le low n && nat_le n high then Some n else None
number_within low high (negsuc n) = None

-- a number between two others
abbrev pub number_between : ℕ → ℕ → Data → Option ℕ
number_between low high d = then_option (as_integer d) (number_within low high)

-- from -2147483648 to 2147483647
abbrev pub fits_int : ℤ → Bool
fits_int (pos n) = nat_le n 2147483647
fits_int (negsuc n) = nat_le n 2147483647

-- an int
abbrev pub int_of : Data → Option ℤ
int_of d = then_option (as_integer d) (λ z. if fits_int z then Some z else None)

-- how many items there are
abbrev pub count_of : Items → ℕ
count_of no_items = 0
count_of (item d ds) = count_of ds + 1

-- `"refuse"` or `"null"`
abbrev pub dangling_word : List ℕ → Option Dangling
dangling_word text =
    if bytes_eq text (codes "refuse") then Some dangling.Refuse else (if bytes_eq text (codes "null") then Some dangling.Null else None)

abbrev pub dangling_of : Data → Option Dangling
dangling_of d = then_option (as_str d) dangling_word

-- `"narrow"` or `"wide"`
abbrev pub pointers_word : List ℕ → Option Pointers
pointers_word text =
    if bytes_eq text (codes "narrow") then Some pointers.Narrow else (if bytes_eq text (codes "wide") then Some pointers.Wide else None)

abbrev pub pointers_of : Data → Option Pointers
pointers_of d = then_option (as_str d) pointers_word
