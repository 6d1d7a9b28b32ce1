-- Numbers as words.
use Rattle.std.specs.Prelude.{ℕ, ◌+◌, ◌-◌, ◌*◌, min, ℤ, pos, neg_ℤ, List, [], ◌∷◌, ◌&&◌, nat_eq, nat_le, Option, Some, None, if◌then◌else◌}
use Rattle.std.specs.Char.{is_ascii_digit}
use Rattle.std.specs.Option.{option_map}
use Rattle.std.specs.Str.{all_ascii_digits}
use Rattle.lu_spec.specs.Then.{then_option}

-- the value of decimal digits behind a number
abbrev pub value_on : ℕ → List ℕ → ℕ
value_on n [] = n
value_on n (d ∷ ds) = value_on (10 * n + (d - 48)) ds

-- one or more decimal digits stand for a number; leading zeros are allowed
abbrev pub number_of : List ℕ → Option ℕ
number_of [] = None
number_of (d ∷ ds) = if all_ascii_digits (d ∷ ds) then Some (value_on 0 (d ∷ ds)) else None

abbrev pub number_between : ℕ → ℕ → List ℕ → Option ℕ
number_between low high word =
    then_option (number_of word) (λ n. if nat_le low n && nat_le n high then Some n else None)

-- an int: a number, perhaps behind a `-`
abbrev pub int_of : List ℕ → Option ℤ
int_of [] = None
int_of (b ∷ bs) = if nat_eq b 45
    then option_map (λ n. neg_ℤ (pos n)) (number_between 0 2147483648 bs)
    else option_map pos (number_between 0 2147483647 (b ∷ bs))

-- the value of digits behind a number, with each step capped at 10^10
abbrev pub capped_on : ℕ → List ℕ → Option ℕ
capped_on n [] = Some n
capped_on n (d ∷ ds) = if is_ascii_digit d then capped_on (min (10 * n + (d - 48)) 10000000000) ds else None
