-- Arithmetic on words of 64 bits, which are numbers below 2^64. A signed word is in two's complement.
use Rattle.std.specs.Prelude.{ℕ, ◌+◌, ◌-◌, ◌*◌, ◌/◌, ◌%◌, ◌^◌, Bool, ◌||◌, nat_lt, nat_le, nat_eq, if◌then◌else◌, ℤ, int_lt, int_div, int_rem, bit_and, bit_or, bit_xor, List, [], ◌∷◌, slice_get, Option, Some, None, Result, Ok, Err}
use Rattle.std.specs.Int.{w8, w16, w32, w64, cast_signed, cast_unsigned, int_shr}
use Rattle.lu_base.specs.declared.trap.Trap.{Trap}
use Rattle.lu_base.specs.declared.trap.Trap.TheVariants.{DivZero, BadShift, BadIndex, BadCode}
use Rattle.c_types.specs.declared.parts.IntKind.{IntKind}
use Rattle.c_types.specs.declared.parts.IntKind.TheVariants.{Char, UChar, Short, UShort, Int, UInt, LongLong, ULongLong}
use Rattle.bm_alu.specs.declared.binary.Binary.{Binary}
use Rattle.bm_alu.specs.declared.binary.Binary.TheVariants.{Add, Subtract, Multiply, DivideSigned, DivideUnsigned, RemainderSigned, RemainderUnsigned, And, Or, Xor, ShiftLeft, ShiftRightSigned, ShiftRightUnsigned, Equal, LessSigned, LessUnsigned, Index, IndexEnd}
use Rattle.bm_alu.specs.declared.unary.Unary.{Unary}
use Rattle.bm_alu.specs.declared.unary.Unary.TheVariants.{Normalize, Not, Field}

-- modulo 2^64
abbrev pub word : ℕ → ℕ
word n = n % 2 ^ 64

abbrev pub signed : ℕ → ℤ
signed a = cast_signed w64 a

abbrev pub of_signed : ℤ → ℕ
of_signed z = cast_unsigned w64 z

abbrev pub flag : Bool → ℕ
flag b = if b then 1 else 0

abbrev pub unless_zero : ℕ → ℕ → Result ℕ Trap
unless_zero b c = if nat_eq b 0 then Err DivZero else Ok c

-- the count is below the width, which is 32 or 64
abbrev pub within_width : ℕ → ℕ → ℕ → Result ℕ Trap
within_width width n c =
    if nat_eq width 32 || nat_eq width 64 then (if nat_lt n width then Ok c else Err BadShift) else Err BadCode

abbrev pub if_in_range : Bool → ℕ → Result ℕ Trap
if_in_range b c = if b then Ok c else Err BadIndex

-- what an operation gives of the lower word and the upper one
abbrev pub combined : Binary → ℕ → ℕ → Result ℕ Trap
combined Add a b = Ok (word (a + b))
combined Subtract a b = Ok (word (a + (2 ^ 64 - b)))
combined Multiply a b = Ok (word (a * b))
combined DivideSigned a b = unless_zero b (of_signed (int_div (signed a) (signed b)))
combined DivideUnsigned a b = unless_zero b (a / b)
combined RemainderSigned a b = unless_zero b (of_signed (int_rem (signed a) (signed b)))
combined RemainderUnsigned a b = unless_zero b (a % b)
combined And a b = Ok (bit_and a b)
combined Or a b = Ok (bit_or a b)
combined Xor a b = Ok (bit_xor a b)
combined (ShiftLeft width) a n = within_width width n (word (a * 2 ^ n))
combined (ShiftRightSigned width) a n = within_width width n (of_signed (int_shr (signed a) n))
combined (ShiftRightUnsigned width) a n = within_width width n (a / 2 ^ n)
combined Equal a b = Ok (flag (nat_eq a b))
combined LessSigned a b = Ok (flag (int_lt (signed a) (signed b)))
combined LessUnsigned a b = Ok (flag (nat_lt a b))
combined (Index count size) a i = if_in_range (nat_lt i count) (word (a + i * size))
combined (IndexEnd count size) a i = if_in_range (nat_le i count) (word (a + i * size))

-- the integer types by number
abbrev pub int_kinds : List IntKind
int_kinds = Char ∷ UChar ∷ Short ∷ UShort ∷ Int ∷ UInt ∷ LongLong ∷ ULongLong ∷ []

-- the lowest bits of a word that the type has, extended by the sign or by zeros
abbrev pub extended : IntKind → ℕ → ℕ
extended Char a = of_signed (cast_signed w8 (a % 2 ^ 8))
extended UChar a = a % 2 ^ 8
extended Short a = of_signed (cast_signed w16 (a % 2 ^ 16))
extended UShort a = a % 2 ^ 16
extended Int a = of_signed (cast_signed w32 (a % 2 ^ 32))
extended UInt a = a % 2 ^ 32
extended LongLong a = a
extended ULongLong a = a

abbrev pub normalized : Option IntKind → ℕ → Result ℕ Trap
normalized None a = Err BadCode
normalized (Some kind) a = Ok (extended kind a)

-- what an operation gives of a word
abbrev pub transformed : Unary → ℕ → Result ℕ Trap
transformed (Normalize type_number) a = normalized (slice_get int_kinds type_number) a
transformed Not a = Ok (flag (nat_eq a 0))
transformed (Field offset) a = Ok (word (a + offset))
