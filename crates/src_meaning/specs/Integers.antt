-- Integers by width and sign. All are two's complement.
use Rattle.std.specs.Prelude.{ℕ, zero, ◌*◌, ◌^◌, Bool, ◌&&◌, ◌||◌, true, false, not, nat_lt, if◌then◌else◌, ℤ, pos, negsuc, ◌*ℤ◌, int_div, int_rem, Result, Ok, Err}
use Rattle.std.specs.Int.{int_rem_euclid, int_shr, cast_signed, w8, w16, w32, w64}
use mir.Syntax.{Width}
use Rattle.std.specs.Int.RustNames.{unsigned_abs}
use Rattle.c_types.specs.declared.parts.IntKind.{IntKind}
use Rattle.c_types.specs.declared.parts.IntKind.TheVariants.{Char, UChar, Short, UShort, Int, UInt, LongLong, ULongLong}
use Rattle.c_types.specs.Layout.{int_size}
use Rattle.lu_base.specs.declared.trap.Trap.{Trap}
use Rattle.lu_base.specs.declared.trap.Trap.TheVariants.{DivZero, BadShift}

abbrev pub width_of : IntKind → Width
width_of Char = w8
width_of UChar = w8
width_of Short = w16
width_of UShort = w16
width_of Int = w32
width_of UInt = w32
width_of LongLong = w64
width_of ULongLong = w64

abbrev pub bits_of : IntKind → ℕ
bits_of kind = 8 * int_size kind

abbrev pub is_signed : IntKind → Bool
is_signed Char = true
is_signed Short = true
is_signed Int = true
is_signed LongLong = true
is_signed _ = false

-- an integer modulo the range of a type
abbrev pub residue : IntKind → ℤ → ℕ
residue kind z = unsigned_abs (int_rem_euclid z (pos (2 ^ bits_of kind)))

-- the integer of a type with these bits
abbrev pub from_bits : IntKind → ℕ → ℤ
from_bits kind n = if is_signed kind then cast_signed (width_of kind) n else pos n

-- conversion to a type: modulo its range, also where it is signed
abbrev pub wrapped : IntKind → ℤ → ℤ
wrapped kind z = from_bits kind (residue kind z)

-- whether a type holds an integer
abbrev pub is_held : IntKind → ℤ → Bool
is_held kind (pos n) = nat_lt n (2 ^ bits_of kind) && (not (is_signed kind) || nat_lt (n * 2) (2 ^ bits_of kind))
is_held kind (negsuc n) = is_signed kind && nat_lt (n * 2) (2 ^ bits_of kind)

abbrev pub is_zero : ℤ → Bool
is_zero (pos zero) = true
is_zero _ = false

-- an int that says whether something holds
abbrev pub flag : Bool → ℤ
flag b = if b then pos 1 else pos 0

-- truncated toward zero; the least number divided by -1 wraps to itself
abbrev pub quotient : IntKind → ℤ → ℤ → Result ℤ Trap
quotient kind a b = if is_zero b then Err DivZero else Ok (wrapped kind (int_div a b))

-- with the sign of a
abbrev pub remainder : IntKind → ℤ → ℤ → Result ℤ Trap
remainder kind a b = if is_zero b then Err DivZero else Ok (wrapped kind (int_rem a b))

-- an operation on the bits of two integers
abbrev pub on_bits : (ℕ → ℕ → ℕ) → IntKind → ℤ → ℤ → ℤ
on_bits f kind a b = from_bits kind (f (residue kind a) (residue kind b))

-- what f gives of a shift's count, which is below the width of the type
abbrev pub with_count : IntKind → ℤ → (ℕ → ℤ) → Result ℤ Trap
with_count kind (pos n) f = if nat_lt n (bits_of kind) then Ok (f n) else Err BadShift
with_count kind (negsuc n) f = Err BadShift

abbrev pub shifted_left : IntKind → ℤ → ℤ → Result ℤ Trap
shifted_left kind a b = with_count kind b (λ n. wrapped kind (a *ℤ pos (2 ^ n)))

-- rounded down, also below zero
abbrev pub shifted_right : IntKind → ℤ → ℤ → Result ℤ Trap
shifted_right kind a b = with_count kind b (λ n. int_shr a n)
