-- Worked examples of the definitions, by computation.
use Rattle.std.proofs.Common.{◌≡◌, refl, pos, negsuc, Ok, Err}
use Rattle.c_types.specs.declared.parts.IntKind.TheVariants.{Char, UChar, Int as Int_kind, UInt, ULongLong}
use Rattle.lu_base.specs.declared.trap.Trap.TheVariants.{DivZero, BadShift}
use Rattle.src_meaning.specs.Integers.{wrapped, quotient, remainder, shifted_left, shifted_right}

cut : wrapped UChar (pos 300) ≡ pos 44
cut = refl

cut_low : wrapped Char (pos 200) ≡ negsuc 55
cut_low = refl

toward_zero : quotient Int_kind (negsuc 6) (pos 2) ≡ Ok (negsuc 2)
toward_zero = refl

sign_of_dividend : remainder Int_kind (negsuc 6) (pos 2) ≡ Ok (negsuc 0)
sign_of_dividend = refl

least_by_minus_one : quotient Int_kind (negsuc 2147483647) (negsuc 0) ≡ Ok (negsuc 2147483647)
least_by_minus_one = refl

rounds_down : shifted_right Int_kind (negsuc 6) (pos 1) ≡ Ok (negsuc 3)
rounds_down = refl

wide : shifted_left ULongLong (pos 3) (pos 63) ≡ Ok (pos 9223372036854775808)
wide = refl

past : shifted_left Int_kind (pos 1) (pos 32) ≡ Err BadShift
past = refl

by_zero : quotient UInt (pos 1) (pos 0) ≡ Err DivZero
by_zero = refl
