-- Words of numbers of signed types, read as signed numbers.
use Rattle.std.proofs.Common.{◌≡◌, ◌∙◌, refl, Bool, true, false, ◌&&◌, ℕ, zero, suc, ◌*◌, ◌/◌, ◌%◌, ◌-◌, ◌^◌, ◌<◌, ◌≤◌, arith, nat_eq, nat_lt}
use Rattle.std.specs.Prelude.{ℤ, pos, negsuc, neg_ℤ, int_div, int_rem}
use Rattle.std.specs.Int.{w64}
use Rattle.std.specs.Int.RustNames.{unsigned_abs, FitsSigned}
use Rattle.std.proofs.Math.Nat.{div-le_self, mod-le}
use Rattle.std.proofs.lemmas.Int.{ints, int_wrap_fits}
use Rattle.std.proofs.lemmas.Bool.Decides.{nat_tests}
use Rattle.c_types.specs.declared.parts.IntKind.{IntKind}
use Rattle.c_types.specs.declared.parts.IntKind.TheVariants.{Char, UChar, Short, UShort, Int as Int_kind, UInt, LongLong, ULongLong}
use Rattle.src_meaning.specs.Integers.{is_held, is_signed, is_zero, bits_of}
use Rattle.bm_alu.specs.Words.{signed, of_signed}
use Rattle.cg_state.proofs.Tests.{eq_false}
use Rattle.cg_state.proofs.Words.{IsWord, held_word, signed_word}

-- a number of a signed type fits a signed word
fits_pos : (kind : IntKind) (n : ℕ) → is_signed kind ≡ true → is_held kind (pos n) ≡ true → n < 2 ^ 63
fits_pos Char n s h = grind (arith, nat_tests, h)
fits_pos UChar n s h = absurd (cc)
fits_pos Short n s h = grind (arith, nat_tests, h)
fits_pos UShort n s h = absurd (cc)
fits_pos Int_kind n s h = grind (arith, nat_tests, h)
fits_pos UInt n s h = absurd (cc)
fits_pos LongLong n s h = grind (arith, nat_tests, h)
fits_pos ULongLong n s h = absurd (cc)

-- a number that a signed word holds
abbrev pub IsSmall : ℤ → Type 0
IsSmall (pos n) = n < 2 ^ 63
IsSmall (negsuc n) = n < 2 ^ 63

pub signed_small : (kind : IntKind) (z : ℤ) → is_signed kind ≡ true → is_held kind z ≡ true → IsSmall z
signed_small kind (pos n) s h = fits_pos kind n s h
signed_small kind (negsuc n) s h = held_word kind (negsuc n) h

pub small_fits : (z : ℤ) → IsSmall z → FitsSigned w64 z
small_fits (pos n) h = record { sfits = h }
small_fits (negsuc n) h = record { sfits = h }

pub small_word : (z : ℤ) → IsSmall z → IsWord z
small_word (pos n) h = omega (arith, h)
small_word (negsuc n) h = h

-- the number of the word of a small number is that number
pub signed_back : (z : ℤ) → IsSmall z → signed (of_signed z) ≡ z
signed_back z h = signed_word z (small_word z h) ∙ int_wrap_fits w64 z (small_fits z h)

-- a number of an unsigned type is a natural
pub data IsNatural : ℤ → Type 0 where
  natural : (n : ℕ) → IsNatural (pos n)

pub unsigned_natural : (kind : IntKind) (z : ℤ) → is_signed kind ≡ false → is_held kind z ≡ true → IsNatural z
unsigned_natural kind (pos n) s h = natural n
unsigned_natural kind (negsuc n) s h = absurd (by (is_signed kind) s (nat_lt (n * 2) (2 ^ bits_of kind)) h)
  where
    by : (b : Bool) → b ≡ false → (c : Bool) → b && c ≡ true → ⊥
    by true e c h = absurd (cc)
    by false e c h = absurd (cc)

-- the word of a number is 0 where the number is
pub zero_word : (z : ℤ) → IsWord z → nat_eq (of_signed z) 0 ≡ is_zero z
zero_word (pos zero) h = refl
zero_word (pos (suc n)) h = eq_false (suc n) (λ e. omega (arith, e))
zero_word (negsuc n) h = eq_false (of_signed (negsuc n)) (λ e. omega (arith, ints, e, h))

negated_size : (n : ℕ) → unsigned_abs (neg_ℤ (pos n)) ≡ n
negated_size zero = refl
negated_size (suc n) = refl

-- a number whose size is at most 2 ^ 63 has a word
pub sized_word : (z : ℤ) → unsigned_abs z ≤ 2 ^ 63 → IsWord z
sized_word (pos n) h = omega (arith, h)
sized_word (negsuc n) h = omega (arith, h)

small_size : (z : ℤ) → IsSmall z → unsigned_abs z ≤ 2 ^ 63
small_size (pos n) h = omega (arith, h)
small_size (negsuc n) h = omega (arith, h)

quotient_size : (a b : ℤ) → unsigned_abs (int_div a b) ≤ unsigned_abs a
quotient_size (pos a) (pos b) = div-le_self a b
quotient_size (pos a) (negsuc b) = rw (negated_size (a / suc b)) (div-le_self a (suc b))
quotient_size (negsuc a) (pos b) = rw (negated_size (suc a / b)) (div-le_self (suc a) b)
quotient_size (negsuc a) (negsuc b) = div-le_self (suc a) (suc b)

remainder_size : (a b : ℤ) → unsigned_abs (int_rem a b) ≤ unsigned_abs a
remainder_size (pos a) (pos b) = mod-le a b
remainder_size (pos a) (negsuc b) = mod-le a (suc b)
remainder_size (negsuc a) (pos b) = rw (negated_size (suc a % b)) (mod-le (suc a) b)
remainder_size (negsuc a) (negsuc b) = rw (negated_size (suc a % suc b)) (mod-le (suc a) (suc b))

pub quotient_word : (a b : ℤ) → IsSmall a → IsWord (int_div a b)
quotient_word a b h = sized_word (int_div a b) (omega (arith, quotient_size a b, small_size a h))

pub remainder_word : (a b : ℤ) → IsSmall a → IsWord (int_rem a b)
remainder_word a b h = sized_word (int_rem a b) (omega (arith, remainder_size a b, small_size a h))
