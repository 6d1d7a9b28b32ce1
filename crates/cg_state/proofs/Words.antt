-- Words and the integers that they stand for.
use Rattle.std.proofs.Common.{◌≡◌, ◌∙◌, refl, sym, ap, ℕ, suc, ◌+◌, ◌-◌, ◌*◌, ◌%◌, ◌^◌, ◌<◌, ◌≤◌, Bool, true, false, arith, lit<}
use Rattle.std.specs.Prelude.{ℤ, pos, negsuc, ◌+ℤ◌, ◌-ℤ◌, ◌*ℤ◌, neg_ℤ, nat_lt}
use Rattle.std.specs.Int.{w64, cast_signed, int_rem_euclid, int_wrap}
use Rattle.std.specs.Int.RustNames.{unsigned_abs}
use Rattle.std.proofs.Math.Nat.{mod-mod_of_dvd, mul_assoc, mod-lt, mul-mod_left, mod-eq_of_lt}
use Rattle.std.proofs.lemmas.Int.{int_rem_euclid_is, of_z-to_z, ints, wrapping_add-bits, wrapping_sub-bits, wrapping_mul-bits, int_wrap-add_left, int_wrap-add_right, int_wrap-sub_right, int_wrap-mul_left, int_wrap-mul_right}
use Rattle.std.proofs.lemmas.Nat.Gcd.{dvd_of_mod-eq-zero}
use Rattle.std.proofs.lemmas.Bool.Decides.{nat_tests}
use Rattle.c_types.specs.declared.parts.IntKind.{IntKind}
use Rattle.c_types.specs.declared.parts.IntKind.TheVariants.{Char, UChar, Short, UShort, Int as Int_kind, UInt, LongLong, ULongLong}
use Rattle.bm_alu.specs.Words.{word, signed, of_signed, extended}
use Rattle.src_meaning.specs.Integers.{residue, from_bits, wrapped, bits_of, is_held}

abbrev high : ℕ
high = 2 ^ 64

-- a number is a natural less a multiple of 2 ^ 64
raised : (z : ℤ) → (k : ℕ) × (m : ℕ) × (z +ℤ pos (k * high) ≡ pos m)
raised (pos a) = (0, a, omega (arith, ints))
raised (negsuc a) = (suc a, suc a * high - suc a, omega (arith, ints))

-- the signed number of a word is the word less a multiple of 2 ^ 64
read : (n : ℕ) → n < high → (k : ℕ) × (signed n +ℤ pos (k * high) ≡ pos n)
read n h = by (nat_lt n (2 ^ 63)) refl
  where
    by : (b : Bool) → nat_lt n (2 ^ 63) ≡ b → (k : ℕ) × (signed n +ℤ pos (k * high) ≡ pos n)
    by true e = (0, grind (arith, ints))
    by false e = (1, grind (arith, ints))

module _ (d q : ℕ) (low : 0 < d) (is : q * d ≡ high) where
  euclid : (z : ℤ) (k m : ℕ) → z +ℤ pos (k * high) ≡ pos m → int_rem_euclid z (pos d) ≡ pos (m % d)
  euclid z k m e = int_rem_euclid_is z (pos d) d (k * q) m low refl (ap (λ x. z +ℤ pos x) (mul_assoc k q d ∙ ap (λ x. k * x) is) ∙ e)

  residue_kept : (z : ℤ) → int_rem_euclid (int_wrap w64 z) (pos d) ≡ int_rem_euclid z (pos d)
  unfolding int_wrap
  residue_kept z =
      let r = raised z in
      let n = r.1 % high in
      let below : n < high = mod-lt r.1 (lit< tt) in
      let s = read n below in
      let first : int_rem_euclid z (pos high) ≡ pos n = int_rem_euclid_is z (pos high) high r.0 r.1 (lit< tt) refl r.2 in
      ap (λ x. int_rem_euclid (cast_signed w64 (unsigned_abs x)) (pos d)) first
      ∙ euclid (cast_signed w64 n) s.0 n s.1
      ∙ ap pos (mod-mod_of_dvd d r.1 (dvd_of_mod-eq-zero d (ap (λ x. x % d) (sym is) ∙ mul-mod_left q d)))
      ∙ sym (euclid z r.0 r.1 r.2)

  -- the residue of a word's number is the word's
  low_bits : (n : ℕ) → n < high → unsigned_abs (int_rem_euclid (signed n) (pos d)) ≡ n % d
  low_bits n h = let s = read n h in ap unsigned_abs (euclid (signed n) s.0 n s.1)

pub residue-int_wrap : (kind : IntKind) (z : ℤ) → residue kind (int_wrap w64 z) ≡ residue kind z
residue-int_wrap Char z = ap unsigned_abs (residue_kept (2 ^ 8) (2 ^ 56) (lit< tt) refl z)
residue-int_wrap UChar z = ap unsigned_abs (residue_kept (2 ^ 8) (2 ^ 56) (lit< tt) refl z)
residue-int_wrap Short z = ap unsigned_abs (residue_kept (2 ^ 16) (2 ^ 48) (lit< tt) refl z)
residue-int_wrap UShort z = ap unsigned_abs (residue_kept (2 ^ 16) (2 ^ 48) (lit< tt) refl z)
residue-int_wrap Int_kind z = ap unsigned_abs (residue_kept (2 ^ 32) (2 ^ 32) (lit< tt) refl z)
residue-int_wrap UInt z = ap unsigned_abs (residue_kept (2 ^ 32) (2 ^ 32) (lit< tt) refl z)
residue-int_wrap LongLong z = ap unsigned_abs (residue_kept (2 ^ 64) 1 (lit< tt) refl z)
residue-int_wrap ULongLong z = ap unsigned_abs (residue_kept (2 ^ 64) 1 (lit< tt) refl z)

pub wrapped-int_wrap : (kind : IntKind) (z : ℤ) → wrapped kind (int_wrap w64 z) ≡ wrapped kind z
wrapped-int_wrap kind z = ap (from_bits kind) (residue-int_wrap kind z)

pub residue_of_word : (kind : IntKind) (n : ℕ) → n < high → residue kind (signed n) ≡ n % 2 ^ bits_of kind
residue_of_word Char n h = low_bits (2 ^ 8) (2 ^ 56) (lit< tt) refl n h
residue_of_word UChar n h = low_bits (2 ^ 8) (2 ^ 56) (lit< tt) refl n h
residue_of_word Short n h = low_bits (2 ^ 16) (2 ^ 48) (lit< tt) refl n h
residue_of_word UShort n h = low_bits (2 ^ 16) (2 ^ 48) (lit< tt) refl n h
residue_of_word Int_kind n h = low_bits (2 ^ 32) (2 ^ 32) (lit< tt) refl n h
residue_of_word UInt n h = low_bits (2 ^ 32) (2 ^ 32) (lit< tt) refl n h
residue_of_word LongLong n h = low_bits (2 ^ 64) 1 (lit< tt) refl n h
residue_of_word ULongLong n h = low_bits (2 ^ 64) 1 (lit< tt) refl n h

-- a word that is cut is that of the number that it stands for, wrapped
pub extended_is : (kind : IntKind) (n : ℕ) → n < high → extended kind n ≡ of_signed (wrapped kind (signed n))
extended_is Char n h = ap (λ r. of_signed (from_bits Char r)) (sym (residue_of_word Char n h))
extended_is UChar n h = ap (λ r. of_signed (from_bits UChar r)) (sym (residue_of_word UChar n h))
extended_is Short n h = ap (λ r. of_signed (from_bits Short r)) (sym (residue_of_word Short n h))
extended_is UShort n h = ap (λ r. of_signed (from_bits UShort r)) (sym (residue_of_word UShort n h))
extended_is Int_kind n h = ap (λ r. of_signed (from_bits Int_kind r)) (sym (residue_of_word Int_kind n h))
extended_is UInt n h = ap (λ r. of_signed (from_bits UInt r)) (sym (residue_of_word UInt n h))
extended_is LongLong n h =
    sym (of_z-to_z w64 n h) ∙ ap (λ r. of_signed (from_bits LongLong r)) (sym (mod-eq_of_lt h) ∙ sym (residue_of_word LongLong n h))
extended_is ULongLong n h =
    ap (λ r. of_signed (from_bits ULongLong r)) (sym (mod-eq_of_lt h) ∙ sym (residue_of_word ULongLong n h))

-- a number that a word stands for
abbrev pub IsWord : ℤ → Type 0
IsWord (pos n) = n < 2 ^ 64
IsWord (negsuc n) = n < 2 ^ 63

pub held_pos : (kind : IntKind) (n : ℕ) → is_held kind (pos n) ≡ true → n < 2 ^ bits_of kind
held_pos Char n h = grind (arith, nat_tests, h)
held_pos UChar n h = grind (arith, nat_tests, h)
held_pos Short n h = grind (arith, nat_tests, h)
held_pos UShort n h = grind (arith, nat_tests, h)
held_pos Int_kind n h = grind (arith, nat_tests, h)
held_pos UInt n h = grind (arith, nat_tests, h)
held_pos LongLong n h = grind (arith, nat_tests, h)
held_pos ULongLong n h = grind (arith, nat_tests, h)

pub held_neg : (kind : IntKind) (n : ℕ) → is_held kind (negsuc n) ≡ true → n * 2 < 2 ^ bits_of kind
held_neg Char n h = grind (arith, nat_tests, h)
held_neg UChar n h = absurd (cc)
held_neg Short n h = grind (arith, nat_tests, h)
held_neg UShort n h = absurd (cc)
held_neg Int_kind n h = grind (arith, nat_tests, h)
held_neg UInt n h = absurd (cc)
held_neg LongLong n h = grind (arith, nat_tests, h)
held_neg ULongLong n h = absurd (cc)

few_bits : (kind : IntKind) → 2 ^ bits_of kind ≤ 2 ^ 64
few_bits Char = omega arith
few_bits UChar = omega arith
few_bits Short = omega arith
few_bits UShort = omega arith
few_bits Int_kind = omega arith
few_bits UInt = omega arith
few_bits LongLong = omega arith
few_bits ULongLong = omega arith

pub held_word : (kind : IntKind) (z : ℤ) → is_held kind z ≡ true → IsWord z
held_word kind (pos n) h = omega (arith, held_pos kind n h, few_bits kind)
held_word kind (negsuc n) h = omega (arith, held_neg kind n h, few_bits kind)

pub word_below : (z : ℤ) → IsWord z → of_signed z < high
word_below (pos n) h = h
word_below (negsuc n) h = omega (arith, ints)

pub signed_word : (z : ℤ) → IsWord z → signed (of_signed z) ≡ int_wrap w64 z
unfolding int_wrap
signed_word (pos n) h = ap (cast_signed w64) (sym (mod-eq_of_lt h))
signed_word (negsuc n) h =
    let below : n < high = omega arith in
    let is : n % high ≡ n = mod-eq_of_lt below in
    ap (cast_signed w64) (omega arith)

euclid_below : (d : ℕ) (z : ℤ) → 0 < d → unsigned_abs (int_rem_euclid z (pos d)) < d
euclid_below d (pos a) low = mod-lt a low
euclid_below d (negsuc a) low = omega arith

pub residue_below : (kind : IntKind) (z : ℤ) → residue kind z < 2 ^ bits_of kind
residue_below Char z = euclid_below (2 ^ 8) z (lit< tt)
residue_below UChar z = euclid_below (2 ^ 8) z (lit< tt)
residue_below Short z = euclid_below (2 ^ 16) z (lit< tt)
residue_below UShort z = euclid_below (2 ^ 16) z (lit< tt)
residue_below Int_kind z = euclid_below (2 ^ 32) z (lit< tt)
residue_below UInt z = euclid_below (2 ^ 32) z (lit< tt)
residue_below LongLong z = euclid_below (2 ^ 64) z (lit< tt)
residue_below ULongLong z = euclid_below (2 ^ 64) z (lit< tt)

-- a number of the bits of a type is held
pub from_held : (kind : IntKind) (r : ℕ) → r < 2 ^ bits_of kind → is_held kind (from_bits kind r) ≡ true
from_held Char r h = grind (arith, ints, nat_tests)
from_held UChar r h = grind (arith, ints, nat_tests)
from_held Short r h = grind (arith, ints, nat_tests)
from_held UShort r h = grind (arith, ints, nat_tests)
from_held Int_kind r h = grind (arith, ints, nat_tests)
from_held UInt r h = grind (arith, ints, nat_tests)
from_held LongLong r h = grind (arith, ints, nat_tests)
from_held ULongLong r h = grind (arith, ints, nat_tests)

pub wrapped_held : (kind : IntKind) (z : ℤ) → is_held kind (wrapped kind z) ≡ true
wrapped_held kind z = from_held kind (residue kind z) (residue_below kind z)

pub wrapped_of_held : (kind : IntKind) (z : ℤ) → is_held kind z ≡ true → wrapped kind z ≡ z
wrapped_of_held Char (pos n) h = grind (arith, ints, nat_tests, h)
wrapped_of_held UChar (pos n) h = ap pos (mod-eq_of_lt (held_pos UChar n h))
wrapped_of_held Short (pos n) h = grind (arith, ints, nat_tests, h)
wrapped_of_held UShort (pos n) h = ap pos (mod-eq_of_lt (held_pos UShort n h))
wrapped_of_held Int_kind (pos n) h = grind (arith, ints, nat_tests, h)
wrapped_of_held UInt (pos n) h = ap pos (mod-eq_of_lt (held_pos UInt n h))
wrapped_of_held LongLong (pos n) h = grind (arith, ints, nat_tests, h)
wrapped_of_held ULongLong (pos n) h = ap pos (mod-eq_of_lt (held_pos ULongLong n h))
wrapped_of_held Char (negsuc n) h = grind (arith, ints, nat_tests, held_neg Char n h)
wrapped_of_held UChar (negsuc n) h = absurd (cc)
wrapped_of_held Short (negsuc n) h = grind (arith, ints, nat_tests, held_neg Short n h)
wrapped_of_held UShort (negsuc n) h = absurd (cc)
wrapped_of_held Int_kind (negsuc n) h = grind (arith, ints, nat_tests, held_neg Int_kind n h)
wrapped_of_held UInt (negsuc n) h = absurd (cc)
wrapped_of_held LongLong (negsuc n) h = grind (arith, ints, nat_tests, held_neg LongLong n h)
wrapped_of_held ULongLong (negsuc n) h = absurd (cc)

-- what a cut word of a sum is, where the words stand for the numbers
abbrev pub StandsFor : ℕ → ℤ → Type 0
StandsFor m a = (m < high) × (signed m ≡ int_wrap w64 a)

pub stands : (z : ℤ) → IsWord z → StandsFor (of_signed z) z
stands z h = (word_below z h, signed_word z h)

-- sums, differences and products, cut to a type
pub sum_is : (kind : IntKind) (m n : ℕ) (a b : ℤ) → m < high → n < high → signed m ≡ int_wrap w64 a → signed n ≡ int_wrap w64 b → extended kind (word (m + n)) ≡ of_signed (wrapped kind (a +ℤ b))
sum_is kind m n a b hm hn em en =
    extended_is kind (word (m + n)) (mod-lt (m + n) (lit< tt))
    ∙ ap (λ z. of_signed (wrapped kind z)) (wrapping_add-bits w64 m n hm hn)
    ∙ ap of_signed (wrapped-int_wrap kind (signed m +ℤ signed n))
    ∙ ap (λ x. of_signed (wrapped kind (x +ℤ signed n))) em
    ∙ ap (λ x. of_signed (wrapped kind (int_wrap w64 a +ℤ x))) en
    ∙ ap of_signed (sym (wrapped-int_wrap kind (int_wrap w64 a +ℤ int_wrap w64 b)) ∙ ap (wrapped kind) (int_wrap-add_left w64 a (int_wrap w64 b) ∙ int_wrap-add_right w64 a b) ∙ wrapped-int_wrap kind (a +ℤ b))

pub difference_is : (kind : IntKind) (m n : ℕ) (a b : ℤ) → m < high → n < high → signed m ≡ int_wrap w64 a → signed n ≡ int_wrap w64 b → extended kind (word (m + (2 ^ 64 - n))) ≡ of_signed (wrapped kind (a -ℤ b))
difference_is kind m n a b hm hn em en =
    extended_is kind (word (m + (2 ^ 64 - n))) (mod-lt (m + (2 ^ 64 - n)) (lit< tt))
    ∙ ap (λ z. of_signed (wrapped kind z)) (wrapping_sub-bits w64 m n hm hn)
    ∙ ap of_signed (wrapped-int_wrap kind (signed m -ℤ signed n))
    ∙ ap (λ x. of_signed (wrapped kind (x -ℤ signed n))) em
    ∙ ap (λ x. of_signed (wrapped kind (int_wrap w64 a -ℤ x))) en
    ∙ ap of_signed (sym (wrapped-int_wrap kind (int_wrap w64 a -ℤ int_wrap w64 b)) ∙ ap (wrapped kind) (int_wrap-sub_right w64 (int_wrap w64 a) b ∙ int_wrap-add_left w64 a (neg_ℤ b)) ∙ wrapped-int_wrap kind (a -ℤ b))

pub product_is : (kind : IntKind) (m n : ℕ) (a b : ℤ) → m < high → n < high → signed m ≡ int_wrap w64 a → signed n ≡ int_wrap w64 b → extended kind (word (m * n)) ≡ of_signed (wrapped kind (a *ℤ b))
product_is kind m n a b hm hn em en =
    extended_is kind (word (m * n)) (mod-lt (m * n) (lit< tt))
    ∙ ap (λ z. of_signed (wrapped kind z)) (wrapping_mul-bits w64 m n hm hn)
    ∙ ap of_signed (wrapped-int_wrap kind (signed m *ℤ signed n))
    ∙ ap (λ x. of_signed (wrapped kind (x *ℤ signed n))) em
    ∙ ap (λ x. of_signed (wrapped kind (int_wrap w64 a *ℤ x))) en
    ∙ ap of_signed (sym (wrapped-int_wrap kind (int_wrap w64 a *ℤ int_wrap w64 b)) ∙ ap (wrapped kind) (int_wrap-mul_left w64 a (int_wrap w64 b) ∙ int_wrap-mul_right w64 a b) ∙ wrapped-int_wrap kind (a *ℤ b))

-- a number's word, cut
pub cut_is : (kind : IntKind) (z : ℤ) → IsWord z → extended kind (of_signed z) ≡ of_signed (wrapped kind z)
cut_is kind z h =
    extended_is kind (of_signed z) (word_below z h) ∙ ap (λ x. of_signed (wrapped kind x)) (signed_word z h) ∙ ap of_signed (wrapped-int_wrap kind z)

-- a number below 2 ^ 64 is its own word
pub word_of_number : (n : ℕ) → n < high → residue ULongLong (pos n) ≡ n
word_of_number n h =
    ap unsigned_abs (int_rem_euclid_is (pos n) (pos high) high 0 n (lit< tt) refl (omega (arith, ints))) ∙ mod-eq_of_lt h
