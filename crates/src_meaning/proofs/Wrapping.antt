-- To wrap a number to 128 bits first changes no residue.
use Rattle.std.proofs.Common.{◌≡◌, ◌∙◌, refl, sym, ap, ℕ, zero, suc, ◌/◌, ◌-◌, ◌*◌, ◌%◌, ◌^◌, ◌<◌, ◌≤◌, Bool, true, false, if◌then◌else◌, Ok, Err, arith, lit<}
use Rattle.std.specs.Prelude.{ℤ, pos, negsuc, ◌+ℤ◌, neg_ℤ, int_div, int_rem, nat_lt}
use Rattle.std.specs.Int.{w128, cast_signed, cast_unsigned, int_rem_euclid, int_wrap, int_wrapping_div}
use Rattle.std.specs.Int.RustNames.{unsigned_abs, FitsSigned}
use Rattle.std.proofs.Math.Nat.{mod-mod_of_dvd, mul_assoc, mod-lt, mul-mod_left, mod-eq_of_lt, div-le_self}
use Rattle.std.proofs.lemmas.Int.{int_rem_euclid_is, to_z-of_z, ints}
use Rattle.std.proofs.lemmas.Nat.Gcd.{dvd_of_mod-eq-zero}
use Rattle.lu_base.specs.declared.trap.Trap.TheVariants.{DivZero}
use Rattle.c_types.specs.declared.parts.IntKind.{IntKind}
use Rattle.c_types.specs.declared.parts.IntKind.TheVariants.{Char, UChar, Short, UShort, Int as Int_kind, UInt, LongLong, ULongLong}
use Rattle.src_meaning.specs.Integers.{residue, from_bits, wrapped, is_zero, quotient, remainder}

abbrev high : ℕ
high = 2 ^ 128

-- a number is a natural less a multiple of 2 ^ 128
raised : (z : ℤ) → (k : ℕ) × (m : ℕ) × (z +ℤ pos (k * high) ≡ pos m)
raised (pos a) = (0, a, omega (arith, ints))
raised (negsuc a) = (suc a, suc a * high - suc a, omega (arith, ints))

-- the signed number of the bits n is n less a multiple of 2 ^ 128
read : (n : ℕ) → n < high → (k : ℕ) × (cast_signed w128 n +ℤ pos (k * high) ≡ pos n)
read n h = by (nat_lt n (2 ^ 127)) refl
  where
    by : (b : Bool) → nat_lt n (2 ^ 127) ≡ b → (k : ℕ) × (cast_signed w128 n +ℤ pos (k * high) ≡ pos n)
    by true e = (0, grind (arith, ints))
    by false e = (1, grind (arith, ints))

module _ (d q : ℕ) (low : 0 < d) (is : q * d ≡ high) where
  euclid : (z : ℤ) (k m : ℕ) → z +ℤ pos (k * high) ≡ pos m → int_rem_euclid z (pos d) ≡ pos (m % d)
  euclid z k m e = int_rem_euclid_is z (pos d) d (k * q) m low refl (ap (λ x. z +ℤ pos x) (mul_assoc k q d ∙ ap (λ x. k * x) is) ∙ e)

  residue_kept : (z : ℤ) → int_rem_euclid (int_wrap w128 z) (pos d) ≡ int_rem_euclid z (pos d)
  unfolding int_wrap
  residue_kept z =
      let r = raised z in
      let n = r.1 % high in
      let below : n < high = mod-lt r.1 (lit< tt) in
      let s = read n below in
      let first : int_rem_euclid z (pos high) ≡ pos n = int_rem_euclid_is z (pos high) high r.0 r.1 (lit< tt) refl r.2 in
      ap (λ x. int_rem_euclid (cast_signed w128 (unsigned_abs x)) (pos d)) first
      ∙ euclid (cast_signed w128 n) s.0 n s.1
      ∙ ap pos (mod-mod_of_dvd d r.1 (dvd_of_mod-eq-zero d (ap (λ x. x % d) (sym is) ∙ mul-mod_left q d)))
      ∙ sym (euclid z r.0 r.1 r.2)

residue-int_wrap : (kind : IntKind) (z : ℤ) → residue kind (int_wrap w128 z) ≡ residue kind z
residue-int_wrap Char z = ap unsigned_abs (residue_kept (2 ^ 8) (2 ^ 120) (lit< tt) refl z)
residue-int_wrap UChar z = ap unsigned_abs (residue_kept (2 ^ 8) (2 ^ 120) (lit< tt) refl z)
residue-int_wrap Short z = ap unsigned_abs (residue_kept (2 ^ 16) (2 ^ 112) (lit< tt) refl z)
residue-int_wrap UShort z = ap unsigned_abs (residue_kept (2 ^ 16) (2 ^ 112) (lit< tt) refl z)
residue-int_wrap Int_kind z = ap unsigned_abs (residue_kept (2 ^ 32) (2 ^ 96) (lit< tt) refl z)
residue-int_wrap UInt z = ap unsigned_abs (residue_kept (2 ^ 32) (2 ^ 96) (lit< tt) refl z)
residue-int_wrap LongLong z = ap unsigned_abs (residue_kept (2 ^ 64) (2 ^ 64) (lit< tt) refl z)
residue-int_wrap ULongLong z = ap unsigned_abs (residue_kept (2 ^ 64) (2 ^ 64) (lit< tt) refl z)

pub wrapped-int_wrap : (kind : IntKind) (z : ℤ) → wrapped kind (int_wrap w128 z) ≡ wrapped kind z
wrapped-int_wrap kind z = ap (from_bits kind) (residue-int_wrap kind z)

cast_is : (q : ℤ) → unsigned_abs q < high → cast_signed w128 (cast_unsigned w128 q) ≡ int_wrap w128 q
unfolding int_wrap
cast_is (pos n) h = ap (cast_signed w128) (sym (mod-eq_of_lt h))
cast_is (negsuc n) h =
    let below : n < high = omega arith in
    let is : n % high ≡ n = mod-eq_of_lt below in
    ap (cast_signed w128) (omega arith)

negated_size : (n : ℕ) → unsigned_abs (neg_ℤ (pos n)) ≡ n
negated_size zero = refl
negated_size (suc n) = refl

quotient_size : (a b : ℤ) → unsigned_abs (int_div a b) ≤ unsigned_abs a
quotient_size (pos a) (pos b) = div-le_self a b
quotient_size (pos a) (negsuc b) = rw (negated_size (a / suc b)) (div-le_self a (suc b))
quotient_size (negsuc a) (pos b) = rw (negated_size (suc a / b)) (div-le_self (suc a) b)
quotient_size (negsuc a) (negsuc b) = div-le_self (suc a) (suc b)

size_of_fitting : (a : ℤ) → FitsSigned w128 a → unsigned_abs a < high
size_of_fitting (pos n) h = let small : n < 2 ^ 127 = h.sfits in omega arith
size_of_fitting (negsuc n) h = let small : n < 2 ^ 127 = h.sfits in omega arith

-- a quotient in 128 bits
pub wrapped-int_div : (kind : IntKind) (a b : ℤ) → FitsSigned w128 a → wrapped kind (int_wrapping_div w128 a b) ≡ wrapped kind (int_div a b)
wrapped-int_div kind a b h =
    let below : unsigned_abs (int_div a b) < high = omega (arith, quotient_size a b, size_of_fitting a h) in
    ap (wrapped kind) (cast_is (int_div a b) below) ∙ wrapped-int_wrap kind (int_div a b)

not_zero : (b : ℤ) → (cast_unsigned w128 b ≡ 0 → ⊥) → is_zero b ≡ false
not_zero (pos zero) h = absurd (h refl)
not_zero (pos (suc n)) h = refl
not_zero (negsuc n) h = refl

-- what the code's division gives, whose numbers go by their bits
module _ (kind : IntKind) (a b q r : ℤ) (fa : FitsSigned w128 a) (fb : FitsSigned w128 b) (fq : FitsSigned w128 q) (fr : FitsSigned w128 r) (some : cast_unsigned w128 b ≡ 0 → ⊥) (wraps : r ≡ wrapped kind (cast_signed w128 (cast_unsigned w128 q))) where
  result : (x : ℤ) → q ≡ x → cast_signed w128 (cast_unsigned w128 r) ≡ wrapped kind x
  result x e = to_z-of_z w128 r fr ∙ wraps ∙ ap (wrapped kind) (to_z-of_z w128 q fq ∙ e)

  pub quotient_is : q ≡ int_wrapping_div w128 (cast_signed w128 (cast_unsigned w128 a)) (cast_signed w128 (cast_unsigned w128 b)) → Ok (cast_signed w128 (cast_unsigned w128 r)) ≡ quotient kind a b
  quotient_is e =
      let same : q ≡ int_wrapping_div w128 a b = e ∙ ap (λ x. int_wrapping_div w128 x (cast_signed w128 (cast_unsigned w128 b))) (to_z-of_z w128 a fa) ∙ ap (int_wrapping_div w128 a) (to_z-of_z w128 b fb) in
      ap Ok (result _ same ∙ wrapped-int_div kind a b fa) ∙ ap (λ z. if z then Err DivZero else Ok (wrapped kind (int_div a b))) (sym (not_zero b some))

  pub remainder_is : q ≡ int_rem (cast_signed w128 (cast_unsigned w128 a)) (cast_signed w128 (cast_unsigned w128 b)) → Ok (cast_signed w128 (cast_unsigned w128 r)) ≡ remainder kind a b
  remainder_is e =
      let same : q ≡ int_rem a b = e ∙ ap (λ x. int_rem x (cast_signed w128 (cast_unsigned w128 b))) (to_z-of_z w128 a fa) ∙ ap (int_rem a) (to_z-of_z w128 b fb) in
      ap Ok (result _ same) ∙ ap (λ z. if z then Err DivZero else Ok (wrapped kind (int_rem a b))) (sym (not_zero b some))
