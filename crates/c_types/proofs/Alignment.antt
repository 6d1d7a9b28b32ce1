-- Alignments, and multiples of them.
use Rattle.std.proofs.Common.{◌∙◌, ap, refl, ℕ, ◌≤◌, ◌+◌, ◌-◌, ◌*◌, ◌/◌, max, inl, inr, arith}
use Rattle.c_types.specs.Layout.{next_multiple, IsMultiple, IsPointerSize}

-- 1, 2, 4 or 8
pub data IsAlignment : ℕ → Type 0 where
  one_byte : IsAlignment 1
  two_bytes : IsAlignment 2
  four_bytes : IsAlignment 4
  eight_bytes : IsAlignment 8

pub IsAlignment-max : {a b : ℕ} → IsAlignment a → IsAlignment b → IsAlignment (max a b)
IsAlignment-max one_byte one_byte = one_byte
IsAlignment-max one_byte two_bytes = two_bytes
IsAlignment-max one_byte four_bytes = four_bytes
IsAlignment-max one_byte eight_bytes = eight_bytes
IsAlignment-max two_bytes one_byte = two_bytes
IsAlignment-max two_bytes two_bytes = two_bytes
IsAlignment-max two_bytes four_bytes = four_bytes
IsAlignment-max two_bytes eight_bytes = eight_bytes
IsAlignment-max four_bytes one_byte = four_bytes
IsAlignment-max four_bytes two_bytes = four_bytes
IsAlignment-max four_bytes four_bytes = four_bytes
IsAlignment-max four_bytes eight_bytes = eight_bytes
IsAlignment-max eight_bytes one_byte = eight_bytes
IsAlignment-max eight_bytes two_bytes = eight_bytes
IsAlignment-max eight_bytes four_bytes = eight_bytes
IsAlignment-max eight_bytes eight_bytes = eight_bytes

-- a smaller alignment divides a greater one
pub IsMultiple-greater : {a b : ℕ} → IsAlignment a → IsAlignment b → a ≤ b → IsMultiple b a
IsMultiple-greater one_byte one_byte h = (1, refl)
IsMultiple-greater one_byte two_bytes h = (2, refl)
IsMultiple-greater one_byte four_bytes h = (4, refl)
IsMultiple-greater one_byte eight_bytes h = (8, refl)
IsMultiple-greater two_bytes one_byte h = absurd (omega arith)
IsMultiple-greater two_bytes two_bytes h = (1, refl)
IsMultiple-greater two_bytes four_bytes h = (2, refl)
IsMultiple-greater two_bytes eight_bytes h = (4, refl)
IsMultiple-greater four_bytes one_byte h = absurd (omega arith)
IsMultiple-greater four_bytes two_bytes h = absurd (omega arith)
IsMultiple-greater four_bytes four_bytes h = (1, refl)
IsMultiple-greater four_bytes eight_bytes h = (2, refl)
IsMultiple-greater eight_bytes one_byte h = absurd (omega arith)
IsMultiple-greater eight_bytes two_bytes h = absurd (omega arith)
IsMultiple-greater eight_bytes four_bytes h = absurd (omega arith)
IsMultiple-greater eight_bytes eight_bytes h = (1, refl)

pub IsAlignment-low : {a : ℕ} → IsAlignment a → 1 ≤ a
IsAlignment-low one_byte = omega arith
IsAlignment-low two_bytes = omega arith
IsAlignment-low four_bytes = omega arith
IsAlignment-low eight_bytes = omega arith

pub IsAlignment-high : {a : ℕ} → IsAlignment a → a ≤ 8
IsAlignment-high one_byte = omega arith
IsAlignment-high two_bytes = omega arith
IsAlignment-high four_bytes = omega arith
IsAlignment-high eight_bytes = omega arith

pub IsAlignment-pointer : (w : ℕ) → IsPointerSize w → IsAlignment w
IsAlignment-pointer w (inl e) = rw e four_bytes
IsAlignment-pointer w (inr e) = rw e eight_bytes

pub IsMultiple-self : (a : ℕ) → IsMultiple a a
IsMultiple-self a = (1, omega arith)

pub IsMultiple-zero : (a : ℕ) → IsMultiple 0 a
IsMultiple-zero a = (0, omega arith)

pub IsMultiple-trans : (n a b : ℕ) → IsMultiple n a → IsMultiple a b → IsMultiple n b
IsMultiple-trans n a b (q, e) (r, f) = (q * r, e ∙ (ap (λ x. q * x) f ∙ omega arith))

pub IsMultiple-add : (n m a : ℕ) → IsMultiple n a → IsMultiple m a → IsMultiple (n + m) a
IsMultiple-add n m a (q, e) (r, f) = (q + r, omega (arith, e, f))

pub IsMultiple-times : (n m a : ℕ) → IsMultiple n a → IsMultiple (n * m) a
IsMultiple-times n m a (q, e) = (q * m, ap (λ x. x * m) e ∙ omega arith)

pub IsMultiple-next : (n a : ℕ) → IsMultiple (next_multiple n a) a
IsMultiple-next n a = ((n + (a - 1)) / a, refl)
