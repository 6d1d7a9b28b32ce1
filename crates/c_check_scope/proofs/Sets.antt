-- Sets of broken rules as numbers.
use Rattle.std.proofs.Common.{◌≡◌, refl, ap, Bool, true, false, ◌||◌, ℕ, zero, suc, ◌*◌, ◌%◌, ◌^◌, ◌<◌, arith}
use Rattle.std.specs.Prelude.{nat_eq, bit_or, max}
use Rattle.std.specs.Int.{bit_at, w32, trailing_zeros}
use Rattle.std.proofs.lemmas.Nat.{le_or_l, or_lt}
use Rattle.std.proofs.lemmas.Nat.Bits.{bit_at_or, bit_at-lt, bit_at-pow_same, bit_at-pow_other, bit_at-trailing_zeros}
use Rattle.c_check_scope.specs.declared.rule.Rule.{Rule}
use Rattle.c_check_scope.specs.declared.rule.Rule.TheVariants as R
use Rattle.c_check_scope.specs.Rules.{Rules, code, only, union, has, IsLeast}

-- a code is below 28
pub code_fits : (r : Rule) → code r < 28
unfolding code
code_fits R.NameTaken = omega arith
code_fits R.Fields = omega arith
code_fits R.UnknownTag = omega arith
code_fits R.VoidValue = omega arith
code_fits R.ArrayLength = omega arith
code_fits R.Size = omega arith
code_fits R.NotScalar = omega arith
code_fits R.LocalTaken = omega arith
code_fits R.Initialiser = omega arith
code_fits R.Undefined = omega arith
code_fits R.Undeclared = omega arith
code_fits R.NotPlace = omega arith
code_fits R.NoAddress = omega arith
code_fits R.NoField = omega arith
code_fits R.NoPointer = omega arith
code_fits R.Operands = omega arith
code_fits R.Conversion = omega arith
code_fits R.Condition = omega arith
code_fits R.Callee = omega arith
code_fits R.BuiltIn = omega arith
code_fits R.OutsideLoop = omega arith
code_fits R.VoidResult = omega arith
code_fits R.Returned = omega arith
code_fits R.InsideUnion = omega arith
code_fits R.Cast = omega arith
code_fits R.EntryPoint = omega arith
code_fits R.TooManyLocals = omega arith
code_fits R.TooMany = omega arith

-- the mask of one code
pub only_fits : (r : Rule) → 1 * 2 ^ code r % 2 ^ 32 ≡ only r
unfolding code only
only_fits R.NameTaken = refl
only_fits R.Fields = refl
only_fits R.UnknownTag = refl
only_fits R.VoidValue = refl
only_fits R.ArrayLength = refl
only_fits R.Size = refl
only_fits R.NotScalar = refl
only_fits R.LocalTaken = refl
only_fits R.Initialiser = refl
only_fits R.Undefined = refl
only_fits R.Undeclared = refl
only_fits R.NotPlace = refl
only_fits R.NoAddress = refl
only_fits R.NoField = refl
only_fits R.NoPointer = refl
only_fits R.Operands = refl
only_fits R.Conversion = refl
only_fits R.Condition = refl
only_fits R.Callee = refl
only_fits R.BuiltIn = refl
only_fits R.OutsideLoop = refl
only_fits R.VoidResult = refl
only_fits R.Returned = refl
only_fits R.InsideUnion = refl
only_fits R.Cast = refl
only_fits R.EntryPoint = refl
only_fits R.TooManyLocals = refl
only_fits R.TooMany = refl

-- it has a bit, and none from 28 on
pub only_is_a_set : (r : Rule) → (0 < only r) × (only r < 2 ^ 28)
unfolding code only
only_is_a_set R.NameTaken = (omega arith, omega arith)
only_is_a_set R.Fields = (omega arith, omega arith)
only_is_a_set R.UnknownTag = (omega arith, omega arith)
only_is_a_set R.VoidValue = (omega arith, omega arith)
only_is_a_set R.ArrayLength = (omega arith, omega arith)
only_is_a_set R.Size = (omega arith, omega arith)
only_is_a_set R.NotScalar = (omega arith, omega arith)
only_is_a_set R.LocalTaken = (omega arith, omega arith)
only_is_a_set R.Initialiser = (omega arith, omega arith)
only_is_a_set R.Undefined = (omega arith, omega arith)
only_is_a_set R.Undeclared = (omega arith, omega arith)
only_is_a_set R.NotPlace = (omega arith, omega arith)
only_is_a_set R.NoAddress = (omega arith, omega arith)
only_is_a_set R.NoField = (omega arith, omega arith)
only_is_a_set R.NoPointer = (omega arith, omega arith)
only_is_a_set R.Operands = (omega arith, omega arith)
only_is_a_set R.Conversion = (omega arith, omega arith)
only_is_a_set R.Condition = (omega arith, omega arith)
only_is_a_set R.Callee = (omega arith, omega arith)
only_is_a_set R.BuiltIn = (omega arith, omega arith)
only_is_a_set R.OutsideLoop = (omega arith, omega arith)
only_is_a_set R.VoidResult = (omega arith, omega arith)
only_is_a_set R.Returned = (omega arith, omega arith)
only_is_a_set R.InsideUnion = (omega arith, omega arith)
only_is_a_set R.Cast = (omega arith, omega arith)
only_is_a_set R.EntryPoint = (omega arith, omega arith)
only_is_a_set R.TooManyLocals = (omega arith, omega arith)
only_is_a_set R.TooMany = (omega arith, omega arith)

pub union_is_a_set : (r s : Rules) → 0 < r → r < 2 ^ 28 → s < 2 ^ 28 → (0 < bit_or r s) × (bit_or r s < 2 ^ 28)
union_is_a_set r s h k l = (omega (arith, h, le_or_l r s), or_lt 28 r s k l)

-- a code is in both sets together where it is in one of them
pub has_union : (r s : Rules) (c : ℕ) → has (union r s) c ≡ has r c || has s c
unfolding has union
has_union r s c = by (bit_at r c) (bit_at s c) (bit_at (bit_or r s) c) (bit_at-lt r c) (bit_at-lt s c) (bit_at_or r s c)
  where
    by : (a b m : ℕ) → a < 2 → b < 2 → m ≡ max a b → nat_eq m 1 ≡ nat_eq a 1 || nat_eq b 1
    by zero zero m h k e = ap (λ n. nat_eq n 1) e
    by zero (suc zero) m h k e = ap (λ n. nat_eq n 1) e
    by (suc zero) zero m h k e = ap (λ n. nat_eq n 1) e
    by (suc zero) (suc zero) m h k e = ap (λ n. nat_eq n 1) e
    by (suc (suc a)) b m h k e = absurd (omega (arith, h))
    by a (suc (suc b)) m h k e = absurd (omega (arith, k))

-- in the set of one rule is its code alone
pub has_only : (r : Rule) (c : ℕ) → has (only r) c ≡ nat_eq (code r) c
unfolding has only
has_only r c = by (nat_eq (code r) c) refl
  where
    by : (b : Bool) → nat_eq (code r) c ≡ b → nat_eq (bit_at (2 ^ code r) c) 1 ≡ nat_eq (code r) c
    by true e = grind (arith, bit_at-pow_same c)
    by false e = grind (arith, bit_at-pow_other (code r) c)

pub least_of : (r : Rules) → 0 < r → r < 2 ^ 32 → IsLeast (λ c. has r c ≡ true) (trailing_zeros w32 r)
unfolding has
least_of r h k = by (trailing_zeros w32 r) (bit_at-trailing_zeros w32 r h k)
  where
    by : (z : ℕ) → (z < 32) × (bit_at r z ≡ 1) × ((i : ℕ) → i < z → bit_at r i ≡ 0) → IsLeast (λ c. has r c ≡ true) z
    by z e = record { is = ap (λ n. nat_eq n 1) e.1; first = λ m t. grind (arith, e.2 m) }
