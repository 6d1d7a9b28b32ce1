-- Tests of numbers that hold, and that fail.
use Rattle.std.proofs.Common.{◌≡◌, true, false, ℕ, ◌<◌, ◌≤◌, arith, nat_lt, nat_le, nat_eq}
use Rattle.std.proofs.lemmas.Bool.Decides.{nat_tests}

pub lt_true : (a b : ℕ) → a < b → nat_lt a b ≡ true
lt_true a b h = grind (arith, nat_tests)

pub le_true : (a b : ℕ) → a ≤ b → nat_le a b ≡ true
le_true a b h = grind (arith, nat_tests)

pub le_false : (a b : ℕ) → b < a → nat_le a b ≡ false
le_false a b h = grind (arith, nat_tests)

pub eq_false : (n : ℕ) → (n ≡ 0 → ⊥) → nat_eq n 0 ≡ false
eq_false n h = grind (arith, nat_tests)
