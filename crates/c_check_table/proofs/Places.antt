-- Where an item stands in a list, or the list's length where it isn't there.
use Rattle.std.proofs.Common.{◌≡◌, ◌≤◌, refl, ℕ, suc, ◌+◌, Bool, true, false, cond, List, [], ◌∷◌, length, Some, None, nat_lt, arith}
use Rattle.std.specs.Prelude.{not, position}
use Rattle.std.specs.List.{position_or_len}

step : (b : Bool) (m n : ℕ) → m ≤ n → cond (not b) (1 + m) 0 ≤ suc n
step true m n h = omega arith
step false m n h = omega arith

at_most : {A : Type 0} (p : A → Bool) (xs : List A) → position_or_len p xs ≤ length xs
at_most p [] = omega arith
at_most p (x ∷ xs) = step (p x) (position_or_len p xs) (length xs) (at_most p xs)

none_is : (b : Bool) (m : ℕ) → cond b (Some m) None ≡ None → b ≡ false
none_is true m h = absurd (cc)
none_is false m h = refl

meet : (m n : ℕ) → m ≤ n → nat_lt m n ≡ false → n ≡ m
meet m n h l = grind (arith)

pub at_end : {A : Type 0} (p : A → Bool) (xs : List A) → position p xs ≡ None → length xs ≡ position_or_len p xs
at_end p xs h =
    meet (position_or_len p xs) (length xs) (at_most p xs) (none_is (nat_lt (position_or_len p xs) (length xs)) (position_or_len p xs) h)
