-- Laws of tests and of lists of tests.
use Rattle.std.proofs.Common.{◌≡◌, refl, Bool, true, false, ◌&&◌, ◌||◌, nat_eq, ℕ, List, [], ◌∷◌, arith}
use Rattle.std.specs.List.{list_any}
use Rattle.std.proofs.lemmas.Bool.Decides.{nat_tests}

pub neither : (a b : Bool) → a ≡ false → b ≡ false → (a || b) ≡ false
neither false b first second = second
neither true b first second = absurd (cc)

pub first_not : (a b : Bool) → (a || b) ≡ false → a ≡ false
first_not false b none = refl
first_not true b none = absurd (cc)

pub second_not : (a b : Bool) → (a || b) ≡ false → b ≡ false
second_not false b none = none
second_not true b none = absurd (cc)

pub both : (a b : Bool) → a ≡ true → b ≡ true → (a && b) ≡ true
both true b first second = second
both false b first second = absurd (cc)

-- of a test that some item passes, there is such an item
pub any-some : {A : Type 0} (p : A → Bool) (xs : List A) → list_any p xs ≡ true → (x : A) × (p x ≡ true)
any-some {A} p [] some = absurd (cc)
any-some {A} p (x ∷ xs) some = by (p x) refl (λ later. any-some p xs later) some
  where
    by : (b : Bool) → p x ≡ b → (list_any p xs ≡ true → (y : A) × (p y ≡ true)) → (b || list_any p xs) ≡ true → (y : A) × (p y ≡ true)
    by true is rest some = (x, is)
    by false is rest some = rest some

pub nat_eq-sym : (a b : ℕ) → nat_eq a b ≡ nat_eq b a
nat_eq-sym a b = grind (arith, nat_tests)
