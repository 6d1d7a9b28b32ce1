-- An element of a list changed, and the others as they were.
use Rattle.std.proofs.Common.{◌≡◌, refl, ap, ℕ, zero, suc, List, [], ◌∷◌}
use Rattle.std.specs.Prelude.{slice_get}
use Rattle.std.specs.Option.{option_map}
use Rattle.sys_world.specs.World.{change}

pub change-here : {A : Type 0} (f : A → A) (i : ℕ) (xs : List A) → slice_get (change f i xs) i ≡ option_map f (slice_get xs i)
change-here f i [] = refl
change-here f zero (x ∷ xs) = refl
change-here f (suc i) (x ∷ xs) = change-here f i xs

pub change-other : {A : Type 0} (f : A → A) (i j : ℕ) (xs : List A) → (i ≡ j → ⊥) → slice_get (change f i xs) j ≡ slice_get xs j
change-other f i j [] other = refl
change-other f zero zero (x ∷ xs) other = absurd (other refl)
change-other f zero (suc j) (x ∷ xs) other = refl
change-other f (suc i) zero (x ∷ xs) other = refl
change-other f (suc i) (suc j) (x ∷ xs) other = change-other f i j xs (λ e. other (ap suc e))

pub change-twice : {A : Type 0} (f g : A → A) (i : ℕ) (xs : List A) → change f i (change g i xs) ≡ change (λ x. f (g x)) i xs
change-twice f g i [] = refl
change-twice f g zero (x ∷ xs) = refl
change-twice f g (suc i) (x ∷ xs) = ap (λ ys. x ∷ ys) (change-twice f g i xs)

pub change-same : {A : Type 0} (i : ℕ) (xs : List A) → change (λ x. x) i xs ≡ xs
change-same i [] = refl
change-same zero (x ∷ xs) = refl
change-same (suc i) (x ∷ xs) = ap (λ ys. x ∷ ys) (change-same i xs)
