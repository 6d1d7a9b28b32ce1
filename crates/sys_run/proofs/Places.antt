-- Places of lists.
use Rattle.std.proofs.Common.{◌≡◌, refl, ap, arith, ℕ, zero, suc, ◌<◌, List, [], ◌∷◌, length, get_or}
use Rattle.std.specs.Prelude.{slice_set}

-- what stands at a place doesn't depend on what would stand behind the end
pub get-any : {A : Type 0} (xs : List A) (place : ℕ) (d e : A) → place < length xs → get_or xs place d ≡ get_or xs place e
get-any [] place d e within = absurd (omega arith)
get-any (x ∷ xs) zero d e within = refl
get-any (x ∷ xs) (suc place) d e within = get-any xs place d e (omega arith)

-- what was put at a place stands there
pub get-set : {A : Type 0} (xs : List A) (place : ℕ) (x d : A) → place < length xs → get_or (slice_set xs place x) place d ≡ x
get-set [] place x d within = absurd (omega arith)
get-set (y ∷ xs) zero x d within = refl
get-set (y ∷ xs) (suc place) x d within = get-set xs place x d (omega arith)

-- the last that is put at a place stays
pub set-set : {A : Type 0} (xs : List A) (place : ℕ) (x y : A) → slice_set (slice_set xs place x) place y ≡ slice_set xs place y
set-set [] place x y = refl
set-set (z ∷ xs) zero x y = refl
set-set (z ∷ xs) (suc place) x y = ap (λ zs. z ∷ zs) (set-set xs place x y)
