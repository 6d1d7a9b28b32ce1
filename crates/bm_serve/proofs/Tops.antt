-- The topmost word.
use Rattle.std.proofs.Common.{◌≡◌, refl, ap, sym, ℕ, List, [], ◌∷◌, drop, Some, None}
use Rattle.std.specs.Prelude.{slice_get}
use Rattle.bm_code.specs.Frames.{on_top}

some_in : {A : Type 0} (a b : A) → Some a ≡ Some b → a ≡ b
some_in a b h = cc

pub top_some : {A : Type 0} (stack : List ℕ) (w : ℕ) (other : A) (F : ℕ → List ℕ → A) → Some w ≡ slice_get stack 0 → on_top stack other F ≡ F w (drop 1 stack)
top_some [] w other F e = absurd (cc)
top_some (v ∷ rest) w other F e = let same : v ≡ w = some_in v w (sym e) in ap (λ v. F v rest) same

pub top_none : {A : Type 0} (stack : List ℕ) (other : A) (F : ℕ → List ℕ → A) → None ≡ slice_get stack 0 → on_top stack other F ≡ other
top_none [] other F e = refl
top_none (v ∷ rest) other F e = absurd (cc)
