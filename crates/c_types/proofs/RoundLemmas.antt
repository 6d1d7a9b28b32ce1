-- Rounds over a table.
use Rattle.std.proofs.Common.{◌≡◌, ◌∙◌, sym, ap, ℕ, zero, suc, ◌≤◌, ◌⊎◌, inl, inr, Bool, ◌||◌, List, [], ◌∷◌, ◌++◌, arith, refl}
use Rattle.std.specs.List.{list_any}
use Rattle.c_types.specs.declared.shape.Shape.{Shape}
use Rattle.c_types.specs.declared.parts.FieldDef.{FieldDef}
use Rattle.c_types.specs.Chain.{field_types}
use Rattle.c_types.specs.Rounds.{shape_at, IsSmall, AreSmall}

at_most : (a b : ℕ) → a ≤ suc b → (a ≡ suc b) ⊎ (a ≤ b)
at_most zero b h = inr (omega arith)
at_most (suc a) zero h = inl (omega arith)
at_most (suc a) (suc b) h = elim (at_most a b (omega arith)) [ inl e ↦ inl (ap suc e) | inr l ↦ inr (omega arith) ]

-- where one round changes nothing, no later one does
pub still : {A : Type 0} (r : ℕ → A) (f : A → A) → ((k : ℕ) → r (suc k) ≡ f (r k)) → (k : ℕ) → r (suc k) ≡ r k → (n : ℕ) → k ≤ n → r k ≡ r n
still r f each k same zero le = let z : k ≡ 0 = omega arith in ap r z
still r f each k same (suc n) le = by_case (at_most k n le) (still r f each k same n)
  where
    by_case : (k ≡ suc n) ⊎ (k ≤ n) → (k ≤ n → r k ≡ r n) → r k ≡ r (suc n)
    by_case (inl e) before = ap r e
    by_case (inr l) before = sym same ∙ (each k ∙ (ap f (before l) ∙ sym (each n)))

pub AreSmall-push : (xs : List Shape) (s : Shape) → AreSmall (shape_at xs) → IsSmall s → AreSmall (shape_at (xs ++ s ∷ []))
AreSmall-push [] s all h zero = h
AreSmall-push [] s all h (suc t) = all t
AreSmall-push (x ∷ xs) s all h zero = all zero
AreSmall-push (x ∷ xs) s all h (suc t) = AreSmall-push xs s (λ t. all (suc t)) h t

pub list_any-map : (f : ℕ → Bool) (fields : List FieldDef) → list_any f (field_types fields) ≡ list_any (λ d. f d.ty) fields
list_any-map f [] = refl
list_any-map f (d ∷ fields) = ap (λ b. f d.ty || b) (list_any-map f fields)
