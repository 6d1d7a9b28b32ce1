-- A table has each type once.
use Rattle.std.proofs.Common.{◌≡◌, ℕ, ◌<◌, Bool, true, false, length, get_or, take, refl}
use Rattle.std.specs.List.{list_any}
use Rattle.std.proofs.lemmas.List.Sorted.{IsPermutation-refl}
use Rattle.c_types.specs.contracts.parts.TyPartialEq.TheImpl.{eq-value}
use Rattle.c_types.specs.declared.parts.Ty.{Ty}
use Rattle.c_types.specs.declared.parts.Parts.{Parts}
use Rattle.c_types.specs.Refusal.{IsBuilt}
use Rattle.c_types.proofs.Repeats.{repeated-found, repeated-duplicate}

-- a type isn't among those before it
pub fresh : (p : Parts) → IsBuilt p → (n : ℕ) (d : Ty) → n < length p.types → list_any (eq-value.it (get_or p.types n d)) (take n p.types) ≡ false
fresh p built n d h = by (list_any (eq-value.it (get_or p.types n d)) (take n p.types)) refl
  where
    by : (b : Bool) → list_any (eq-value.it (get_or p.types n d)) (take n p.types) ≡ b → list_any (eq-value.it (get_or p.types n d)) (take n p.types) ≡ false
    by false e = e
    by true e =
        absurd (built.distinct n (repeated-duplicate p n h (repeated-found p.types (take n p.types) n d h (IsPermutation-refl (take n p.types)) e)))
