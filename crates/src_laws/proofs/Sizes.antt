-- Sizes of the types of a built table, kind by kind, and their bounds.
use Rattle.std.proofs.Common.{◌≡◌, ◌∙◌, refl, ap, ℕ, ◌*◌, ◌<◌, ◌≤◌, Bool, true, false, ◌&&◌, ◌||◌, not, nat_lt, nat_le, length, Some, slice_get, arith}
use Rattle.std.proofs.lemmas.Bool.Decides.{nat_tests}
use Rattle.c_types.specs.declared.parts.IntKind.{IntKind}
use Rattle.c_types.specs.declared.parts.Parts.{Parts}
use Rattle.c_types.specs.declared.parts.Ty.{Ty}
use Rattle.c_types.specs.declared.parts.Ty.TheVariants.{Int, Pointer, VoidPointer, Function, Array}
use Rattle.c_types.specs.Layout.{greatest, IsPointerSize, int_size, shape_step, shape_of, size_of, align_of}
use Rattle.c_types.specs.Refusal.{has_bad_length, IsBuilt}
use Rattle.c_types.proofs.Numbered.{pointer_sized}
use Rattle.c_types.proofs.KeptLemmas.{size-small}
use Rattle.c_types.proofs.PlaceLaws.{size-low}
use Rattle.c_types.proofs.ShapeLaws.{shape_of-is, length-low}

or_right : (a b : Bool) → b ≡ true → a || b ≡ true
or_right true b h = refl
or_right false b h = h

module _ (p : Parts) (built : IsBuilt p) where
  -- a pointer takes 4 or 8 bytes
  pub pointer-is : IsPointerSize p.pointer
  pointer-is = pointer_sized p built.numbered

  -- a type of the table has a byte, and none has more than the greatest size
  pub size-between : (t : ℕ) → t < length p.types → (0 < size_of p t) × (size_of p t ≤ greatest)
  size-between t lt = (size-low p built t lt, size-small p built.small t)

  -- an array has an element, and none has more than the greatest length
  pub length-between : (t u n : ℕ) → slice_get p.types t ≡ Some (Array u n) → (1 ≤ n) × (n ≤ greatest)
  length-between t u n e = (length-low p built t u n e, by_test (nat_le n greatest) refl)
    where
      bad : (b : Bool) → not (b && false) ≡ true
      bad true = refl
      bad false = refl

      by_test : (b : Bool) → nat_le n greatest ≡ b → n ≤ greatest
      by_test true h = grind (arith, nat_tests)
      by_test false h =
          absurd (built.small t (or_right (nat_lt greatest (size_of p t)) _ (ap has_bad_length e ∙ (ap (λ b. not (nat_lt 0 n && b)) h ∙ bad (nat_lt 0 n)))))

  pub size-is : (t : ℕ) (ty : Ty) → slice_get p.types t ≡ Some ty → size_of p t ≡ (shape_step p (shape_of p) ty).size
  size-is t ty e = ap (λ s. s.size) (shape_of-is p built t ty e)

  pub align-is : (t : ℕ) (ty : Ty) → slice_get p.types t ≡ Some ty → align_of p t ≡ (shape_step p (shape_of p) ty).align
  align-is t ty e = ap (λ s. s.align) (shape_of-is p built t ty e)

  pub size-int : (t : ℕ) (kind : IntKind) → slice_get p.types t ≡ Some (Int kind) → size_of p t ≡ int_size kind
  size-int t kind e = size-is t (Int kind) e

  pub size-pointer : (t u : ℕ) → slice_get p.types t ≡ Some (Pointer u) → size_of p t ≡ p.pointer
  size-pointer t u e = size-is t (Pointer u) e

  pub size-void_pointer : (t : ℕ) → slice_get p.types t ≡ Some VoidPointer → size_of p t ≡ p.pointer
  size-void_pointer t e = size-is t VoidPointer e

  pub size-function : (t g : ℕ) → slice_get p.types t ≡ Some (Function g) → size_of p t ≡ p.pointer
  size-function t g e = size-is t (Function g) e

  pub size-array : (t u n : ℕ) → slice_get p.types t ≡ Some (Array u n) → size_of p t ≡ size_of p u * n
  size-array t u n e = size-is t (Array u n) e
