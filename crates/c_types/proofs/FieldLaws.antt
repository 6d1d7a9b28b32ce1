-- Where the fields of a struct and the members of a union stand.
use Rattle.std.proofs.Common.{◌≡◌, ap, ℕ, zero, suc, ◌<◌, ◌≤◌, ◌+◌, List, [], ◌∷◌, Some, slice_get, arith}
use Rattle.c_types.specs.declared.parts.FieldDef.{FieldDef}
use Rattle.c_types.specs.Layout.{IsMultiple, Shapes, greatest_align, greatest_size, field_end, fields_end, nth_start}
use Rattle.c_types.proofs.Alignment.{IsMultiple-next}
use Rattle.c_types.proofs.Capped.{next_multiple-above}

module _ (known : Shapes) where
  pub align-greatest : (fields : List FieldDef) (k : ℕ) (f : FieldDef) → slice_get fields k ≡ Some f → (known f.ty).align ≤ greatest_align known fields
  align-greatest [] k f e = cc
  align-greatest (d ∷ fs) zero f e = let q : d ≡ f = cc in let s = ap (λ d. (known d.ty).align) q in omega (arith, s)
  align-greatest (d ∷ fs) (suc k) f e = let i = align-greatest fs k f e in omega (arith, i)

  pub size-greatest : (fields : List FieldDef) (k : ℕ) (f : FieldDef) → slice_get fields k ≡ Some f → (known f.ty).size ≤ greatest_size known fields
  size-greatest [] k f e = cc
  size-greatest (d ∷ fs) zero f e = let q : d ≡ f = cc in let s = ap (λ d. (known d.ty).size) q in omega (arith, s)
  size-greatest (d ∷ fs) (suc k) f e = let i = size-greatest fs k f e in omega (arith, i)

  -- a field stands at a multiple of its alignment
  pub nth-aligned : (fields : List FieldDef) (end k : ℕ) (f : FieldDef) → slice_get fields k ≡ Some f → IsMultiple (nth_start known end fields k) (known f.ty).align
  nth-aligned [] end k f e = cc
  nth-aligned (d ∷ fs) end zero f e = let q : d ≡ f = cc in rw (← q) (IsMultiple-next end (known d.ty).align)
  nth-aligned (d ∷ fs) end (suc k) f e = nth-aligned fs (field_end known end d) k f e

module _ (known : Shapes) (low : (t : ℕ) → 1 ≤ (known t).align) where
  pub end-above : (end : ℕ) (f : FieldDef) → end + (known f.ty).size ≤ field_end known end f
  end-above end f = let i = next_multiple-above end (known f.ty).align (low f.ty) in omega (arith, i)

  pub fields_end-above : (fields : List FieldDef) (end : ℕ) → end ≤ fields_end known end fields
  fields_end-above [] end = omega arith
  fields_end-above (d ∷ fs) end =
      let i = fields_end-above fs (field_end known end d) in let j = end-above end d in omega (arith, i, j)

  pub nth-above : (fields : List FieldDef) (end k : ℕ) (f : FieldDef) → slice_get fields k ≡ Some f → end ≤ nth_start known end fields k
  nth-above [] end k f e = cc
  nth-above (d ∷ fs) end zero f e = next_multiple-above end (known d.ty).align (low d.ty)
  nth-above (d ∷ fs) end (suc k) f e =
      let i = nth-above fs (field_end known end d) k f e in let j = end-above end d in omega (arith, i, j)

  -- a field ends within the fields
  pub nth-within : (fields : List FieldDef) (end k : ℕ) (f : FieldDef) → slice_get fields k ≡ Some f → nth_start known end fields k + (known f.ty).size ≤ fields_end known end fields
  nth-within [] end k f e = cc
  nth-within (d ∷ fs) end zero f e =
      let q : d ≡ f = cc in
      let s = ap (λ d. (known d.ty).size) q in
      let i = fields_end-above fs (field_end known end d) in omega (arith, i, s)
  nth-within (d ∷ fs) end (suc k) f e = nth-within fs (field_end known end d) k f e

  -- a field ends before a later one begins
  pub nth-before : (fields : List FieldDef) (end j k : ℕ) (f g : FieldDef) → slice_get fields j ≡ Some f → slice_get fields k ≡ Some g → j < k → nth_start known end fields j + (known f.ty).size ≤ nth_start known end fields k
  nth-before [] end j k f g e h lt = cc
  nth-before (d ∷ fs) end j zero f g e h lt = absurd (omega arith)
  nth-before (d ∷ fs) end zero (suc k) f g e h lt =
      let q : d ≡ f = cc in
      let s = ap (λ d. (known d.ty).size) q in
      let i = nth-above fs (field_end known end d) k g h in omega (arith, i, s)
  nth-before (d ∷ fs) end (suc j) (suc k) f g e h lt = nth-before fs (field_end known end d) j k f g e h (omega arith)
