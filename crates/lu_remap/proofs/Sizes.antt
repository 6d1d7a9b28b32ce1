-- A global takes no more than the greatest size.
use Rattle.std.proofs.Common.{◌≡◌, ◌∙◌, sym, ap, refl, ℕ, ◌*◌, ◌≤◌, ◌^◌, Option, Some, None, slice_get, arith}
use Rattle.c_types.specs.declared.parts.Parts.{Parts}
use Rattle.c_types.specs.declared.parts.Ty.{Ty}
use Rattle.c_types.specs.declared.parts.Ty.TheVariants as T
use Rattle.c_types.specs.Layout.{size_of}
use Rattle.c_types.specs.Refusal.{IsBuilt}
use Rattle.c_types.proofs.KeptLemmas.{size-small}
use Rattle.c_types.proofs.ShapeLaws.{shape_of-is}
use Rattle.src_meaning.specs.Initial.{elem_in, count_in, global_elem, global_count}

module _ (p : Parts) (built : IsBuilt p) where
  pub size_global : (t : ℕ) → global_count p t * size_of p (global_elem p t) ≡ size_of p t
  size_global t = by (slice_get p.types t) refl
    where
      by : (o : Option Ty) → slice_get p.types t ≡ o → count_in o * size_of p (elem_in t o) ≡ size_of p t
      by (Some (T.Array u n)) e =
          let size = ap (λ s. s.size) (shape_of-is p built t (T.Array u n) e) in
          let turned : n * size_of p u ≡ size_of p u * n = grind arith in
          turned ∙ sym size
      by None e = omega arith
      by (Some (T.Int k)) e = omega arith
      by (Some (T.Pointer u)) e = omega arith
      by (Some T.VoidPointer) e = omega arith
      by (Some (T.Function g)) e = omega arith
      by (Some (T.Struct n)) e = omega arith
      by (Some (T.Union n)) e = omega arith

  pub global_small : (t : ℕ) → global_count p t * size_of p (global_elem p t) ≤ 2 ^ 20
  global_small t =
      let size = size_global t in
      let small = size-small p built.small t in
      omega (arith, size, small)
