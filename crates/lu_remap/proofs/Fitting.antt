-- Parts of a new place fit where it fits.
use Rattle.std.proofs.Common.{◌≡◌, ap, refl, ℕ, ◌+◌, ◌*◌, ◌<◌, ◌^◌, Option, Some, arith}
use Rattle.lu_spec.proofs.ThenLemmas.{then_some}
use Rattle.c_types.specs.declared.parts.Ty.{Ty}
use Rattle.c_types.specs.declared.parts.Ty.TheVariants.{Array}
use Rattle.c_types.specs.declared.path.Place.{Place}
use Rattle.c_types.specs.declared.path.Step.{Step}
use Rattle.c_types.specs.Place.{step_place}
use Rattle.c_types.specs.Refusal.{IsBuilt}
use Rattle.c_types.proofs.PlaceLaws.{step-within}
use Rattle.c_types.proofs.ShapeLaws.{shape_of-is}
use Rattle.lu_image_store.specs.Versions.{Versions, new_types, new_type, new_size}
use Rattle.lu_image_store.specs.Paths.{step_image}
use Rattle.lu_remap.specs.Descent.{part_after}

module _ (m : Versions) (built : IsBuilt (new_types m)) (to : Place) (fits : to.offset + new_size m to.ty < 2 ^ 32) where
  pub array_fits : (u n : ℕ) → new_type m to.ty ≡ Some (Array u n) → to.offset + n * new_size m u < 2 ^ 32
  array_fits u n e =
      let size = ap (λ s. s.size) (shape_of-is (new_types m) built to.ty (Array u n) e) in
      let turned : new_size m u * n ≡ n * new_size m u = grind arith in
      omega (arith, size, turned, fits)

  pub part_fits : (old : Option Ty) (s : Step) (part : Place) → part_after m old s (new_type m to.ty) ≡ Some part → to.offset + part.offset + new_size m part.ty < 2 ^ 32
  part_fits old s part e =
      let next = then_some (step_image m old (new_type m to.ty) s) (step_place (new_types m) (new_type m to.ty)) part e in
      let within = step-within (new_types m) built to.ty (new_type m to.ty) next.0 part refl next.2 in
      omega (arith, within, fits)
