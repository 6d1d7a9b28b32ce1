-- The offset of a path of one step.
use Rattle.std.proofs.Common.{◌≡◌, refl, ℕ, ◌+◌, [], ◌∷◌, Option, Some, None, arith}
use Rattle.std.specs.Option.{option_map_or}
use Rattle.lu_spec.specs.Then.{then_option}
use Rattle.c_types.specs.declared.parts.Parts.{Parts}
use Rattle.c_types.specs.declared.path.Place.{Place}
use Rattle.c_types.specs.declared.path.Step.{Step}
use Rattle.c_types.specs.Place.{shifted, place, step_place, path_offset}
use Rattle.src_meaning.specs.ValidTypes.{ty}
use Rattle.cg_expr.specs.Pieces.{pointer_size, step_offset}

by : (o : Option Place) → option_map_or (λ to. to.offset) (then_option o (λ to. then_option (Some (place to.ty 0)) (shifted to.offset))) 0 ≡ option_map_or (λ (to : Place). to.offset) o 0
by None = refl
by (Some to) = omega arith

pub step_offset_is : (p : Parts) (t : ℕ) (s : Step) → path_offset p t (s ∷ []) ≡ step_offset p (ty p t) s
step_offset_is p t s = by (step_place p (ty p t) s)
