-- Marks and shapes of all types, by rounds over the whole table.
use Rattle.std.specs.Prelude.{ℕ, zero, suc, ◌+◌, ◌≤◌, min, Bool, false, ◌||◌, nat_eq, List, map, replicate, length, Option, Some, None, unwrap_or, slice_get}
use Rattle.std.specs.List.{list_any}
use Rattle.c_types.specs.declared.parts.Ty.{Ty}
use Rattle.c_types.specs.declared.parts.Parts.{Parts}
use Rattle.c_types.specs.declared.shape.Shape.{Shape}
use Rattle.c_types.specs.Chain.{Edges, held_in}
use Rattle.c_types.specs.Layout.{greatest, shape, Shapes, shape_step}

-- whether a chain from u reaches the goal within k edges, or one of k edges reaches a number of the start
abbrev pub reaches : Edges → (ℕ → Bool) → Bool → ℕ → ℕ → Bool
reaches edges goal start zero u = start
reaches edges goal start (suc k) u = list_any (λ v. goal v || reaches edges goal start k v) (edges u)

abbrev pub is_target : Option ℕ → ℕ → Bool
is_target None v = false
is_target (Some t) v = nat_eq v t

abbrev pub mark_at : List Bool → ℕ → Bool
mark_at marks t = unwrap_or (slice_get marks t) false

abbrev pub is_marked : Option ℕ → List Bool → ℕ → Bool
is_marked target marks v = is_target target v || mark_at marks v

abbrev pub round_mark : Parts → Option ℕ → List Bool → Ty → Bool
round_mark p target marks ty = list_any (is_marked target marks) (held_in p (Some ty))

-- the types that hold the target, or a type that is marked in the round before
abbrev pub mark_rounds : Parts → Option ℕ → Bool → ℕ → List Bool
mark_rounds p target start zero = replicate (length p.types) start
mark_rounds p target start (suc k) = map (round_mark p target (mark_rounds p target start k)) p.types

abbrev pub shape_at : List Shape → Shapes
shape_at shapes t = unwrap_or (slice_get shapes t) (shape 0 1)

-- sizes above the greatest are kept as the next number
abbrev pub capped : Shape → Shape
capped s = shape (min s.size (greatest + 1)) s.align

abbrev pub round_shape : Parts → List Shape → Ty → Shape
round_shape p shapes ty = capped (shape_step p (shape_at shapes) ty)

abbrev pub shape_rounds : Parts → ℕ → List Shape
shape_rounds p zero = replicate (length p.types) (shape 0 1)
shape_rounds p (suc k) = map (round_shape p (shape_rounds p k)) p.types

-- what keeps sums of sizes small
pub record IsSmall (s : Shape) : Type 0 where
  pub size : s.size ≤ greatest + 1
  pub low : 1 ≤ s.align
  pub high : s.align ≤ 8

abbrev pub AreSmall : Shapes → Type 0
AreSmall shapes = (t : ℕ) → IsSmall (shapes t)
