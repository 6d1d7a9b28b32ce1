-- Shapes of structs and unions.
use Rattle.std.proofs.Common.{◌≤◌, List, [], ◌∷◌, arith}
use Rattle.c_types.specs.declared.parts.FieldDef.{FieldDef}
use Rattle.c_types.specs.Layout.{Shapes, greatest_align}

pub greatest_align-low : (known : Shapes) (fields : List FieldDef) → 1 ≤ greatest_align known fields
greatest_align-low known [] = omega arith
greatest_align-low known (f ∷ fs) = let rest = greatest_align-low known fs in omega (arith, rest)
