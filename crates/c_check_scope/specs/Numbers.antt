-- The number of a type in the list of types.
use Rattle.std.specs.Prelude.{ℕ, Bool, List, Option, position}
use Rattle.std.specs.Option.{option_map_or}
use Rattle.c_types.specs.declared.parts.Ty.{Ty}
use Rattle.c_types.specs.contracts.parts.TyPartialEq.TheImpl.{eq-value}

-- whether two types are equal
abbrev pub same_type : Ty → Ty → Bool
same_type = eq-value.it

-- the place of a type in the list; 0 where the list doesn't have it
unfoldable pub number_of : List Ty → Ty → ℕ
number_of types ty = option_map_or (λ t. t) (position (same_type ty) types) 0
