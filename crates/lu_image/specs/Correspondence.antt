-- Which types of two programs correspond.
use Rattle.std.specs.Prelude.{ℕ, Bool, true, false, nat_eq, List, Option, Some, None, slice_get}
use Rattle.c_types.specs.declared.parts.Ty.{Ty}
use Rattle.c_types.specs.declared.parts.Ty.TheVariants.{Int, Pointer, VoidPointer, Function, Struct, Union, Array}
use Rattle.c_types.specs.declared.parts.Parts.{Parts}
use Rattle.c_types.specs.Recursion.{by_type}

-- the new number of an old number, if it has one
abbrev pub pair_in : List (Option ℕ) → ℕ → Option ℕ
pair_in pairs k = pair_at (slice_get pairs k)
  where
    pair_at : Option (Option ℕ) → Option ℕ
    pair_at None = None
    pair_at (Some pair) = pair

abbrev pub is_number : Option ℕ → ℕ → Bool
is_number None k = false
is_number (Some j) k = nat_eq j k

-- an old number and a new number pair
abbrev pub do_pair : List (Option ℕ) → ℕ → ℕ → Bool
do_pair pairs k j = is_number (pair_in pairs k) j

-- Two types correspond where both are integer types, both `void *`, both function pointer types, two structs or two
-- unions that pair, or two pointers or two arrays of any lengths to or of types that correspond. `known` says what
-- corresponds of the types to which pointers and arrays lead.
abbrev pub correspond_here : List (Option ℕ) → List (Option ℕ) → (ℕ → ℕ → Bool) → Ty → Option Ty → Bool
correspond_here structs unions known (Int k) (Some (Int j)) = true
correspond_here structs unions known (Pointer t) (Some (Pointer u)) = known t u
correspond_here structs unions known VoidPointer (Some VoidPointer) = true
correspond_here structs unions known (Function g) (Some (Function h)) = true
correspond_here structs unions known (Struct s) (Some (Struct r)) = do_pair structs s r
correspond_here structs unions known (Union s) (Some (Union r)) = do_pair unions s r
correspond_here structs unions known (Array t n) (Some (Array u m)) = known t u
correspond_here structs unions known _ _ = false

abbrev pub correspond_step : Parts → List (Option ℕ) → List (Option ℕ) → (ℕ → ℕ → Bool) → Ty → ℕ → Bool
correspond_step q structs unions known ty u = correspond_here structs unions known ty (slice_get q.types u)

abbrev pub nothing_corresponds : ℕ → Bool
nothing_corresponds u = false

-- whether a type of the old table corresponds to one of the new, by recursion on both: no pointer leads to itself
-- through pointers and arrays alone
abbrev pub corresponds : Parts → Parts → List (Option ℕ) → List (Option ℕ) → ℕ → ℕ → Bool
corresponds p q structs unions t u = by_type p (correspond_step q structs unions) nothing_corresponds t u
