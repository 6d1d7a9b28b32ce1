-- Correspondence step by step: what both types lead to, and whether two types correspond that do not both lead on.
use Rattle.std.specs.Prelude.{ℕ, Bool, true, false, List, Option, Some, None}
use Rattle.c_types.specs.declared.parts.Ty.{Ty}
use Rattle.c_types.specs.declared.parts.Ty.TheVariants.{Int, Pointer, VoidPointer, Function, Struct, Union, Array}
use Rattle.lu_image.specs.Correspondence.{do_pair}

abbrev pub both_lead : Option Ty → Option Ty → Option (ℕ × ℕ)
both_lead (Some (Pointer t)) (Some (Pointer u)) = Some (t, u)
both_lead (Some (Array t n)) (Some (Array u m)) = Some (t, u)
both_lead _ _ = None

abbrev pub leaf_corresponds : List (Option ℕ) → List (Option ℕ) → Option Ty → Option Ty → Bool
leaf_corresponds structs unions (Some (Int k)) (Some (Int j)) = true
leaf_corresponds structs unions (Some VoidPointer) (Some VoidPointer) = true
leaf_corresponds structs unions (Some (Function g)) (Some (Function h)) = true
leaf_corresponds structs unions (Some (Struct s)) (Some (Struct r)) = do_pair structs s r
leaf_corresponds structs unions (Some (Union s)) (Some (Union r)) = do_pair unions s r
leaf_corresponds structs unions _ _ = false
