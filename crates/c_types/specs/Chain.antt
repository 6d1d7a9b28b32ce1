-- Chains along edges between numbers, and which types hold or point to which.
use Rattle.std.specs.Prelude.{◌⊎◌, ℕ, zero, suc, Bool, false, List, [], ◌∷◌, map, Contains, Option, Some, slice_get}
use Rattle.std.specs.List.{list_all}
use Rattle.c_types.specs.declared.parts.Ty.{Ty}
use Rattle.c_types.specs.declared.parts.Ty.TheVariants.{Pointer, Struct, Union, Array}
use Rattle.c_types.specs.declared.parts.FieldDef.{FieldDef}
use Rattle.c_types.specs.declared.parts.Parts.{Parts}
use Rattle.c_types.specs.Tables.{fields_of, members_of}

-- the numbers to which each number has an edge
abbrev pub Edges : Type 0
Edges = ℕ → List ℕ

-- one edge or more, each from where the last one ends
pub data Chain (edges : Edges) : ℕ → ℕ → Type 0 where
  one : {t u : ℕ} → Contains (edges t) u → Chain edges t u
  more : {t u v : ℕ} → Contains (edges t) u → Chain edges u v → Chain edges t v

-- whether each chain from t has fewer than n edges
abbrev pub is_settled : Edges → ℕ → ℕ → Bool
is_settled edges zero t = false
is_settled edges (suc n) t = list_all (is_settled edges n) (edges t)

abbrev pub field_types : List FieldDef → List ℕ
field_types fields = map (λ f. f.ty) fields

abbrev pub held_in : Parts → Option Ty → List ℕ
held_in p (Some (Struct s)) = field_types (fields_of p s)
held_in p (Some (Union u)) = field_types (members_of p u)
held_in p (Some (Array t n)) = t ∷ []
held_in p _ = []

-- the types that a type holds by value
abbrev pub held_by : Parts → Edges
held_by p t = held_in p (slice_get p.types t)

abbrev pub pointed_in : Option Ty → List ℕ
pointed_in (Some (Pointer t)) = t ∷ []
pointed_in (Some (Array t n)) = t ∷ []
pointed_in _ = []

-- the type to which a pointer or an array leads
abbrev pub pointed_by : Parts → Edges
pointed_by p t = pointed_in (slice_get p.types t)

abbrev pub IsPointer : Option Ty → Type 0
IsPointer (Some (Pointer t)) = Unit {0}
IsPointer _ = ⊥

-- a type that holds itself by value, or a pointer that leads to itself through pointers and arrays alone
abbrev pub IsCyclic : Parts → ℕ → Type 0
IsCyclic p t = Chain (held_by p) t t ⊎ (IsPointer (slice_get p.types t) × Chain (pointed_by p) t t)
