-- What names stand for in a scope.
use Rattle.std.specs.Prelude.{ℕ, List, [], ◌∷◌, ◌++◌, Option, Some, None, position, slice_get, slice_set, if◌then◌else◌}
use Rattle.std.specs.List.{list_any, position_or_len}
use Rattle.std.specs.Str.{bytes_eq}
use Rattle.lu_spec.specs.Then.{then_option}
use Rattle.c_ast.specs.Trees.{Object, Data, Pointer}
use Rattle.c_types.specs.declared.parts.Ty.{Ty}
use Rattle.c_check_scope.specs.declared.members.Part.{Part}
use Rattle.c_check_scope.specs.Members.{part_of}
use Rattle.c_check_scope.specs.Operands.{or_else}
use Rattle.c_check_scope.specs.declared.scope.Scope.{Scope}
use Rattle.c_check_scope.specs.declared.scope.Meaning.{Meaning}
use Rattle.c_check_scope.specs.declared.scope.Tag.{Tag}

-- a name is its bytes
abbrev pub Text : Type 0
Text = List ℕ

-- the number of a name among distinct names
unfoldable pub number_named : List Text → Text → Option ℕ
number_named names x = position (bytes_eq x) names

-- its number, or the count of the names
abbrev pub place_of : List Text → Text → ℕ
place_of names x = position_or_len (bytes_eq x) names

-- the names with one more at the end, if it isn't among them
abbrev pub with_name : List Text → Text → List Text
with_name names x = if list_any (bytes_eq x) names then names else names ++ (x ∷ [])

abbrev pub flat : {A : Type 0} → Option (Option A) → Option A
flat None = None
flat (Some a) = a

-- the parameter or local of a name
unfoldable pub local_of : Scope → Text → Option Meaning
local_of scope x = then_option (number_named scope.locals x) (slice_get scope.variables)

-- the global or function of a name
unfoldable pub global_of : Scope → Text → Option Meaning
global_of scope x = then_option (number_named scope.names x) (λ k. flat (slice_get scope.meanings k))

-- what a name is declared as
unfoldable pub meaning_of : Scope → Text → Option Meaning
meaning_of scope x = or_else (local_of scope x) (global_of scope x)

-- the struct or union of a tag
unfoldable pub tag_of : Scope → Text → Option Tag
tag_of scope x = then_option (number_named scope.names x) (λ k. flat (slice_get scope.tags k))

-- the field or member that a type has by a name
unfoldable pub part_named : Scope → Ty → Text → Option Part
part_named scope ty x = then_option (number_named scope.names x) (part_of scope.types ty)

-- the name of a field or global
abbrev pub object_name : Object → Text
object_name (Data t x n) = x
object_name (Pointer t x n ps) = x

-- the name of a number means this from here on, if there is such a name
abbrev pub with_meaning : List (Option Meaning) → ℕ → Meaning → List (Option Meaning)
with_meaning meanings k meaning = slice_set meanings k (Some meaning)
