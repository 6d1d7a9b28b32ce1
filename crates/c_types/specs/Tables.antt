-- What the lists of a table say.
use Rattle.std.specs.Prelude.{ℕ, List, [], Option, Some, None, slice_get}
use Rattle.c_types.specs.declared.parts.TagDef.{TagDef}
use Rattle.c_types.specs.declared.parts.FieldDef.{FieldDef}
use Rattle.c_types.specs.declared.parts.Parts.{Parts}

abbrev pub fields_in : Option TagDef → List FieldDef
fields_in None = []
fields_in (Some tag) = tag.fields

-- the fields of a struct
abbrev pub fields_of : Parts → ℕ → List FieldDef
fields_of p s = fields_in (slice_get p.structs s)

-- the members of a union
abbrev pub members_of : Parts → ℕ → List FieldDef
members_of p u = fields_in (slice_get p.unions u)
