-- What a type holds in which places may stand outside unions.
use Rattle.std.specs.Prelude.{ℕ, ◌<◌, length, Option, Some}
use Rattle.c_types.specs.declared.parts.FieldDef.{FieldDef}
use Rattle.c_types.specs.declared.parts.Parts.{Parts}
use Rattle.c_types.specs.declared.parts.Ty.{Ty}
use Rattle.c_types.specs.declared.parts.Ty.TheVariants as T
use Rattle.c_types.specs.Layout.{shape_of, field_start, field_end}
use Rattle.lu_remap.specs.declared.descent.FieldPart.{FieldPart}
use Rattle.lu_remap.specs.declared.descent.Held.{Held}
use Rattle.lu_remap.specs.declared.descent.Held.TheVariants.{Fields, Elements, Nothing}

abbrev pub held_of : Option Ty → Held
held_of (Some (T.Struct s)) = Fields s
held_of (Some (T.Array t n)) = Elements t n
held_of _ = Nothing

-- elements are of a type of the table
abbrev pub AreKnown : Parts → Held → Type 0
AreKnown p (Elements t n) = t < length p.types
AreKnown p _ = Unit {0}

-- field k of a struct, where it stands after `end`
abbrev pub field_part : Parts → ℕ → ℕ → FieldDef → ℕ → FieldPart
field_part p s k f end = record {
  tag = s;
  number = k;
  ty = f.ty;
  start = field_start (shape_of p) end f;
  end = field_end (shape_of p) end f;
}
