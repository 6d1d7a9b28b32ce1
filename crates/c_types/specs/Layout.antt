-- Size, alignment and offsets, all in bytes, by recursion on types. A pointer has the size that the table says.
use Rattle.std.specs.Prelude.{◌≡◌, ◌⊎◌, ℕ, zero, suc, ◌+◌, ◌-◌, ◌*◌, ◌/◌, ◌^◌, max, List, [], ◌∷◌}
use Rattle.c_types.specs.declared.parts.IntKind.{IntKind}
use Rattle.c_types.specs.declared.parts.IntKind.TheVariants.{Char, UChar, Short, UShort, Int as Int_kind, UInt, LongLong, ULongLong}
use Rattle.c_types.specs.declared.parts.Ty.{Ty}
use Rattle.c_types.specs.declared.parts.Ty.TheVariants.{Int, Pointer, VoidPointer, Function, Struct, Union, Array}
use Rattle.c_types.specs.declared.parts.FieldDef.{FieldDef}
use Rattle.c_types.specs.declared.parts.Parts.{Parts}
use Rattle.c_types.specs.declared.shape.Shape.{Shape}
use Rattle.c_types.specs.Tables.{fields_of, members_of}
use Rattle.c_types.specs.Recursion.{by_type}

-- the greatest size of a type, and the greatest length of an array
abbrev pub greatest : ℕ
greatest = 2 ^ 20

abbrev pub shape : ℕ → ℕ → Shape
shape size align = record { size = size; align = align }

-- the least multiple of a that is at least n
abbrev pub next_multiple : ℕ → ℕ → ℕ
next_multiple n a = (n + (a - 1)) / a * a

abbrev pub IsMultiple : ℕ → ℕ → Type 0
IsMultiple n a = (q : ℕ) × (n ≡ q * a)

abbrev pub int_size : IntKind → ℕ
int_size Char = 1
int_size UChar = 1
int_size Short = 2
int_size UShort = 2
int_size Int_kind = 4
int_size UInt = 4
int_size LongLong = 8
int_size ULongLong = 8

-- a pointer takes 4 or 8 bytes
abbrev pub IsPointerSize : ℕ → Type 0
IsPointerSize w = (w ≡ 4) ⊎ (w ≡ 8)

-- the shapes of the types by number
abbrev pub Shapes : Type 0
Shapes = ℕ → Shape

abbrev pub greatest_align : Shapes → List FieldDef → ℕ
greatest_align known [] = 1
greatest_align known (f ∷ fs) = max (known f.ty).align (greatest_align known fs)

abbrev pub greatest_size : Shapes → List FieldDef → ℕ
greatest_size known [] = 0
greatest_size known (f ∷ fs) = max (known f.ty).size (greatest_size known fs)

-- a field stands at the next multiple of its alignment
abbrev pub field_start : Shapes → ℕ → FieldDef → ℕ
field_start known end f = next_multiple end (known f.ty).align

abbrev pub field_end : Shapes → ℕ → FieldDef → ℕ
field_end known end f = field_start known end f + (known f.ty).size

-- where fields end that come after `end`
abbrev pub fields_end : Shapes → ℕ → List FieldDef → ℕ
fields_end known end [] = end
fields_end known end (f ∷ fs) = fields_end known (field_end known end f) fs

-- where the k-th of them begins
abbrev pub nth_start : Shapes → ℕ → List FieldDef → ℕ → ℕ
nth_start known end [] k = end
nth_start known end (f ∷ fs) zero = field_start known end f
nth_start known end (f ∷ fs) (suc k) = nth_start known (field_end known end f) fs k

abbrev pub struct_shape : Shapes → List FieldDef → Shape
struct_shape known fields =
    shape (next_multiple (fields_end known 0 fields) (greatest_align known fields)) (greatest_align known fields)

-- the member number of a union takes 4 bytes; all members begin at one offset
abbrev pub members_start : Shapes → List FieldDef → ℕ
members_start known members = next_multiple 4 (greatest_align known members)

abbrev pub union_align : Shapes → List FieldDef → ℕ
union_align known members = max 4 (greatest_align known members)

abbrev pub union_shape : Shapes → List FieldDef → Shape
union_shape known members =
    shape (next_multiple (members_start known members + greatest_size known members) (union_align known members)) (union_align known members)

-- the shape of a type, from the shapes of those that it holds
abbrev pub shape_step : Parts → Shapes → Ty → Shape
shape_step p known (Int k) = shape (int_size k) (int_size k)
shape_step p known (Pointer t) = shape p.pointer p.pointer
shape_step p known VoidPointer = shape p.pointer p.pointer
shape_step p known (Function g) = shape p.pointer p.pointer
shape_step p known (Struct s) = struct_shape known (fields_of p s)
shape_step p known (Union u) = union_shape known (members_of p u)
shape_step p known (Array t n) = shape ((known t).size * n) (known t).align

abbrev pub shape_of : Parts → Shapes
shape_of p = by_type p (shape_step p) (shape 0 1)

abbrev pub size_of : Parts → ℕ → ℕ
size_of p t = (shape_of p t).size

abbrev pub align_of : Parts → ℕ → ℕ
align_of p t = (shape_of p t).align

-- where field k of a struct begins
abbrev pub field_offset : Parts → ℕ → ℕ → ℕ
field_offset p s k = nth_start (shape_of p) 0 (fields_of p s) k

-- where the members of a union begin
abbrev pub member_offset : Parts → ℕ → ℕ
member_offset p u = members_start (shape_of p) (members_of p u)
