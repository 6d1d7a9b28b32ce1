-- A value as bytes, by recursion on its type. All numbers are little-endian, and what no part takes is zero.
use Rattle.std.specs.Prelude.{◌≡◌, ℕ, ◌+◌, ◌-◌, List, [], ◌∷◌, ◌++◌, length, replicate, Option, Some, None, slice_get}
use Rattle.std.specs.Option.{option_map_or}
use Rattle.lu_spec.specs.LittleEndian.{little_endian}
use Rattle.c_types.specs.declared.parts.Parts.{Parts}
use Rattle.c_types.specs.declared.parts.FieldDef.{FieldDef}
use Rattle.c_types.specs.declared.parts.IntKind.{IntKind}
use Rattle.c_types.specs.declared.parts.Ty.{Ty}
use Rattle.c_types.specs.declared.parts.Ty.TheVariants.{Int, Pointer, VoidPointer, Function, Struct, Union, Array}
use Rattle.c_types.specs.Tables.{fields_of, members_of}
use Rattle.c_types.specs.Layout.{Shapes, int_size, shape_of, field_start, field_end, struct_shape, members_start, union_shape}
use Rattle.c_types.specs.Recursion.{by_type}
use Rattle.src_tree.specs.declared.value.Value.{Value, out-Value}
use Rattle.src_tree.specs.declared.value.Value.TheOpen as V
use Rattle.src_tree.specs.declared.value.Object.{Object}
use Rattle.src_tree.specs.declared.value.Store.{Store}
use Rattle.src_meaning.specs.Integers.{residue}
use Rattle.src_meaning.specs.Paths.{Layer}
use Rattle.src_meaning.specs.Objects.{addresses}

-- the address of each object, in order
abbrev pub Addresses : Type 0
Addresses = List ℕ

abbrev pub zeros : ℕ → List ℕ
zeros n = replicate n 0

-- an integer, modulo the range of its type
abbrev pub int_in : IntKind → Layer → ℕ
int_in kind (V.Int z) = residue kind z
int_in kind _ = 0

-- null is 0, a pointer the object's address plus the offset, and a function its number plus 1
abbrev pub pointer_in : Addresses → Layer → ℕ
pointer_in addresses (V.Pointer o k) = option_map_or (λ a. a) (slice_get addresses o) 0 + k
pointer_in addresses (V.Function f) = f + 1
pointer_in addresses _ = 0

abbrev pub parts_in : Layer → List Value
parts_in (V.Struct fields) = fields
parts_in (V.Array items) = items
parts_in _ = []

abbrev pub Bytes : Type 0
Bytes = ℕ → Value → List ℕ

-- fields that come after `end` in a struct of so many bytes
abbrev pub fields_bytes : Shapes → Bytes → ℕ → List FieldDef → List Value → ℕ → List ℕ
fields_bytes known rec size (f ∷ fs) (v ∷ vs) end =
    zeros (field_start known end f - end) ++ (rec f.ty v ++ fields_bytes known rec size fs vs (field_end known end f))
fields_bytes known rec size _ _ end = zeros (size - end)

abbrev pub struct_bytes : Shapes → Bytes → List FieldDef → List Value → List ℕ
struct_bytes known rec fields vs = fields_bytes known rec (struct_shape known fields).size fields vs 0

abbrev pub items_bytes : (Value → List ℕ) → List Value → List ℕ
items_bytes rec [] = []
items_bytes rec (v ∷ vs) = rec v ++ items_bytes rec vs

-- the body of a union, up to its size
abbrev pub body_bytes : Shapes → Bytes → List FieldDef → Option FieldDef → Value → List ℕ
body_bytes known rec members None body = zeros ((union_shape known members).size - members_start known members)
body_bytes known rec members (Some f) body =
    rec f.ty body ++ zeros ((union_shape known members).size - (members_start known members + (known f.ty).size))

-- the number of the active member in 4 bytes, and its body where members begin
abbrev pub union_bytes : Shapes → Bytes → List FieldDef → Layer → List ℕ
union_bytes known rec members (V.Union active body) =
    little_endian 4 active ++ (zeros (members_start known members - 4) ++ body_bytes known rec members (slice_get members active) body)
union_bytes known rec members _ = zeros (union_shape known members).size

abbrev pub bytes_step : Parts → Addresses → Bytes → Ty → Value → List ℕ
bytes_step p a rec (Int kind) v = little_endian (int_size kind) (int_in kind (out-Value v))
bytes_step p a rec (Pointer t) v = little_endian p.pointer (pointer_in a (out-Value v))
bytes_step p a rec VoidPointer v = little_endian p.pointer (pointer_in a (out-Value v))
bytes_step p a rec (Function g) v = little_endian p.pointer (pointer_in a (out-Value v))
bytes_step p a rec (Struct s) v = struct_bytes (shape_of p) rec (fields_of p s) (parts_in (out-Value v))
bytes_step p a rec (Union u) v = union_bytes (shape_of p) rec (members_of p u) (out-Value v)
bytes_step p a rec (Array t n) v = items_bytes (rec t) (parts_in (out-Value v))

-- the bytes of a value of type t
abbrev pub bytes_of : Parts → Addresses → Bytes
bytes_of p a t = by_type p (bytes_step p a) (λ v. []) t

-- the bytes of an object with these elements of type t
abbrev pub elements_bytes : Parts → Addresses → ℕ → List Value → List ℕ
elements_bytes p a t vs = items_bytes (bytes_of p a t) vs

-- the bytes of an object of the store; none where it is dead
abbrev pub object_bytes : Parts → Store → Object → List ℕ
object_bytes p store x =
    option_map_or (λ vs. elements_bytes p (addresses p store) x.elem vs) x.elements []

-- a part of type u at an offset of a value of type t, in bytes: whatever the part is, the same bytes stand before
-- it and after it
pub record IsFramed (p : Parts) (a : Addresses) (t u offset : ℕ) (changed : Value → Option Value) : Type 0 where
  pub put : Value → Value
  pub puts : (part : Value) → changed part ≡ Some (put part)
  pub before : List ℕ
  pub after : List ℕ
  pub place : length before ≡ offset
  pub bytes : (part : Value) → bytes_of p a t (put part) ≡ before ++ (bytes_of p a u part ++ after)
