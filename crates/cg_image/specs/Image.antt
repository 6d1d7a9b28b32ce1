-- The image of a program as bytes.
use Rattle.std.specs.Prelude.{ℕ, ◌+◌, ◌==◌, List, [], ◌∷◌, ◌++◌, length, Option, Some, None, if◌then◌else◌}
use Rattle.std.specs.List.{flat_map}
use Rattle.lu_spec.specs.LittleEndian.{little_endian}
use Rattle.c_types.specs.declared.parts.IntKind.{IntKind}
use Rattle.c_types.specs.declared.parts.IntKind.TheVariants.{Char, UChar, Short, UShort, Int as Int_kind, UInt, LongLong, ULongLong}
use Rattle.c_types.specs.declared.parts.Ty.{Ty}
use Rattle.c_types.specs.declared.parts.Ty.TheVariants.{Int, Pointer, VoidPointer, Function, Struct, Union, Array}
use Rattle.c_types.specs.declared.parts.FieldDef.{FieldDef}
use Rattle.c_types.specs.declared.parts.TagDef.{TagDef}
use Rattle.c_types.specs.declared.parts.Signature.{Signature}
use Rattle.bm_isa.specs.Encoding.{code_bytes}
use Rattle.bm_code.specs.declared.code.MachineCode.{MachineCode}
use Rattle.bm_code.specs.declared.code.MachineFunction.{MachineFunction}
use Rattle.bm_code.specs.declared.code.MachineGlobal.{MachineGlobal}
use Rattle.bm_code.specs.declared.code.MachineSite.{MachineSite}

-- a number has four bytes, the lowest first
abbrev pub number_bytes : ℕ → List ℕ
number_bytes n = little_endian 4 n

-- a list is the number of its items, and the items
abbrev pub list_bytes : {A : Type 0} → (A → List ℕ) → List A → List ℕ
list_bytes item xs = number_bytes (length xs) ++ flat_map item xs

-- bytes are the number of them, and they themselves
abbrev pub text_bytes : List ℕ → List ℕ
text_bytes bytes = number_bytes (length bytes) ++ bytes

abbrev pub kind_number : IntKind → ℕ
kind_number Char = 0
kind_number UChar = 1
kind_number Short = 2
kind_number UShort = 3
kind_number Int_kind = 4
kind_number UInt = 5
kind_number LongLong = 6
kind_number ULongLong = 7

-- a type is a tag in one byte, and its parts
abbrev pub type_bytes : Ty → List ℕ
type_bytes (Int kind) = 0 ∷ kind_number kind ∷ []
type_bytes (Pointer t) = 1 ∷ number_bytes t
type_bytes VoidPointer = 2 ∷ []
type_bytes (Function g) = 3 ∷ number_bytes g
type_bytes (Struct s) = 4 ∷ number_bytes s
type_bytes (Union u) = 5 ∷ number_bytes u
type_bytes (Array t n) = 6 ∷ number_bytes t ++ number_bytes n

abbrev pub field_bytes : FieldDef → List ℕ
field_bytes f = number_bytes f.name ++ number_bytes f.ty

-- a struct or union is its name, and the list of its fields
abbrev pub tag_bytes : TagDef → List ℕ
tag_bytes tag = number_bytes tag.tag ++ list_bytes field_bytes tag.fields

-- a result is 0 for void, else the number of its type and 1
abbrev pub result_number : Option ℕ → ℕ
result_number None = 0
result_number (Some t) = t + 1

abbrev pub signature_bytes : Signature → List ℕ
signature_bytes g = number_bytes (result_number g.result) ++ list_bytes number_bytes g.params

-- a global is its name, its type and its initial bytes
abbrev pub global_bytes : MachineGlobal → List ℕ
global_bytes g = number_bytes g.name ++ (number_bytes g.ty ++ text_bytes g.bytes)

-- a function is its name, signature, locals and height, and its encoded code
abbrev pub function_bytes : MachineFunction → List ℕ
function_bytes f =
    number_bytes f.name ++ (number_bytes f.signature ++ (number_bytes f.locals ++ (number_bytes f.height ++ text_bytes (code_bytes f.code))))

-- a site is its function, which of the function's it is, and the type of its elements
abbrev pub site_bytes : MachineSite → List ℕ
site_bytes s = number_bytes s.function ++ (number_bytes s.ordinal ++ number_bytes s.elem)

-- `LUIM`
abbrev pub magic : List ℕ
magic = 76 ∷ 85 ∷ 73 ∷ 77 ∷ []

-- the version says how many bytes a pointer has: 1 where it has four, 2 where it has eight
abbrev pub version_of : ℕ → ℕ
version_of pointer = if pointer == 8 then 2 else 1

abbrev pub tables_bytes : MachineCode → List ℕ
tables_bytes code =
    list_bytes text_bytes code.names
    ++ (list_bytes type_bytes code.types.types
    ++ (list_bytes tag_bytes code.types.structs
    ++ (list_bytes tag_bytes code.types.unions ++ list_bytes signature_bytes code.types.signatures)))

abbrev pub program_bytes : MachineCode → List ℕ
program_bytes code =
    list_bytes global_bytes code.globals
    ++ (list_bytes function_bytes code.functions ++ (list_bytes site_bytes code.sites ++ number_bytes code.filters))

-- magic and version, the tables, and what goes by them
unfoldable pub image_bytes : MachineCode → List ℕ
image_bytes code = magic ++ (number_bytes (version_of code.types.pointer) ++ (tables_bytes code ++ program_bytes code))
