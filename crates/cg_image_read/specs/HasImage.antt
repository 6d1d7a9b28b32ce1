-- The programs that have an image.
use Rattle.std.specs.Prelude.{◌≡◌, ℕ, ◌+◌, ◌<◌, ◌≤◌, ◌^◌, true, false, List, [], ◌∷◌, ◌++◌, length, All, bytes_eq, slice_get}
use Rattle.std.specs.List.{list_any}
use Rattle.lu_base.specs.declared.limits.TheConstants.{ENTRIES, FILTERS, LOCALS, PARAMETERS, SIZE, STACK_HEIGHT}
use Rattle.c_types.specs.declared.parts.Ty.{Ty}
use Rattle.c_types.specs.declared.parts.Ty.TheVariants.{Int, Pointer, VoidPointer, Function, Struct, Union, Array}
use Rattle.c_types.specs.declared.parts.FieldDef.{FieldDef}
use Rattle.c_types.specs.declared.parts.TagDef.{TagDef}
use Rattle.c_types.specs.declared.parts.Signature.{Signature}
use Rattle.c_types.specs.declared.parts.Parts.{Parts}
use Rattle.c_types.specs.Layout.{size_of}
use Rattle.c_types.specs.Refusal.{IsBuilt}
use Rattle.src_meaning.specs.ValidNames.{is_identifier}
use Rattle.bm_isa.specs.Encoding.{code_bytes, FitsMachine}
use Rattle.bm_code.specs.declared.code.MachineCode.{MachineCode}
use Rattle.bm_code.specs.declared.code.MachineFunction.{MachineFunction}
use Rattle.bm_code.specs.declared.code.MachineGlobal.{MachineGlobal}
use Rattle.bm_code.specs.declared.code.MachineSite.{MachineSite}
use Rattle.bm_code.specs.Accepted as accepted
use Rattle.cg_image.specs.Image.{result_number}
use Rattle.cg_image.specs.Short.{IsCounted}
use Rattle.cg_image_read.specs.Items.{parameters_in}

-- each item is good behind the items before it
abbrev pub EachBehind : {A : Type 0} → (List A → A → Type 0) → List A → List A → Type 0
EachBehind Good before [] = Unit {0}
EachBehind Good before (x ∷ xs) = Good before x × EachBehind Good (before ++ x ∷ []) xs

-- each item is good, whatever stands before it
abbrev pub Each : {A : Type 0} → (A → Type 0) → List A → Type 0
Each Good xs = EachBehind (λ _ x. Good x) [] xs

-- an identifier, and no earlier name
pub record IsNewName (before : List (List ℕ)) (name : List ℕ) : Type 0 where
  pub word : is_identifier name ≡ true
  pub other : list_any (bytes_eq name) before ≡ false
  pub counted : IsCounted name

-- A type names types. A number has four bytes.
abbrev pub IsTypeOf : ℕ → Ty → Type 0
IsTypeOf types (Int kind) = Unit {0}
IsTypeOf types (Pointer t) = t < types
IsTypeOf types VoidPointer = Unit {0}
IsTypeOf types (Function g) = g < 2 ^ 32
IsTypeOf types (Struct s) = s < 2 ^ 32
IsTypeOf types (Union u) = u < 2 ^ 32
IsTypeOf types (Array t n) = (t < types) × (n < 2 ^ 32)

pub record IsFieldOf (names types : ℕ) (f : FieldDef) : Type 0 where
  pub name : f.name < names
  pub ty : f.ty < types

pub record IsTagOf (names types : ℕ) (tag : TagDef) : Type 0 where
  pub name : tag.tag < names
  pub count : length tag.fields ≤ ENTRIES
  pub fields : Each (IsFieldOf names types) tag.fields

pub record IsSignatureOf (types : ℕ) (g : Signature) : Type 0 where
  pub answer : result_number g.result ≤ types
  pub count : length g.params ≤ PARAMETERS
  pub params : Each (λ t. t < types) g.params

-- as many initial bytes as the type has, and the sum of the sizes keeps its limit
pub record IsGlobalOf (names : ℕ) (types : Parts) (before : List MachineGlobal) (g : MachineGlobal) : Type 0 where
  pub name : g.name < names
  pub ty : g.ty < length types.types
  pub room : accepted.global_bytes before + size_of types g.ty ≤ SIZE
  pub whole : length g.bytes ≡ size_of types g.ty

-- a hidden function has the number of the names for its name
pub record IsFunctionOf (names : ℕ) (signatures : List Signature) (f : MachineFunction) : Type 0 where
  pub name : f.name ≤ names
  pub signature : f.signature < length signatures
  pub parameters : parameters_in (slice_get signatures f.signature) ≤ f.locals
  pub locals : f.locals ≤ LOCALS
  pub height : f.height ≤ STACK_HEIGHT
  pub code : All FitsMachine f.code
  pub counted : IsCounted (code_bytes f.code)

pub record IsSiteOf (functions types : ℕ) (s : MachineSite) : Type 0 where
  pub function : s.function < functions
  pub ordinal : s.ordinal < 2 ^ 32
  pub elem : s.elem < types

-- the tables: distinct identifiers, and types that are built of so many bytes a pointer
pub record HasTables (pointer : ℕ) (code : MachineCode) : Type 0 where
  pub narrow : code.types.pointer ≡ pointer
  pub name_count : IsCounted code.names
  pub names : EachBehind IsNewName [] code.names
  pub built : IsBuilt code.types
  pub types : Each (IsTypeOf (length code.types.types)) code.types.types
  pub struct_count : length code.types.structs ≤ ENTRIES
  pub structs : Each (IsTagOf (length code.names) (length code.types.types)) code.types.structs
  pub union_count : length code.types.unions ≤ ENTRIES
  pub unions : Each (IsTagOf (length code.names) (length code.types.types)) code.types.unions
  pub signatures : Each (IsSignatureOf (length code.types.types)) code.types.signatures

-- A program that has an image: each number names an entry, and each count keeps its limit.
pub record HasImage (pointer : ℕ) (code : MachineCode) : Type 0 where
  pub tables : HasTables pointer code
  pub global_count : length code.globals ≤ ENTRIES
  pub globals : EachBehind (IsGlobalOf (length code.names) code.types) [] code.globals
  pub function_count : length code.functions ≤ ENTRIES + FILTERS
  pub functions : Each (IsFunctionOf (length code.names) code.types.signatures) code.functions
  pub site_count : length code.sites ≤ ENTRIES
  pub sites : Each (IsSiteOf (length code.functions) (length code.types.types)) code.sites
  pub filters : code.filters ≤ FILTERS
  pub filters_last : code.filters ≤ length code.functions
