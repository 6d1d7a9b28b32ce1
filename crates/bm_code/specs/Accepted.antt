-- Code that the machine takes.
use Rattle.std.specs.Prelude.{◌≡◌, ℕ, ◌+◌, ◌<◌, ◌≤◌, List, [], ◌∷◌, length, Some, slice_get}
use Rattle.lu_base.specs.declared.limits.TheConstants.{ENTRIES, FILTERS, LOCALS, SIZE, STACK_HEIGHT}
use Rattle.c_types.specs.declared.parts.FieldDef.{FieldDef}
use Rattle.c_types.specs.declared.parts.Signature.{Signature}
use Rattle.c_types.specs.declared.parts.TagDef.{TagDef}
use Rattle.c_types.specs.Layout.{size_of}
use Rattle.bm_code.specs.declared.code.MachineCode.{MachineCode}
use Rattle.bm_code.specs.declared.code.MachineFunction.{MachineFunction}
use Rattle.bm_code.specs.declared.code.MachineGlobal.{MachineGlobal}
use Rattle.bm_code.specs.declared.code.MachineSite.{MachineSite}

-- a struct's or union's names are of the program
pub record AreNamed (count : ℕ) (tag : TagDef) : Type 0 where
  pub tag_named : tag.tag < count
  pub fields : (k : ℕ) (f : FieldDef) → slice_get tag.fields k ≡ Some f → f.name < count

-- a function has a signature and room for its parameters; a hidden one has the count of names for its name
pub record IsAcceptedFunction (code : MachineCode) (d : MachineFunction) : Type 0 where
  pub name : d.name ≤ length code.names
  pub signature : Signature
  pub has : slice_get code.types.signatures d.signature ≡ Some signature
  pub parameters : length signature.params ≤ d.locals
  pub locals : d.locals ≤ LOCALS
  pub height : d.height ≤ STACK_HEIGHT

-- a global's initial bytes are as many as its type has
pub record IsAcceptedGlobal (code : MachineCode) (g : MachineGlobal) : Type 0 where
  pub name : g.name < length code.names
  pub known : g.ty < length code.types.types
  pub whole : length g.bytes ≡ size_of code.types g.ty

pub record IsAcceptedSite (code : MachineCode) (s : MachineSite) : Type 0 where
  pub function : s.function < length code.functions
  pub known : s.elem < length code.types.types

-- how many bytes some globals have
abbrev pub global_bytes : List MachineGlobal → ℕ
global_bytes [] = 0
global_bytes (g ∷ gs) = length g.bytes + global_bytes gs

-- Each number names an entry, and the counts and sizes keep their limits.
pub record IsAccepted (code : MachineCode) : Type 0 where
  pub structs : (k : ℕ) (t : TagDef) → slice_get code.types.structs k ≡ Some t → AreNamed (length code.names) t
  pub unions : (k : ℕ) (t : TagDef) → slice_get code.types.unions k ≡ Some t → AreNamed (length code.names) t
  pub functions : (k : ℕ) (d : MachineFunction) → slice_get code.functions k ≡ Some d → IsAcceptedFunction code d
  pub function_count : length code.functions ≤ ENTRIES + FILTERS
  pub globals : (k : ℕ) (g : MachineGlobal) → slice_get code.globals k ≡ Some g → IsAcceptedGlobal code g
  pub global_count : length code.globals ≤ ENTRIES
  pub global_size : global_bytes code.globals ≤ SIZE
  pub sites : (k : ℕ) (s : MachineSite) → slice_get code.sites k ≡ Some s → IsAcceptedSite code s
  pub site_count : length code.sites ≤ ENTRIES
  pub filter_count : code.filters ≤ FILTERS
  pub filters_last : code.filters ≤ length code.functions

-- a function has so many parameters
pub record HasParameters (code : MachineCode) (function count : ℕ) : Type 0 where
  pub declared : MachineFunction
  pub signature : Signature
  pub is : slice_get code.functions function ≡ Some declared
  pub has : slice_get code.types.signatures declared.signature ≡ Some signature
  pub parameters : length signature.params ≡ count
