-- The names, globals, functions and sites of an image.
use Rattle.std.specs.Prelude.{ℕ, ◌+◌, ◌&&◌, not, List, length, bytes_eq, Option, Some, None, Result, Ok, Err, slice_get, nat_le, if◌then◌else◌}
use Rattle.std.specs.List.{list_any}
use Rattle.lu_base.specs.declared.limits.TheConstants.{LOCALS, SIZE, STACK_HEIGHT}
use Rattle.c_types.specs.declared.parts.Parts.{Parts}
use Rattle.c_types.specs.declared.parts.Signature.{Signature}
use Rattle.c_types.specs.Layout.{size_of}
use Rattle.src_meaning.specs.ValidNames.{is_identifier}
use Rattle.bm_isa.specs.declared.instr.Instr.{Instr}
use Rattle.bm_code.specs.declared.code.MachineFunction.{MachineFunction}
use Rattle.bm_code.specs.declared.code.MachineGlobal.{MachineGlobal}
use Rattle.bm_code.specs.declared.code.MachineSite.{MachineSite}
use Rattle.bm_code.specs.Accepted as accepted
use Rattle.cg_image_read.specs.declared.error.ImageError.{ImageError}
use Rattle.cg_image_read.specs.declared.error.ImageError.TheVariants.{Table}
use Rattle.cg_image_read.specs.Answer.{◌>>=◌}
use Rattle.cg_image_read.specs.Fields.{Part, Item, number_at, bytes_at, ranged_at, entry_at, text_at}
use Rattle.cg_image_read.specs.Decoding.{decoded}

-- a name is an identifier, and no earlier one
unfoldable pub name_at : Item (List ℕ)
name_at before at bytes = do
  name ← text_at bytes
  if is_identifier name.0 && not (list_any (bytes_eq name.0) before) then Ok name else Err (Table at)

-- a type with whose size the sum of the globals' sizes stays within the limit
unfoldable pub room_at : Parts → ℕ → ℕ → List ℕ → Part ℕ
room_at parts sum at bytes = do
  ty ← entry_at (length parts.types) at bytes
  if nat_le (sum + size_of parts ty.0) SIZE then Ok ty else Err (Table at)

-- a global of a program with so many names, where those before it have so many bytes: it has as many initial bytes as
-- its type has
unfoldable pub sized_global_at : ℕ → Parts → ℕ → ℕ → List ℕ → Part MachineGlobal
sized_global_at names parts sum at bytes = do
  name ← entry_at names at bytes
  ty ← room_at parts sum at name.1
  count ← ranged_at (size_of parts ty.0) (size_of parts ty.0) at ty.1
  initial ← bytes_at count.0 count.1
  Ok (record { name = name.0; ty = ty.0; bytes = initial.0 }, initial.1)

abbrev pub global_at : ℕ → Parts → Item MachineGlobal
global_at names parts before = sized_global_at names parts (accepted.global_bytes before)

-- the code that bytes stand for
abbrev pub code_in : ℕ → Option (List Instr) → Result (List Instr) ImageError
code_in at None = Err (Table at)
code_in at (Some code) = Ok code

unfoldable pub code_at : ℕ → List ℕ → Part (List Instr)
code_at at bytes = do
  text ← text_at bytes
  code ← code_in at (decoded text.0)
  Ok (code, text.1)

-- how many parameters the signature of a number has
abbrev pub parameters_in : Option Signature → ℕ
parameters_in None = 0
parameters_in (Some g) = length g.params

-- a function of a program with so many names; a hidden one has the number of the names for its name
unfoldable pub function_at : ℕ → List Signature → ℕ → List ℕ → Part MachineFunction
function_at names signatures at bytes = do
  name ← ranged_at 0 names at bytes
  signature ← entry_at (length signatures) at name.1
  locals ← ranged_at (parameters_in (slice_get signatures signature.0)) LOCALS at signature.1
  height ← ranged_at 0 STACK_HEIGHT at locals.1
  code ← code_at at height.1
  Ok (record { name = name.0; signature = signature.0; locals = locals.0; height = height.0; code = code.0 }, code.1)

unfoldable pub site_at : ℕ → ℕ → ℕ → List ℕ → Part MachineSite
site_at functions types at bytes = do
  function ← entry_at functions at bytes
  ordinal ← number_at function.1
  elem ← entry_at types at ordinal.1
  Ok (record { function = function.0; ordinal = ordinal.0; elem = elem.0 }, elem.1)
