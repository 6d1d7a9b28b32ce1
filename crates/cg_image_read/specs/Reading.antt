-- Reading an image: its front to the tables of types; whether these are a table of types; and the rest.
use Rattle.std.specs.Prelude.{◌≡◌, ◌≢◌, ◌+◌, ◌⊎◌, ℕ, List, [], length, drop, min, Result, Ok, Err, nat_eq, ◌==◌, if◌then◌else◌}
use Rattle.std.specs.List.{starts_with}
use Rattle.lu_base.specs.declared.limits.TheConstants.{ENTRIES, FILTERS}
use Rattle.c_types.specs.declared.parts.Parts.{Parts}
use Rattle.c_types.specs.declared.parts.Ty.{Ty}
use Rattle.c_types.specs.Refusal.{IsBuilt}
use Rattle.bm_code.specs.declared.code.MachineCode.{MachineCode}
use Rattle.bm_code.specs.declared.code.MachineFunction.{MachineFunction}
use Rattle.bm_code.specs.declared.code.MachineGlobal.{MachineGlobal}
use Rattle.bm_code.specs.declared.code.MachineSite.{MachineSite}
use Rattle.cg_image.specs.Image.{magic}
use Rattle.cg_image_read.specs.declared.error.ImageError.{ImageError}
use Rattle.cg_image_read.specs.declared.error.ImageError.TheVariants.{Magic, Version, Truncated, Table, Extra, Memory}
use Rattle.cg_image_read.specs.declared.later.Later.{Later}
use Rattle.cg_image_read.specs.declared.later.Later.TheVariants.{Structs, Unions, Signatures}
use Rattle.cg_image_read.specs.declared.tables.Tables.{Tables}
use Rattle.cg_image_read.specs.Answer.{◌>>=◌}
use Rattle.cg_image_read.specs.Fields.{Part, place, number_at, ranged_at, items_at, limited_at}
use Rattle.cg_image_read.specs.Types.{type_at, tag_at, signature_at, knows, first_refused, unless_refused}
use Rattle.cg_image_read.specs.Items.{name_at, global_at, function_at, site_at}

-- behind the magic
abbrev pub magic_at : List ℕ → Result (List ℕ) ImageError
magic_at bytes =
    if starts_with nat_eq bytes magic then Ok (drop 4 bytes)
    else if starts_with nat_eq magic bytes then Err Truncated
    else Err Magic

-- the bytes of a pointer by the version
unfoldable pub pointer_at : List ℕ → Part ℕ
pointer_at bytes = do
  rest ← magic_at bytes
  version ← number_at rest
  if version.0 == 1 then Ok (4, version.1) else Err Version

unfoldable pub names_at : ℕ → List ℕ → Part (List (List ℕ))
names_at end bytes = do
  count ← number_at bytes
  items_at name_at end [] count.0 count.1

-- the number of structs, unions or signatures, once the types know only so many
unfoldable pub known_at : Later → ℕ → List ℕ → List Ty → List ℕ → Part ℕ
known_at later end first types bytes = do
  count ← number_at bytes
  unless_refused (first_refused (knows later count.0) end first types) (Ok count)

-- types, structs, unions and signatures, where there are so many names and a pointer has so many bytes
unfoldable pub parts_at : ℕ → ℕ → ℕ → List ℕ → Part Parts
parts_at end names pointer bytes = do
  count ← number_at bytes
  types ← items_at (λ _. type_at count.0) end [] count.0 count.1
  s ← known_at Structs end count.1 types.0 types.1
  structs ← limited_at (λ _. tag_at names count.0) ENTRIES end s.0 s.1
  u ← known_at Unions end count.1 types.0 structs.1
  unions ← limited_at (λ _. tag_at names count.0) ENTRIES end u.0 u.1
  g ← known_at Signatures end count.1 types.0 unions.1
  signatures ← items_at (λ _. signature_at count.0) end [] g.0 g.1
  Ok (record { pointer = pointer; types = types.0; structs = structs.0; unions = unions.0; signatures = signatures.0 }, signatures.1)

-- names and types, and where the list of types begins
unfoldable pub tables_at : List ℕ → Part Tables
tables_at bytes = do
  pointer ← pointer_at bytes
  names ← names_at (length bytes) pointer.1
  types ← parts_at (length bytes) (length names.0) pointer.0 names.1
  Ok (record { names = names.0; types = types.0; at = place (length bytes) names.1 }, types.1)

unfoldable pub globals_at : ℕ → ℕ → Parts → List ℕ → Part (List MachineGlobal)
globals_at end names types bytes = do
  count ← number_at bytes
  limited_at (global_at names types) ENTRIES end count.0 count.1

unfoldable pub functions_at : ℕ → ℕ → Parts → List ℕ → Part (List MachineFunction)
functions_at end names types bytes = do
  count ← number_at bytes
  limited_at (λ _. function_at names types.signatures) (ENTRIES + FILTERS) end count.0 count.1

-- sites of so many functions and types
unfoldable pub sites_at : ℕ → ℕ → ℕ → List ℕ → Part (List MachineSite)
sites_at end functions types bytes = do
  count ← number_at bytes
  limited_at (λ _. site_at functions types) ENTRIES end count.0 count.1

-- how many hidden functions there are, of so many, where nothing follows
abbrev pub ended : ℕ → List ℕ → Result ℕ ImageError
ended count rest = if length rest == 0 then Ok count else Err Extra

unfoldable pub filters_at : ℕ → ℕ → List ℕ → Result ℕ ImageError
filters_at end functions bytes = do
  filters ← ranged_at 0 (min FILTERS functions) (place end bytes) bytes
  ended filters.0 filters.1

-- the whole program
unfoldable pub program_at : ℕ → List (List ℕ) → Parts → List ℕ → Result MachineCode ImageError
program_at end names types bytes = do
  globals ← globals_at end (length names) types bytes
  functions ← functions_at end (length names) types globals.1
  sites ← sites_at end (length functions.0) (length types.types) functions.1
  filters ← filters_at end (length functions.0) sites.1
  Ok (record { names = names; types = types; functions = functions.0; globals = globals.0; sites = sites.0; filters = filters })

-- Types that are no table refuse the image where their list begins.
abbrev pub IsReadBehind : ℕ → Part Tables → Result MachineCode ImageError → Type 0
IsReadBehind end (Err e) answer = answer ≡ Err e
IsReadBehind end (Ok t) answer =
    (IsBuilt t.0.types × (answer ≡ program_at end t.0.names t.0.types t.1)) ⊎ ((IsBuilt t.0.types → ⊥) × (answer ≡ Err (Table t.0.at)))

-- the table of types, or the refusal of their list, unless memory ran out
abbrev pub IsBuiltUnless : Parts → ℕ → Result Parts ImageError → Type 0
IsBuiltUnless types at (Ok table) = (table ≡ types) × IsBuilt types
IsBuiltUnless types at (Err e) = e ≢ Memory → (e ≡ Table at) × (IsBuilt types → ⊥)

-- what reading an image answers
abbrev pub IsRead : List ℕ → Result MachineCode ImageError → Type 0
IsRead bytes answer = IsReadBehind (length bytes) (tables_at bytes) answer

-- the same, unless memory ran out
abbrev pub Answers : List ℕ → Result MachineCode ImageError → Type 0
Answers bytes (Ok code) = IsRead bytes (Ok code)
Answers bytes (Err e) = e ≢ Memory → IsRead bytes (Err e)
