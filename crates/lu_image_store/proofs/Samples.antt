-- Short words for small programs and stores. Each table of types begins with int, int[6] and struct message, and each
-- program with the globals for messages.
use Rattle.std.proofs.Common.{ℕ, pos, List, [], ◌∷◌, ◌++◌, Some, None, Ok, Err}
use Rattle.std.specs.Prelude.{codes, length, replicate}
use Rattle.c_types.specs.declared.parts.Parts.{Parts}
use Rattle.c_types.specs.declared.parts.TagDef.{TagDef}
use Rattle.c_types.specs.declared.parts.FieldDef.{FieldDef}
use Rattle.c_types.specs.declared.parts.Ty.{Ty}
use Rattle.c_types.specs.declared.parts.Ty.TheVariants as T
use Rattle.c_types.specs.declared.parts.IntKind.TheVariants as K
use Rattle.c_types.specs.declared.path.Step.{Step}
use Rattle.src_tree.specs.declared.value.Value.{Value, Int, Struct, Array}
use Rattle.src_tree.specs.declared.value.ObjectKind.TheVariants as O
use Rattle.src_tree.specs.declared.value.Object.{Object}
use Rattle.src_tree.specs.declared.value.Store.{Store}
use Rattle.src_tree.specs.declared.program.Init.TheVariants.{Zero}
use Rattle.src_tree.specs.declared.program.Global as G
use Rattle.src_tree.specs.declared.program.Function.{Function}
use Rattle.src_tree.specs.declared.program.Site.{Site}
use Rattle.src_tree.specs.declared.program.Program.{Program}
use Rattle.src_meaning.specs.Initial.{initial_store}
use Rattle.lu_image.specs.declared.rename.Rename.{Rename}
use Rattle.lu_image.specs.declared.refusal.Why.{Why}
use Rattle.lu_image.specs.declared.refusal.Kept.{Kept}
use Rattle.lu_image.specs.Pairing.{pairing_of}
use Rattle.lu_image_store.specs.Versions.{Versions, versions_of}
use Rattle.lu_image_store.specs.Stores.{Makes, store_image}

-- the letters a to z have the numbers 8 to 33
abbrev pub texts : List (List ℕ)
texts =
    codes "message"
    ∷ codes "source"
    ∷ codes "type"
    ∷ codes "arg"
    ∷ codes "m_in"
    ∷ codes "m_out"
    ∷ codes "init"
    ∷ codes "on_message"
    ∷ codes "a"
    ∷ codes "b"
    ∷ codes "c"
    ∷ codes "d"
    ∷ codes "e"
    ∷ codes "f"
    ∷ codes "g"
    ∷ codes "h"
    ∷ codes "i"
    ∷ codes "j"
    ∷ codes "k"
    ∷ codes "l"
    ∷ codes "m"
    ∷ codes "n"
    ∷ codes "o"
    ∷ codes "p"
    ∷ codes "q"
    ∷ codes "r"
    ∷ codes "s"
    ∷ codes "t"
    ∷ codes "u"
    ∷ codes "v"
    ∷ codes "w"
    ∷ codes "x"
    ∷ codes "y"
    ∷ codes "z"
    ∷ []

abbrev pub field : ℕ → ℕ → FieldDef
field name ty = record { name = name; ty = ty }

abbrev pub tag : ℕ → List FieldDef → TagDef
tag name fields = record { tag = name; fields = fields }

abbrev pub message : TagDef
message = tag 0 (field 1 0 ∷ field 2 0 ∷ field 3 1 ∷ [])

-- types from 3 on, structs from 1 on, unions
abbrev pub parts : List Ty → List TagDef → List TagDef → Parts
parts types structs unions = record {
  pointer = 4;
  types = T.Int K.Int ∷ T.Array 0 6 ∷ T.Struct 0 ∷ types;
  structs = message ∷ structs;
  unions = unions;
  signatures = record { result = None; params = [] } ∷ [];
}

abbrev pub global : ℕ → ℕ → G.Global
global name ty = record { name = name; ty = ty; init = Zero }

abbrev pub function : ℕ → Function
function name = record { name = name; params = []; ret = None; locals = []; body = [] }

abbrev pub site : ℕ → ℕ → ℕ → Site
site f ordinal elem = record { function = f; ordinal = ordinal; elem = elem }

-- globals from number 2 on, and `init` and `on_message` behind the functions
abbrev pub program : Parts → List G.Global → List Function → List Site → Program
program types globals functions sites = record {
  names = texts;
  types = types;
  globals = global 4 2 ∷ global 5 2 ∷ globals;
  functions = functions ++ function 6 ∷ function 7 ∷ [];
  sites = sites;
}

abbrev pub versions : Program → Program → List Rename → Versions
versions old new renames = versions_of old new (pairing_of old new renames)

abbrev pub int : ℕ → Value
int n = Int (pos n)

abbrev pub zeros : ℕ → List Value
zeros n = replicate n (int 0)

abbrev pub no_message : Object
no_message = record {
  kind = O.Global;
  elem = 2;
  count = 1;
  elements = Some (Struct (int 0 ∷ int 0 ∷ Array (zeros 6) ∷ []) ∷ []);
}

-- a global of so many elements of type t
abbrev pub variable : ℕ → List Value → Object
variable t vs = record { kind = O.Global; elem = t; count = length vs; elements = Some vs }

abbrev pub one : ℕ → Value → Object
one t v = variable t (v ∷ [])

abbrev pub heap : ℕ → ℕ → List Value → Object
heap site t vs = record { kind = O.Heap site; elem = t; count = length vs; elements = Some vs }

abbrev pub dead : ℕ → ℕ → Object
dead site t = record { kind = O.Heap site; elem = t; count = 1; elements = None }

abbrev pub store : List Object → Store
store objects = record { objects = no_message ∷ no_message ∷ objects }

-- the image of these objects
abbrev pub update : Program → Program → List Rename → List Object → Makes
update old new renames objects = store_image (versions old new renames) (store objects) (initial_store new)

abbrev pub moves_to : List Object → Makes
moves_to objects = Ok (store objects)

abbrev pub refuses : Why → ℕ → List Step → Kept → Makes
refuses why object path kept = Err (record { why = why; object = object; path = path; kept = kept })
