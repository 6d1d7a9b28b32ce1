-- Small programs: an integer, a list of nodes, and two structs with a union.
use Rattle.std.proofs.Common.{ℕ, List, [], ◌∷◌, ◌++◌, None}
use Rattle.std.specs.Prelude.{codes}
use Rattle.c_types.specs.declared.parts.Parts.{Parts}
use Rattle.c_types.specs.declared.parts.TagDef.{TagDef}
use Rattle.c_types.specs.declared.parts.FieldDef.{FieldDef}
use Rattle.c_types.specs.declared.parts.Ty.TheVariants as T
use Rattle.c_types.specs.declared.parts.IntKind.TheVariants as K
use Rattle.src_tree.specs.declared.program.Init.TheVariants.{Zero}
use Rattle.src_tree.specs.declared.program.Global as G
use Rattle.src_tree.specs.declared.program.Function.{Function}
use Rattle.src_tree.specs.declared.program.Site.{Site}
use Rattle.src_tree.specs.declared.program.Program.{Program}
use Rattle.lu_image.specs.declared.rename.Table.{Table}
use Rattle.lu_image.specs.declared.rename.Rename.{Rename}

abbrev pub texts : List (List ℕ)
texts =
    codes "message"
    ∷ codes "source"
    ∷ codes "type"
    ∷ codes "arg"
    ∷ codes "m_in"
    ∷ codes "m_out"
    ∷ codes "init"
    ∷ codes "on_message"
    ∷ codes "n"
    ∷ codes "node"
    ∷ codes "v"
    ∷ codes "next"
    ∷ codes "tag"
    ∷ codes "mk"
    ∷ codes "a"
    ∷ codes "b"
    ∷ codes "z"
    ∷ codes "pair"
    ∷ []

abbrev pub field : ℕ → ℕ → FieldDef
field name ty = record { name = name; ty = ty }

abbrev pub message : TagDef
message = record { tag = 0; fields = field 1 0 ∷ field 2 0 ∷ field 3 1 ∷ [] }

-- the types are int, int[6], struct message, the second struct, a pointer to that, and long long
abbrev pub parts : List TagDef → List TagDef → Parts
parts structs unions = record {
  pointer = 4;
  types = T.Int K.Int ∷ T.Array 0 6 ∷ T.Struct 0 ∷ T.Struct 1 ∷ T.Pointer 3 ∷ T.Int K.LongLong ∷ [];
  structs = message ∷ structs;
  unions = unions;
  signatures = [];
}

abbrev pub global : ℕ → ℕ → G.Global
global name ty = record { name = name; ty = ty; init = Zero }

abbrev pub function : ℕ → Function
function name = record { name = name; params = []; ret = None; locals = []; body = [] }

abbrev pub site : ℕ → ℕ → ℕ → Site
site f ordinal elem = record { function = f; ordinal = ordinal; elem = elem }

-- the globals for messages come before the given ones, and `init` and `on_message` behind the given functions
abbrev pub program : List TagDef → List TagDef → List G.Global → List Function → List Site → Program
program structs unions globals functions sites = record {
  names = texts;
  types = parts structs unions;
  globals = global 4 2 ∷ global 5 2 ∷ globals;
  functions = functions ++ function 6 ∷ function 7 ∷ [];
  sites = sites;
}

-- int n, and later long long n
abbrev pub counter : ℕ → Program
counter ty = program [] [] (global 8 ty ∷ []) [] []

-- struct node { int v; struct node *next; }
abbrev pub node : TagDef
node = record { tag = 9; fields = field 10 0 ∷ field 11 4 ∷ [] }

-- struct node { int tag; int v; struct node *next; }
abbrev pub tagged_node : TagDef
tagged_node = record { tag = 9; fields = field 12 0 ∷ field 10 0 ∷ field 11 4 ∷ [] }

-- a list whose function mk allocates a node
abbrev pub cycle : Program
cycle = program (node ∷ []) [] (global 14 4 ∷ []) (function 13 ∷ []) (site 0 0 3 ∷ [])

abbrev pub tagged_cycle : Program
tagged_cycle = program (tagged_node ∷ []) [] (global 14 4 ∷ []) (function 13 ∷ []) (site 0 0 3 ∷ [])

-- mk allocates an int first
abbrev pub cycle_with_word : Program
cycle_with_word = program (node ∷ []) [] (global 14 4 ∷ []) (function 13 ∷ []) (site 0 0 0 ∷ site 0 1 3 ∷ [])

-- mk allocates an int alone
abbrev pub cycle_of_words : Program
cycle_of_words = program (node ∷ []) [] (global 14 4 ∷ []) (function 13 ∷ []) (site 0 0 0 ∷ [])

-- two pointers to nodes
abbrev pub shared : Program
shared = program (node ∷ []) [] (global 14 4 ∷ global 15 4 ∷ []) (function 13 ∷ []) (site 0 0 3 ∷ [])

-- the same with a third
abbrev pub shared_of_three : Program
shared_of_three = program (node ∷ []) [] (global 14 4 ∷ global 15 4 ∷ global 16 4 ∷ []) (function 13 ∷ []) (site 0 0 3 ∷ [])

-- struct node and struct pair of fields a and b, union v of members a and b, and functions a and b with a site each
abbrev pub two : ℕ → TagDef
two tag = record { tag = tag; fields = field 14 0 ∷ field 15 0 ∷ [] }

abbrev pub twins : Program
twins = program (two 9 ∷ two 17 ∷ []) (two 10 ∷ []) (global 14 0 ∷ global 15 0 ∷ []) (function 14 ∷ function 15 ∷ []) (site 0 0 0 ∷ site 1 0 0 ∷ [])

abbrev pub rename : Table → List ℕ → List ℕ → Rename
rename table old new = record { table = table; old = old; new = new }
