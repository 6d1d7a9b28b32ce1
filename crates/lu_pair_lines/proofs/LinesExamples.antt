-- The lines of two versions of a small program.
use Rattle.std.proofs.Common.{◌≡◌, refl, ℕ, List, [], ◌∷◌, ◌++◌, None}
use Rattle.std.specs.Prelude.{codes}
use Rattle.std.specs.Fmt.{digits}
use Rattle.c_types.specs.declared.parts.TagDef.{TagDef}
use Rattle.c_types.specs.declared.parts.FieldDef.{FieldDef}
use Rattle.c_types.specs.declared.parts.Ty.TheVariants as T
use Rattle.c_types.specs.declared.parts.IntKind.TheVariants as K
use Rattle.src_tree.specs.declared.program.Init.TheVariants.{Zero}
use Rattle.src_tree.specs.declared.program.Site.{Site}
use Rattle.src_tree.specs.declared.program.Program.{Program}
use Rattle.lu_image.specs.declared.rename.Rename.{Rename}
use Rattle.lu_image.specs.declared.rename.Table.TheVariants as Table
use Rattle.lu_image.specs.Pairing.{pairing_of}
use Rattle.lu_pair_lines.specs.Lines.{pairing_text}

abbrev texts : List (List ℕ)
texts = codes "head" ∷ codes "node" ∷ codes "v" ∷ codes "next" ∷ codes "word" ∷ codes "a" ∷ codes "mk" ∷ codes "item" ∷ []

abbrev field : ℕ → ℕ → FieldDef
field name ty = record { name = name; ty = ty }

-- a global `head`, a struct of these fields, a union `word` if it is there, and a function `mk` with these sites
abbrev program : TagDef → List TagDef → List Site → Program
program struct unions sites = record {
  names = texts;
  types = record { pointer = 4; types = T.Int K.Int ∷ T.Struct 0 ∷ T.Pointer 1 ∷ []; structs = struct ∷ []; unions = unions; signatures = [] };
  globals = record { name = 0; ty = 2; init = Zero } ∷ [];
  functions = record { name = 6; params = []; ret = None; locals = []; body = [] } ∷ [];
  sites = sites;
}

abbrev old : Program
old = program (record { tag = 1; fields = field 2 0 ∷ field 3 2 ∷ [] }) (record { tag = 4; fields = field 5 0 ∷ [] } ∷ [])
    (record { function = 0; ordinal = 0; elem = 1 } ∷ [])

-- the struct is called `item` and has lost its field `v`, the union is gone, and `mk` allocates an int first
abbrev new : Program
new = program (record { tag = 7; fields = field 3 2 ∷ [] }) []
    (record { function = 0; ordinal = 0; elem = 0 } ∷ record { function = 0; ordinal = 1; elem = 1 } ∷ [])

abbrev renames : List Rename
renames =
    record { table = Table.Struct; old = codes "node"; new = codes "item" }
    ∷ record { table = Table.Site; old = codes "mk#0"; new = codes "mk#1" }
    ∷ []

abbrev line : List ℕ → List ℕ
line words = words ++ 10 ∷ []

lines-of-renamed : pairing_text (codes "u") old new (pairing_of old new renames) ≡
    line (codes "pair u global head head")
    ++ line (codes "pair u struct node item")
    ++ line (codes "pair u field node.v -")
    ++ line (codes "pair u field node.next item.next")
    ++ line (codes "pair u union word -")
    ++ line (codes "pair u member word.a -")
    ++ line (codes "pair u function mk mk")
    ++ line (codes "pair u site mk#0 mk#1")
unfolding digits
lines-of-renamed = refl
