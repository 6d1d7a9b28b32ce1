-- What a text declares, by name.
use Rattle.std.specs.Prelude.{ℕ, ◌+◌, Bool, true, false, List, [], ◌∷◌, ◌++◌, Option, Some, None, slice_get, slice_set, codes}
use Rattle.c_ast.specs.declared.types.TagKind.{TagKind}
use Rattle.c_ast.specs.declared.types.TagKind.TheVariants.{Struct, Union}
use Rattle.c_ast.specs.Trees.{Object, Declaration, Record, Global, Prototype, Definition}
use Rattle.c_check_scope.specs.declared.scope.Tag.{Tag}
use Rattle.c_check_scope.specs.Names.{Text, number_named, place_of, object_name}
use Rattle.c_check_table.specs.declared.outline.Outline.{Outline}

-- ---- names

-- a name at the end, which is no tag and names no function so far
abbrev pub one_more : Outline → Text → Outline
one_more o x =
    record {
      names = o.names ++ (x ∷ []);
      texts = o.texts ++ (x ∷ []);
      tags = o.tags ++ (None ∷ []);
      headings = o.headings ++ (None ∷ []);
      definitions = o.definitions ++ (None ∷ []);
      structs = o.structs;
      unions = o.unions;
    }

abbrev pub named_at : Outline → Text → Option ℕ → Outline
named_at o x (Some k) = o
named_at o x None = one_more o x

-- each name once, by first appearance
unfoldable pub named : Outline → Text → Outline
named o x = named_at o x (number_named o.names x)

abbrev pub all_named : Outline → List Text → Outline
all_named o [] = o
all_named o (x ∷ xs) = all_named (named o x) xs

-- ---- tags

-- how many structs or unions there are
abbrev pub count : Outline → TagKind → ℕ
count o Struct = o.structs
count o Union = o.unions

abbrev pub tag : TagKind → Bool → ℕ → Tag
tag kind is_declared n = record { kind = kind; number = n; is_declared = is_declared }

abbrev pub counted : Outline → TagKind → List (Option Tag) → Outline
counted o Struct tags = record o { tags = tags; structs = o.structs + 1 }
counted o Union tags = record o { tags = tags; unions = o.unions + 1 }

-- the name of a number is the next tag of a kind
abbrev pub next_tag : Outline → TagKind → Bool → ℕ → Outline
next_tag o kind is_declared k =
    counted o kind (slice_set o.tags k (Some (tag kind is_declared (count o kind))))

abbrev pub tagged_at : Outline → TagKind → Bool → ℕ → Option (Option Tag) → Outline
tagged_at o kind is_declared k (Some None) = next_tag o kind is_declared k
tagged_at o kind is_declared k _ = o

-- the name of a number is a tag; its first declaration counts
unfoldable pub tagged : Outline → TagKind → Bool → ℕ → Outline
tagged o kind is_declared k = tagged_at o kind is_declared k (slice_get o.tags k)

-- ---- functions

abbrev pub first_at : List (Option ℕ) → ℕ → ℕ → Option (Option ℕ) → List (Option ℕ)
first_at places k place (Some None) = slice_set places k (Some place)
first_at places k place _ = places

-- the place of the first in a text
unfoldable pub first_of : List (Option ℕ) → ℕ → ℕ → List (Option ℕ)
first_of places k place = first_at places k place (slice_get places k)

-- a prototype or definition of the name of a number stands at a place
unfoldable pub headed : Outline → ℕ → ℕ → Outline
headed o k place = record o { headings = first_of o.headings k place }

unfoldable pub defined : Outline → ℕ → ℕ → Outline
defined o k place = record o { definitions = first_of o.definitions k place }

-- ---- declarations

abbrev pub fields_named : Outline → List Object → Outline
fields_named o [] = o
fields_named o (f ∷ fs) = fields_named (named o (object_name f)) fs

unfoldable pub with_tag : Outline → TagKind → Bool → Text → Outline
with_tag o kind is_declared x = tagged (named o x) kind is_declared (place_of o.names x)

unfoldable pub with_heading : Outline → Text → ℕ → Outline
with_heading o x place = headed (named o x) (place_of o.names x) place

unfoldable pub with_definition : Outline → Text → ℕ → Outline
with_definition o x place = defined (with_heading o x place) (place_of o.names x) place

-- a declaration at a place of the text
unfoldable pub declared : Outline → ℕ → Declaration → Outline
declared o place (Record kind x fs) = fields_named (with_tag o kind false x) fs
declared o place (Global f i) = named o (object_name f)
declared o place (Prototype t x ps) = with_heading o x place
declared o place (Definition t x ps body) = with_definition o x place

abbrev pub declared_after : Outline → ℕ → List Declaration → Outline
declared_after o place [] = o
declared_after o place (d ∷ ds) = declared_after (declared o place d) (place + 1) ds

-- ---- texts

-- the names that each text has beside `message`: of the fields, the two messages and the built-in functions
abbrev pub predeclared : List Text
predeclared =
    codes "source" ∷ codes "type" ∷ codes "arg" ∷ codes "m_in" ∷ codes "m_out"
    ∷ codes "send" ∷ codes "malloc" ∷ codes "calloc" ∷ codes "free" ∷ codes "panic" ∷ []

abbrev pub nothing : Outline
nothing =
    record { names = []; texts = []; tags = []; headings = []; definitions = []; structs = 0; unions = 0 }

-- before the text: `struct message` is struct 0 and declared
unfoldable pub start : Outline
start = all_named (with_tag nothing Struct true (codes "message")) predeclared

-- what a text declares
unfoldable pub outline : List Declaration → Outline
outline ds = declared_after start 0 ds
