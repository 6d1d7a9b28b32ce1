-- The table of types of a text.
use Rattle.std.specs.Prelude.{◌⊎◌, ℕ, zero, suc, ◌+◌, List, [], ◌∷◌, ◌++◌}
use Rattle.c_types.specs.declared.parts.IntKind.{IntKind}
use Rattle.c_types.specs.declared.parts.IntKind.TheVariants.{Char, UChar, Short, UShort, Int, UInt, LongLong, ULongLong}
use Rattle.c_types.specs.declared.parts.Ty.TheVariants as T
use Rattle.c_types.specs.declared.parts.TagDef.{TagDef}
use Rattle.c_types.specs.declared.parts.Parts.{Parts}
use Rattle.c_types.specs.declared.shape.Shape.{Shape}
use Rattle.c_types.specs.Layout.{shape, int_size}
use Rattle.c_types.specs.Refusal.{IsBuilt}
use Rattle.c_ast.specs.Trees.{Declaration}
use Rattle.c_check_scope.specs.declared.scope.Scope.{Scope}
use Rattle.c_check_table.specs.declared.outline.Outline.{Outline}
use Rattle.c_check_table.specs.Outlines.{outline}
use Rattle.c_check_table.specs.Predeclared.{start_scope}
use Rattle.c_check_table.specs.declared.draft.Draft.{Draft}
use Rattle.c_check_table.specs.Drafts.{nothing, with_stars, parts_of}
use Rattle.c_check_table.specs.Signatures as signatures
use Rattle.c_check_table.specs.Records as records

-- ---- what each table begins with: the integer types, `void *`, and the structs and unions, with their pointers

abbrev pub int_kinds : List IntKind
int_kinds = Char ∷ UChar ∷ Short ∷ UShort ∷ Int ∷ UInt ∷ LongLong ∷ ULongLong ∷ []

abbrev pub with_ints : Draft → List IntKind → Draft
with_ints d [] = d
with_ints d (k ∷ ks) = with_ints (with_stars d 9 (T.Int k) (shape (int_size k) (int_size k))) ks

-- that of a struct or union that isn't declared yet
abbrev pub no_shape : Shape
no_shape = shape 0 1

-- the first so many structs
abbrev pub with_structs : Draft → ℕ → Draft
with_structs d zero = d
with_structs d (suc n) = with_stars (with_structs d n) 9 (T.Struct n) no_shape

abbrev pub with_unions : Draft → ℕ → Draft
with_unions d zero = d
with_unions d (suc n) = with_stars (with_unions d n) 9 (T.Union n) no_shape

-- in a table whose pointers take so many bytes
abbrev pub scalars : ℕ → Draft
scalars pointer = with_stars (with_ints (nothing pointer) int_kinds) 8 T.VoidPointer (shape pointer pointer)

unfoldable pub base : ℕ → Outline → Draft
base pointer o = with_unions (with_structs (scalars pointer) o.structs) o.unions

-- ---- the scope in which types are looked up: that before the text, with what each table begins with

-- one of which nothing is known yet has one field, a char
abbrev pub unknown : ℕ → TagDef
unknown tag = record { tag = tag; fields = record { name = 0; ty = 0 } ∷ [] }

-- so many of them, whose tags are numbered from this one on
abbrev pub all_unknown : ℕ → ℕ → List TagDef
all_unknown tag zero = []
all_unknown tag (suc n) = all_unknown tag n ++ (unknown (tag + n) ∷ [])

unfoldable pub base_parts : ℕ → Outline → Parts
base_parts pointer o =
    record {
      pointer = pointer;
      types = (base pointer o).types;
      structs = all_unknown 0 o.structs;
      unions = all_unknown o.structs o.unions;
      signatures = [];
    }

abbrev pub base_scope : ℕ → Outline → Scope
base_scope pointer o = start_scope (base_parts pointer o) o.names o.tags

-- ---- the table

unfoldable pub draft_in : Scope → Draft → List Declaration → Draft
draft_in scope d text = records.in_text scope (records.with_message (signatures.in_text scope d text)) text

abbrev pub draft_of : ℕ → Outline → List Declaration → Draft
draft_of pointer o text = draft_in (base_scope pointer o) (base pointer o) text

-- The integer types, `void *`, the structs, the unions, and a pointer type for each signature along the text, all
-- with their pointers; and then `int[6]` and the arrays along the text. Pointers take so many bytes, 4 or 8.
unfoldable pub types_of : ℕ → List Declaration → Parts
types_of pointer text = parts_of (draft_of pointer (outline text) text)

-- the types of a text, or what each table begins with, are no table
abbrev pub IsNoTable : ℕ → List Declaration → Type 0
IsNoTable pointer text =
    (IsBuilt (types_of pointer text) → ⊥) ⊎ (IsBuilt (base_parts pointer (outline text)) → ⊥)
