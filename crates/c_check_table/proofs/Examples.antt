-- The tables of small texts, by computation.
use Rattle.std.proofs.Common.{◌≡◌, refl, List, [], ◌∷◌, Some, None, length}
use Rattle.std.specs.Prelude.{codes, ◌^◌, ◌-◌}
use Rattle.c_types.specs.declared.parts.TagDef.{TagDef}
use Rattle.c_ast.specs.declared.token.NumberKind.TheVariants.{Int}
use Rattle.c_ast.specs.declared.types.BaseType.TheVariants as B
use Rattle.c_ast.specs.declared.types.TagKind.TheVariants.{Struct}
use Rattle.c_ast.specs.declared.types.TypeName.{TypeName}
use Rattle.c_ast.specs.Trees.{Plain, Function, NoParameter, Also, Data, Declaration, Record, Prototype}
use Rattle.c_check_scope.specs.Numbers as numbers
use Rattle.c_check_scope.specs.Kinds as kinds
use Rattle.c_check_scope.specs.Rules as rules
use Rattle.c_check_scope.specs.Names as names
use Rattle.c_check_table.specs.Outlines as outlines
use Rattle.c_check_expr.specs.Typing as typing
use Rattle.c_check_expr.specs.Denoted as denoted
use Rattle.c_check_expr.specs.Declarators as declarators
use Rattle.c_check_decl.specs.Records as decls
use Rattle.c_check_table.specs.Predeclared as start
use Rattle.c_check_table.specs.Tally as tally
use Rattle.c_check_table.specs.Drafts as drafts
use Rattle.c_check_table.specs.Signatures as signatures
use Rattle.c_check_table.specs.Records as records
use Rattle.c_check_table.specs.Tables as tables

abbrev int : TypeName
int = record { base = B.Int; stars = 0 }

abbrev char : TypeName
char = record { base = B.Char; stars = 0 }

-- ---- the empty text: 8 integer types with 9 pointers each, `void *` with 8, `struct message` with 9, and `int[6]`

-- `int` is type 40, and `int[6]` type 99
abbrev message : TagDef
message = record {
  tag = 0;
  fields = record { name = 1; ty = 40 } ∷ record { name = 2; ty = 40 } ∷ record { name = 3; ty = 99 } ∷ [];
}

empty_has_100_types : length (tables.types_of 4 []).types ≡ 100
unfolding outlines.named outlines.tagged outlines.with_tag outlines.start outlines.outline names.number_named drafts.with_type drafts.with_stars records.with_array records.object_place records.with_entry records.with_fields records.with_message decls.object_size tables.base tables.base_parts tables.draft_in tables.types_of start.start_meanings start.start_scope
empty_has_100_types = refl

empty_has_messages : (tables.types_of 4 []).structs ≡ message ∷ []
unfolding outlines.named outlines.tagged outlines.with_tag outlines.start outlines.outline names.number_named drafts.with_type drafts.with_stars records.with_array records.object_place records.with_entry records.with_fields records.with_message decls.object_size tables.base tables.base_parts tables.draft_in tables.types_of start.start_meanings start.start_scope
empty_has_messages = refl

-- ---- int f(int (*g)(char)); adds the signature of *g, and then that of f, whose parameter is type 99

abbrev heading : List Declaration
heading = Prototype int (codes "f") (Also (Function int (codes "g") (Also (Plain char (codes "c")) NoParameter)) NoParameter) ∷ []

heading_has_two_signatures : (tables.types_of 4 heading).signatures ≡ record { result = Some 40; params = 0 ∷ [] } ∷ record { result = Some 40; params = 99 ∷ [] } ∷ []
unfolding outlines.named outlines.tagged outlines.first_of outlines.headed outlines.with_tag outlines.with_heading outlines.declared outlines.start outlines.outline names.number_named names.tag_of rules.both typing.base_named typing.pointers typing.starred typing.named denoted.type_at kinds.is_scalar numbers.number_of declarators.scalar_type declarators.result_type declarators.one_more declarators.few declarators.made_signature drafts.with_type drafts.with_stars signatures.signed signatures.pointer_in signatures.in_declaration records.with_array records.object_place records.with_entry records.with_fields records.with_message records.in_declaration decls.object_size tables.base tables.base_parts tables.draft_in tables.types_of start.start_meanings start.start_scope
heading_has_two_signatures = refl

-- ---- struct s { int a[3]; struct s *n; }; where `struct s *` is type 100, `int[6]` type 109 and `int[3]` type 110

abbrev node : List Declaration
node =
    Record Struct (codes "s") (Data int (codes "a") (Some (record { value = 3; kind = Int })) ∷ Data (record { base = B.Tagged Struct (codes "s"); stars = 1 }) (codes "n") None ∷ []) ∷ []

abbrev node_message : TagDef
node_message = record {
  tag = 0;
  fields = record { name = 1; ty = 40 } ∷ record { name = 2; ty = 40 } ∷ record { name = 3; ty = 109 } ∷ [];
}

node_has_its_fields : (tables.types_of 4 node).structs ≡ node_message ∷ record { tag = 11; fields = record { name = 12; ty = 110 } ∷ record { name = 13; ty = 100 } ∷ [] } ∷ []
unfolding outlines.named outlines.tagged outlines.with_tag outlines.declared outlines.start outlines.outline names.number_named names.tag_of rules.both typing.tagged typing.base_named typing.pointers typing.starred typing.named numbers.number_of declarators.array_length declarators.with_length drafts.with_type drafts.with_stars signatures.in_declaration records.object_in records.with_array records.object_place records.array_in records.type_in records.named_field records.with_entry records.or_nameless records.with_fields records.with_message records.in_declaration decls.object_size decls.small decls.name_number decls.one_more decls.with_rule decls.small_record decls.judged_fields tally.declare_tag tables.base tables.base_parts tables.draft_in tables.types_of start.start_meanings start.start_scope
node_has_its_fields = refl

-- ---- struct s { struct s n; }; breaks a rule, and has a field that no text can name

abbrev endless : List Declaration
endless =
    Record Struct (codes "s") (Data (record { base = B.Tagged Struct (codes "s"); stars = 0 }) (codes "n") None ∷ []) ∷ []

endless_has_no_name : (tables.types_of 4 endless).structs ≡ node_message ∷ record { tag = 11; fields = record { name = 2 ^ 32 - 1; ty = 40 } ∷ [] } ∷ []
unfolding outlines.named outlines.tagged outlines.with_tag outlines.declared outlines.start outlines.outline names.number_named names.tag_of rules.both rules.only rules.code typing.tagged typing.base_named typing.pointers typing.starred typing.named numbers.number_of declarators.with_length drafts.with_type drafts.with_stars signatures.in_declaration records.object_in records.with_array records.object_place records.array_in records.type_in records.named_field records.with_entry records.or_nameless records.with_fields records.with_message records.in_declaration decls.object_size decls.small decls.name_number decls.one_more decls.with_rule decls.small_record decls.judged_fields tally.declare_tag tables.base tables.base_parts tables.draft_in tables.types_of start.start_meanings start.start_scope
endless_has_no_name = refl

-- with pointers of 8 bytes they have other sizes, and the same numbers

wide_empty_has_100_types : length (tables.types_of 8 []).types ≡ 100
unfolding outlines.named outlines.tagged outlines.with_tag outlines.start outlines.outline names.number_named drafts.with_type drafts.with_stars records.with_array records.object_place records.with_entry records.with_fields records.with_message decls.object_size tables.base tables.base_parts tables.draft_in tables.types_of start.start_meanings start.start_scope
wide_empty_has_100_types = refl
