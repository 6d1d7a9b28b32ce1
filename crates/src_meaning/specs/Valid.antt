-- When a program is valid: what each program has that the rules of the language accept.
use Rattle.std.specs.Prelude.{ℕ, ◌+◌, ◌-◌, Bool, true, false, ◌&&◌, nat_eq, nat_le, IsTrue, List, [], ◌∷◌, length, Option, Some, None, codes, slice_get}
use Rattle.std.specs.List.{list_all, list_any}
use Rattle.c_types.specs.declared.parts.FieldDef.{FieldDef}
use Rattle.c_types.specs.declared.parts.TagDef.{TagDef}
use Rattle.c_types.specs.declared.parts.Signature.{Signature}
use Rattle.c_types.specs.declared.parts.Ty.{Ty}
use Rattle.c_types.specs.declared.parts.Ty.TheVariants as T
use Rattle.c_types.specs.declared.parts.Parts.{Parts}
use Rattle.c_types.specs.Layout.{greatest, size_of}
use Rattle.c_types.specs.Refusal.{IsBuilt}
use Rattle.src_tree.specs.declared.expr.TypedExpr.{TypedExpr}
use Rattle.src_tree.specs.declared.program.Init.{Init, Zero}
use Rattle.src_tree.specs.declared.program.Function.{Function}
use Rattle.src_tree.specs.declared.program.Global as Text
use Rattle.src_tree.specs.declared.program.Site.{Site}
use Rattle.src_tree.specs.declared.program.Program.{Program}
use Rattle.src_tree.specs.Signatures.{has_signature}
use Rattle.src_meaning.specs.ValidTypes.{ty, is_int, is_named, is_result, signature_is_declared, greatest_params, is_declared_scalar, is_declared_object}
use Rattle.src_meaning.specs.ValidTable.{has_types}
use Rattle.src_meaning.specs.ValidExpression.{Declarations}
use Rattle.src_meaning.specs.ValidStatement.{are_statements, has_depth}
use Rattle.src_meaning.specs.ValidInitialiser.{is_start, is_typed}
use Rattle.src_meaning.specs.ValidNumbering.{is_numbered}
use Rattle.src_meaning.specs.ValidNames.{are_names, names_differ, is_name, is_free, is_called}

-- the most structs, unions, fields of one, globals, functions and sites
abbrev pub greatest_count : ℕ
greatest_count = 4096

abbrev pub is_few : {A : Type 0} → List A → Bool
is_few xs = nat_le (length xs) greatest_count

-- the room where no construct is open
abbrev pub top : ℕ
top = 65

abbrev pub is_field : Program → FieldDef → Bool
is_field p f = is_name p.names f.name && is_declared_object p.types top f.ty

abbrev pub is_tag : Program → TagDef → Bool
is_tag p d = is_name p.names d.tag && (is_few d.fields && list_all (is_field p) d.fields)

-- a signature that some text declares
abbrev pub is_signature : Parts → Signature → Bool
is_signature p g = signature_is_declared (is_declared_scalar p (top - 1)) p (Some g)

abbrev pub is_int_named : Program → List ℕ → FieldDef → Bool
is_int_named p word f = is_called p.names f.name word && is_int (ty p.types f.ty)

abbrev pub is_int_array : Parts → ℕ → Option Ty → Bool
is_int_array p count (Some (T.Array u n)) = is_int (ty p u) && nat_eq n count
is_int_array p count _ = false

-- int source, int type and int arg[6]
abbrev pub are_message_fields : Program → List FieldDef → Bool
are_message_fields p (a ∷ b ∷ c ∷ []) =
    is_int_named p (codes "source") a && (is_int_named p (codes "type") b && (is_called p.names c.name (codes "arg") && is_int_array p.types 6 (ty p.types c.ty)))
are_message_fields p _ = false

abbrev pub is_message_tag : Program → Option TagDef → Bool
is_message_tag p None = false
is_message_tag p (Some d) = is_called p.names d.tag (codes "message") && are_message_fields p d.fields

-- `struct message`
abbrev pub is_message : Program → Option Ty → Bool
is_message p (Some (T.Struct s)) = is_message_tag p (slice_get p.types.structs s)
is_message p _ = false

abbrev pub is_zero_start : Init → Bool
is_zero_start Zero = true
is_zero_start _ = false

-- a global of that name for messages, zero at the start
abbrev pub is_message_global : Program → List ℕ → Text.Global → Bool
is_message_global p word g =
    is_called p.names g.name word && (is_message p (ty p.types g.ty) && is_zero_start g.init)

-- the first two globals are `m_in` and `m_out`
abbrev pub has_messages : Program → List Text.Global → Bool
has_messages p (a ∷ b ∷ rest) = is_message_global p (codes "m_in") a && is_message_global p (codes "m_out") b
has_messages p _ = false

abbrev pub is_global : Program → ℕ → Text.Global → Bool
is_global p g d = is_free p.names d.name && (is_declared_object p.types top d.ty && is_start p g d.ty d.init)

abbrev pub are_globals : Program → ℕ → List Text.Global → Bool
are_globals p g [] = true
are_globals p g (d ∷ ds) = is_global p g d && are_globals p (g + 1) ds

-- globals fit into so many bytes together
abbrev pub are_within : Program → ℕ → List Text.Global → Bool
are_within p room [] = true
are_within p room (g ∷ gs) =
    nat_le (size_of p.types g.ty) room && are_within p (room - size_of p.types g.ty) gs

-- the most locals of a function, its parameters among them
abbrev pub greatest_locals : ℕ
greatest_locals = 256

abbrev pub has_few_locals : Function → Bool
has_few_locals f = nat_le (length f.params) greatest_params && nat_le (length f.params + length f.locals) greatest_locals

abbrev pub declarations_of : Program → Function → Declarations
declarations_of p f = record { program = p; params = f.params; locals = f.locals }

-- its signature is in the table
abbrev pub is_signature_known : Program → Function → Bool
is_signature_known p f = list_any (has_signature f) p.types.signatures

abbrev pub is_body : Program → Function → Bool
is_body p f = are_statements (declarations_of p f) f.ret false (top - 2) f.body

-- A function: the parameters stand in one construct, and the statements of its body in two
abbrev pub is_function : Program → Function → Bool
is_function p f =
    is_free p.names f.name
    && (has_few_locals f
    && (is_result p.types f.ret
    && (list_all (is_declared_scalar p.types (top - 1)) f.params
    && (is_signature_known p f && is_body p f))))

abbrev pub is_nothing : Option ℕ → Bool
is_nothing None = true
is_nothing (Some t) = false

abbrev pub is_empty : List ℕ → Bool
is_empty [] = true
is_empty _ = false

-- a function of that name without parameters and without a result
abbrev pub is_handler : Program → List ℕ → Function → Bool
is_handler p word f = is_called p.names f.name word && (is_empty f.params && is_nothing f.ret)

abbrev pub has_handlers : Program → Bool
has_handlers p =
    list_any (is_handler p (codes "init")) p.functions && list_any (is_handler p (codes "on_message")) p.functions

abbrev pub has_few_entries : Program → Bool
has_few_entries p =
    is_few p.types.structs && (is_few p.types.unions && is_few p.sites)

abbrev pub are_tags : Program → Bool
are_tags p = list_all (is_tag p) p.types.structs && list_all (is_tag p) p.types.unions

abbrev pub has_valid_types : Program → Bool
has_valid_types p =
    has_types p.types && (are_tags p && list_all (is_signature p.types) p.types.signatures)

abbrev pub has_valid_globals : Program → Bool
has_valid_globals p =
    is_few p.globals && (has_messages p p.globals && (are_globals p 0 p.globals && are_within p greatest p.globals))

abbrev pub is_object_site : Program → Site → Bool
is_object_site p s = is_named p.types s.elem

abbrev pub has_valid_functions : Program → Bool
has_valid_functions p =
    is_few p.functions
    && (list_all (is_function p) p.functions
    && (has_handlers p && (list_all (is_object_site p) p.sites && is_numbered p.sites p.functions)))

-- all but that the types are those of a table
abbrev pub is_valid : Program → Bool
is_valid p =
    are_names p.names
    && (has_few_entries p && (names_differ p.globals p.functions && (has_valid_types p && (has_valid_globals p && has_valid_functions p))))

-- a valid program
pub record IsValid (p : Program) : Type 0 where
  pub built : IsBuilt p.types
  pub rules : IsTrue (is_valid p)

-- a valid expression, as that of a filter: it names globals and functions alone, and keeps the bounds on depth and chains
pub record IsValidExpression (p : Program) (e : TypedExpr) : Type 0 where
  pub typed : IsTrue (is_typed p e)
  pub bounds : IsTrue (has_depth top e)
