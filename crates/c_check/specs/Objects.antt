-- A struct, union or global of a text: what stands after it, or the rules that it breaks.
use Rattle.std.specs.Prelude.{ℕ, ◌+◌, nat_lt, List, length, Option, Some, None, Ok, Err, if◌then◌else◌}
use Rattle.lu_spec.specs.Then.{then_do}
use Rattle.c_types.specs.Layout.{greatest}
use Rattle.c_ast.specs.declared.types.TagKind.{TagKind}
use Rattle.c_ast.specs.Trees.{Text, Object, Initializer}
use Rattle.c_check_scope.specs.declared.scope.Scope.{Scope}
use Rattle.c_check_scope.specs.declared.scope.Tag.{Tag}
use Rattle.c_check_scope.specs.declared.rule.Rule.TheVariants.{NameTaken, Size}
use Rattle.c_check_scope.specs.Rules.{Checked, both, only}
use Rattle.c_check_scope.specs.Names.{tag_of, object_name}
use Rattle.c_check_decl.specs.declared.globals.DeclaredGlobal.{DeclaredGlobal}
use Rattle.c_check_decl.specs.Records.{record_fields}
use Rattle.c_check_decl.specs.Globals.{global}
use Rattle.c_check_table.specs.Tally.{declare_tag}
use Rattle.c_check.specs.declared.standing.Standing.{Standing}
use Rattle.c_check.specs.declared.standing.Functions.{Functions}
use Rattle.c_check.specs.Headings.{free_name, next_of}
use Rattle.c_check.specs.Standings.{with_global}

-- ---- structs and unions

abbrev pub untaken : Option Tag → Checked ℕ
untaken None = Err (only NameTaken)
untaken (Some tag) = if tag.is_declared then Err (only NameTaken) else next_of tag.number

-- the first declaration of a tag, and one of at most 4,096 of its kind
unfoldable pub new_tag : Scope → Text → Checked ℕ
new_tag scope x = untaken (tag_of scope x)

unfoldable pub with_tag : Standing → Text → Standing
with_tag s x = record s { scope = declare_tag s.scope x }

unfoldable pub declared_record : Standing → TagKind → Text → List Object → Checked Standing
declared_record s kind x fields =
    then_do (both (new_tag s.scope x) (record_fields s.scope kind fields)) (λ v. Ok (with_tag s x))

-- ---- globals

-- the bytes of all globals with this one
unfoldable pub sum_with : ℕ → Checked DeclaredGlobal → Checked ℕ
sum_with bytes made = then_do made (λ g. if nat_lt greatest (bytes + g.size) then Err (only Size) else Ok (bytes + g.size))

unfoldable pub summed : ℕ → Checked DeclaredGlobal → Checked (ℕ × DeclaredGlobal)
summed bytes made = both (sum_with bytes made) made

unfoldable pub judged_global : Functions → Standing → Object → Option Initializer → Checked ((ℕ × ℕ) × (ℕ × DeclaredGlobal))
judged_global functions s o i =
    both (both (free_name s.scope (object_name o)) (next_of (length s.globals))) (summed s.bytes (global s.scope functions.signatures o i))

abbrev pub global_made : Standing → Checked ((ℕ × ℕ) × (ℕ × DeclaredGlobal)) → Checked Standing
global_made s judged = then_do judged (λ v. Ok (with_global s v.0.0 v.1.0 v.1.1))

abbrev pub declared_global : Functions → Standing → Object → Option Initializer → Checked Standing
declared_global functions s o i = global_made s (judged_global functions s o i)
