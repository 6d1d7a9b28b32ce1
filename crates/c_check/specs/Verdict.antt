-- The first declaration of a text that breaks a rule, with the rules that it breaks; or the program of the text.
use Rattle.std.specs.Prelude.{ℕ, ◌+◌, Bool, true, false, ◌&&◌, List, [], ◌∷◌, Option, Some, None, Result, Ok, Err, codes, slice_get, if◌then◌else◌}
use Rattle.std.specs.Option.{option_map_or}
use Rattle.c_types.specs.declared.parts.Parts.{Parts}
use Rattle.c_ast.specs.Trees.{Text, Declaration}
use Rattle.src_tree.specs.declared.program.Function.{Function as Code}
use Rattle.src_tree.specs.declared.program.Program.{Program}
use Rattle.c_check_scope.specs.declared.scope.Scope.{Scope}
use Rattle.c_check_scope.specs.declared.scope.Meaning.{Meaning}
use Rattle.c_check_scope.specs.declared.scope.Meaning.TheVariants.{Function}
use Rattle.c_check_scope.specs.declared.rule.Rule.TheVariants.{EntryPoint}
use Rattle.c_check_scope.specs.Rules.{Checked, only}
use Rattle.c_check_scope.specs.Names.{global_of}
use Rattle.c_check_table.specs.Outlines.{outline}
use Rattle.c_check_table.specs.Predeclared.{start_scope}
use Rattle.c_check.specs.declared.standing.Standing.{Standing}
use Rattle.c_check.specs.declared.standing.Functions.{Functions}
use Rattle.c_check.specs.declared.verdict.Broken.{Broken}
use Rattle.c_check.specs.Headings.{signatures}
use Rattle.c_check.specs.Standings.{start}
use Rattle.c_check.specs.Declarations.{declared}

-- ---- the functions that each program has

abbrev pub is_empty : List ℕ → Bool
is_empty [] = true
is_empty _ = false

abbrev pub is_nothing : Option ℕ → Bool
is_nothing None = true
is_nothing (Some t) = false

-- of type `void (void)`
abbrev pub is_handler : Code → Bool
is_handler f = is_nothing f.ret && is_empty f.params

abbrev pub means_handler : Standing → Option Meaning → Bool
means_handler s (Some (Function f g)) = option_map_or is_handler (slice_get s.functions f) false
means_handler s _ = false

unfoldable pub has_handler : Standing → Text → Bool
has_handler s x = means_handler s (global_of s.scope x)

abbrev pub has_handlers : Standing → Bool
has_handlers s = has_handler s (codes "init") && has_handler s (codes "on_message")

-- at the end of a text: the next number is named where a function is missing
unfoldable pub ended : ℕ → Standing → Result Standing Broken
ended n s = if has_handlers s then Ok s else Err (record { decl = n; rules = only EntryPoint })

-- ---- along the text

abbrev pub or_broken : ℕ → Checked Standing → (Standing → Result Standing Broken) → Result Standing Broken
or_broken n (Err r) next = Err (record { decl = n; rules = r })
or_broken n (Ok s) next = next s

-- from declaration n on
abbrev pub judged : List Declaration → Functions → ℕ → Standing → List Declaration → Result Standing Broken
judged text functions n s [] = ended n s
judged text functions n s (d ∷ ds) =
    or_broken n (declared text functions s d) (λ next. judged text functions (n + 1) next ds)

-- ---- a whole text

-- the scope before it
abbrev pub scope_of : Parts → List Declaration → Scope
scope_of p text = start_scope p (outline text).names (outline text).tags

abbrev pub functions_in : Scope → List Declaration → Functions
functions_in scope text =
    record {
      definitions = (outline text).definitions;
      signatures = signatures scope text (outline text).headings;
    }

abbrev pub program_of : List Text → Standing → Program
program_of names s =
    record { names = names; types = s.scope.types; globals = s.globals; functions = s.functions; sites = s.sites }

abbrev pub finished : List Text → Result Standing Broken → Result Program Broken
finished names (Err b) = Err b
finished names (Ok s) = Ok (program_of names s)

-- what stands after a text, judged from its scope on
abbrev pub judged_in : Scope → List Declaration → Result Standing Broken
judged_in scope text = judged text (functions_in scope text) 1 (start scope) text

-- the program of a text, judged with the types of a table
abbrev pub verdict : Parts → List Declaration → Result Program Broken
verdict p text = finished (outline text).texts (judged_in (scope_of p text) text)
