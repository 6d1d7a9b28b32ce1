-- Parameters and locals in the scope of their function.
use Rattle.std.specs.Prelude.{ℕ, [], ◌∷◌, ◌++◌, length, Option, Some, None, Ok, Err}
use Rattle.lu_spec.specs.Then.{then_do}
use Rattle.c_types.specs.declared.parts.Parts.{Parts}
use Rattle.c_ast.specs.Trees.{Text, Parameter, Plain, Function, Parameters, NoParameter, Also}
use Rattle.c_check_scope.specs.Operations.{int_type}
use Rattle.c_check_scope.specs.declared.scope.Scope.{Scope}
use Rattle.c_check_scope.specs.declared.scope.Meaning.{Meaning}
use Rattle.c_check_scope.specs.declared.scope.Meaning.TheVariants.{Local}
use Rattle.c_check_scope.specs.declared.rule.Rule.TheVariants.{LocalTaken}
use Rattle.c_check_scope.specs.Rules.{Checked, both, only}
use Rattle.c_check_scope.specs.Names.{meaning_of, with_name}
use Rattle.c_check_expr.specs.Denoted.{number}
use Rattle.c_check_expr.specs.Declarators.{param_type}

-- the scope outside functions
abbrev pub bare : Scope → Scope
bare scope = record scope { locals = []; variables = [] }

-- the name that is declared
abbrev pub name_of : Parameter → Text
name_of (Plain t x) = x
name_of (Function t x ps) = x

-- the type that a variable has where it is used: int where its own breaks a rule
unfoldable pub used_type : Parts → Checked ℕ → ℕ
used_type p (Err r) = number p int_type
used_type p (Ok t) = t

abbrev pub fresh_in : Scope → Option Meaning → Checked ℕ
fresh_in scope None = Ok (length scope.variables)
fresh_in scope (Some m) = Err (only LocalTaken)

-- the number of the next variable, whose name isn't taken
unfoldable pub fresh : Scope → Text → Checked ℕ
fresh scope x = fresh_in scope (meaning_of scope x)

abbrev pub with_variable_in : Scope → Text → ℕ → Option Meaning → Scope
with_variable_in scope x t None =
    record scope { locals = with_name scope.locals x; variables = scope.variables ++ (Local (length scope.variables) t ∷ []) }
with_variable_in scope x t (Some m) = scope

-- with one more variable, unless its name is taken
unfoldable pub with_variable : Scope → Text → ℕ → Scope
with_variable scope x t = with_variable_in scope x t (meaning_of scope x)

-- the second number, or the rules that are broken
unfoldable pub later : Checked ℕ → Checked ℕ → Checked ℕ
later done next = then_do (both done next) (λ v. Ok v.1)

-- the number of a variable that is declared with a type and a name
abbrev pub declared : Scope → Checked ℕ → Text → Checked ℕ
declared scope ty x = later ty (fresh scope x)

-- ---- parameters

abbrev pub with_parameter : Scope → Parameter → Scope
with_parameter scope p = with_variable scope (name_of p) (used_type scope.types (param_type scope p))

abbrev pub with_parameters : Scope → Parameters → Scope
with_parameters scope NoParameter = scope
with_parameters scope (Also p ps) = with_parameters (with_parameter scope p) ps

-- parameters in order, behind others
abbrev pub declared_all : Scope → Checked ℕ → Parameters → Checked ℕ
declared_all scope done NoParameter = done
declared_all scope done (Also p ps) =
    declared_all (with_parameter scope p) (later done (declared scope (param_type scope p) (name_of p))) ps
