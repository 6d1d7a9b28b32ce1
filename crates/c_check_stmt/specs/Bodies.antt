-- The body of a function with its parameters.
use Rattle.std.specs.Prelude.{ℕ, nat_lt, false, List, [], length, Option, Ok, Err, if◌then◌else◌}
use Rattle.lu_spec.specs.Then.{then_do}
use Rattle.c_ast.specs.Trees.{Parameters, Statements}
use Rattle.src_tree.specs.declared.stmt.TypedStmt.{TypedStmt}
use Rattle.c_check_scope.specs.declared.scope.Scope.{Scope}
use Rattle.c_check_scope.specs.declared.rule.Rule.TheVariants.{TooManyLocals}
use Rattle.c_check_scope.specs.Rules.{Checked, both, only}
use Rattle.c_check_stmt.specs.declared.state.State.{State}
use Rattle.c_check_stmt.specs.declared.state.Frame.{Frame}
use Rattle.c_check_stmt.specs.declared.bodies.Body.{Body}
use Rattle.c_check_stmt.specs.Variables.{with_parameters, declared_all}
use Rattle.c_check_stmt.specs.Statements.{after_all, typed_statements}

-- at most 256 parameters and locals
unfoldable pub few : Scope → Checked ℕ
few scope = if nat_lt 256 (length scope.variables) then Err (only TooManyLocals) else Ok (length scope.variables)

-- what is known behind the parameters
abbrev pub start : Scope → Parameters → State
start scope ps = record { scope = with_parameters scope ps; locals = []; sites = [] }

-- a body of its parts, where there aren't too many variables
unfoldable pub whole : List ℕ → List ℕ → Checked (ℕ × List TypedStmt) → Checked ℕ → Checked Body
whole locals sites parts count =
    then_do (both parts count) (λ v. Ok (record { locals = locals; sites = sites; statements = v.0.1 }))

abbrev pub made_body : State → Checked ℕ → Checked (List TypedStmt) → Checked Body
made_body s ps list = whole s.locals s.sites (both ps list) (few s.scope)

abbrev pub body_in : Frame → Scope → Parameters → Statements → Checked Body
body_in f scope ps list =
    made_body (after_all f (start scope ps) list) (declared_all scope (Ok 0) ps) (typed_statements f false (start scope ps) (Ok []) list)

-- the body of a function with this type of result, whose first allocation is at the site of this number
abbrev pub body : Scope → Option ℕ → ℕ → Parameters → Statements → Checked Body
body scope result first ps list = body_in (record { result = result; first_site = first }) scope ps list
