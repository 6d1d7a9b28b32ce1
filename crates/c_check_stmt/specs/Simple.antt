-- Statements that hold no other statement.
use Rattle.std.specs.Prelude.{ℕ, Bool, true, false, List, [], ◌∷◌, ◌++◌, Option, Some, None, Ok, Err}
use Rattle.lu_spec.specs.Then.{then_do}
use Rattle.c_ast.specs.Trees.{Text, Parameter, Expression, Right, Setting}
use Rattle.src_tree.specs.declared.expr.TypedExpr.{TypedExpr}
use Rattle.src_tree.specs.declared.stmt.Rhs.{Rhs}
use Rattle.src_tree.specs.declared.stmt.TypedStmt.{TypedStmt}
use Rattle.src_tree.specs.declared.stmt.TypedStmt as T
use Rattle.c_check_scope.specs.declared.scope.Scope.{Scope}
use Rattle.c_check_expr.specs.declared.calls.Position.TheVariants.{Statement, RightSide, Return}
use Rattle.c_check_expr.specs.declared.uses.Assigned.{Assigned}
use Rattle.c_check_expr.specs.declared.uses.Assigned.TheVariants as A
use Rattle.c_check_scope.specs.declared.rule.Rule.TheVariants.{OutsideLoop, Returned}
use Rattle.c_check_scope.specs.Rules.{Checked, both, only}
use Rattle.c_check_expr.specs.Uses.{condition, left_side}
use Rattle.c_check_expr.specs.Declarators.{param_type}
use Rattle.c_check_stmt.specs.declared.state.State.{State}
use Rattle.c_check_stmt.specs.declared.state.Frame.{Frame}
use Rattle.c_check_stmt.specs.Variables.{name_of, used_type, with_variable, declared}
use Rattle.c_check_stmt.specs.Rights.{invoked, value_for, right_for, right_if_any_for, after_if_any}

-- ---- locals

abbrev pub declaration : Checked (Option Rhs) → Checked ℕ → Checked TypedStmt
declaration initial k = then_do (both initial k) (λ v. Ok (T.Declare v.1 v.0))

-- a local with its initialiser, in which it isn't declared yet
unfoldable pub local : Frame → State → Parameter → Option Right → Checked TypedStmt
local f s p r =
    declaration (right_if_any_for f s RightSide (param_type s.scope p) r) (declared s.scope (param_type s.scope p) (name_of p))

abbrev pub with_local : State → Text → ℕ → State
with_local s x t = record s { scope = with_variable s.scope x t; locals = s.locals ++ (t ∷ []) }

unfoldable pub after_local : Frame → State → Parameter → Option Right → State
after_local f s p r =
    with_local (after_if_any f s RightSide r) (name_of p) (used_type s.scope.types (param_type s.scope p))

-- ---- assignments

abbrev pub assigned_type : Assigned → ℕ
assigned_type (A.Local k t) = t
assigned_type (A.Place q) = q.ty

-- the type that a right side is for
unfoldable pub target_type : Checked Assigned → Checked ℕ
target_type left = then_do left (λ a. Ok (assigned_type a))

abbrev pub set : Assigned → Rhs → TypedStmt
set (A.Local k t) rhs = T.SetLocal k rhs
set (A.Place q) rhs = T.Assign q rhs

unfoldable pub assigned : Checked Assigned → Checked Rhs → Checked TypedStmt
assigned left rhs = then_do (both left rhs) (λ v. Ok (set v.0 v.1))

unfoldable pub assignment : Frame → State → Expression → Right → Checked TypedStmt
assignment f s e r =
    assigned (left_side s.scope e) (right_for f s RightSide (target_type (left_side s.scope e)) r)

-- ---- other statements

-- a call, whose result is dropped
unfoldable pub called : Frame → State → Expression → List Expression → Checked TypedStmt
called f s callee es = then_do (invoked f s Statement callee es) (λ made. Ok (T.Call made.call))

-- `break` and `continue` stand in a loop
unfoldable pub jump : Bool → TypedStmt → Checked TypedStmt
jump true statement = Ok statement
jump false statement = Err (only OutsideLoop)

-- the type for which a value is returned
unfoldable pub result_type : Option ℕ → Checked ℕ
result_type None = Err (only Returned)
result_type (Some t) = Ok t

unfoldable pub without_value : Option ℕ → Checked TypedStmt
without_value None = Ok (T.Return None)
without_value (Some t) = Err (only Returned)

unfoldable pub returned : Frame → State → Option Right → Checked TypedStmt
returned f s None = without_value f.result
returned f s (Some r) = then_do (right_for f s Return (result_type f.result) r) (λ v. Ok (T.Return (Some v)))

-- ---- the head of a `for`

unfoldable pub setting : Scope → Setting → Checked TypedStmt
setting scope g =
    assigned (left_side scope g.place) (value_for scope (target_type (left_side scope g.place)) g.value)

-- an assignment before the loop or after each turn, if there is one
unfoldable pub setting_list : Scope → Option Setting → Checked (List TypedStmt)
setting_list scope None = Ok []
setting_list scope (Some g) = then_do (setting scope g) (λ statement. Ok (statement ∷ []))

-- a condition that isn't there is true
unfoldable pub condition_if_any : Scope → Option Expression → Checked (Option TypedExpr)
condition_if_any scope None = Ok None
condition_if_any scope (Some e) = then_do (condition scope e) (λ c. Ok (Some c))
