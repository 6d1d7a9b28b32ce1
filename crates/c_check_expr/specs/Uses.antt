-- Where statements use expressions: conditions, right sides and the places that are assigned.
use Rattle.std.specs.Prelude.{ℕ, Bool, false, ◌&&◌, Option, Some, None, Ok, Err, if◌then◌else◌}
use Rattle.lu_spec.specs.Then.{then_do}
use Rattle.c_types.specs.declared.parts.Parts.{Parts}
use Rattle.c_ast.specs.Trees.{Expression}
use Rattle.src_tree.specs.declared.expr.TypedExpr.{TypedExpr}
use Rattle.src_tree.specs.declared.expr.TypedPlace.{TypedPlace}
use Rattle.c_check_scope.specs.Kinds.{is_record, element_of}
use Rattle.c_check_scope.specs.Conversions.{converts}
use Rattle.c_check_expr.specs.declared.denoted.Denoted.{Denoted}
use Rattle.c_check_expr.specs.declared.denoted.Denoted.TheVariants as D
use Rattle.c_check_expr.specs.declared.uses.Assigned.{Assigned}
use Rattle.c_check_expr.specs.declared.uses.Assigned.TheVariants as A
use Rattle.c_check_scope.specs.declared.scope.Scope.{Scope}
use Rattle.c_check_scope.specs.declared.rule.Rule.TheVariants.{NotPlace, Conversion, InsideUnion}
use Rattle.c_check_scope.specs.Rules.{Checked, only}
use Rattle.c_check_expr.specs.Denoted.{type_at, valued, converted, operand, is_null}
use Rattle.c_check_expr.specs.Places.{has_form, unplaced}
use Rattle.c_check_expr.specs.Operations.{scalar}
use Rattle.c_check_expr.specs.Typing.{denoted, typed}

-- a condition is a scalar
unfoldable pub condition : Scope → Expression → Checked TypedExpr
condition scope e = scalar scope.types (typed scope e)

-- a struct or union inside a union
unfoldable pub lies_inside : Parts → Checked Denoted → Bool
lies_inside p (Ok (D.Place q inside)) = inside && is_record (type_at p q.ty)
lies_inside p _ = false

unfoldable pub given : Parts → ℕ → Bool → Bool → TypedExpr → Checked TypedExpr
given p t null inside e =
    if converts (operand p e null) (type_at p t) then (if inside then Err (only InsideUnion) else Ok (converted t e)) else Err (only Conversion)

-- what is denoted, converted to a type as a right side, argument or return value
unfoldable pub right_value : Parts → ℕ → Checked Denoted → Checked TypedExpr
right_value p t d = then_do (valued p d) (given p t (is_null d) (lies_inside p d))

unfoldable pub right_side : Scope → ℕ → Expression → Checked TypedExpr
right_side scope t e = right_value scope.types t (denoted scope e)

abbrev pub target_in : TypedPlace → Option ℕ → Checked Assigned
target_in q (Some t) = Err (only NotPlace)
target_in q None = Ok (A.Place q)

unfoldable pub targeted : Parts → Bool → Checked Denoted → Checked Assigned
targeted p form (Err r) = Err (unplaced form r)
targeted p form (Ok (D.Local k t)) = Ok (A.Local k t)
targeted p form (Ok (D.Place q inside)) = target_in q (element_of (type_at p q.ty))
targeted p form (Ok _) = Err (only NotPlace)

-- the left side of an assignment: a local, or a place other than an array
unfoldable pub left_side : Scope → Expression → Checked Assigned
left_side scope e = targeted scope.types (has_form scope e) (denoted scope e)
