-- Operators on values, casts and `?:`.
use Rattle.std.specs.Prelude.{ℕ, Bool, Option, Some, None, Ok, Err, if◌then◌else◌}
use Rattle.lu_spec.specs.Then.{then_do}
use Rattle.c_types.specs.declared.parts.Ty.{Ty}
use Rattle.c_types.specs.declared.parts.Parts.{Parts}
use Rattle.c_ast.specs.declared.expr.BinaryOperator.{BinaryOperator}
use Rattle.src_tree.specs.declared.expr.TypedExpr.{TypedExpr}
use Rattle.src_tree.specs.declared.expr.UnaryOperator.{UnaryOperator}
use Rattle.src_tree.specs.declared.expr.UnaryOperator.TheVariants.{Not}
use Rattle.src_tree.specs.declared.expr.ExprKind.{ExprKind}
use Rattle.src_tree.specs.declared.expr.ExprKind as E
use Rattle.c_check_scope.specs.declared.operation.Node.{Node}
use Rattle.c_check_scope.specs.declared.operation.Node.TheVariants as N
use Rattle.c_check_scope.specs.declared.operation.Operation.{Operation}
use Rattle.c_check_scope.specs.Kinds.{is_scalar}
use Rattle.c_check_scope.specs.Operands.{promoted_type, joined}
use Rattle.c_check_scope.specs.Operations.{int_type, operation_of}
use Rattle.c_check_scope.specs.Conversions.{casts}
use Rattle.c_check_expr.specs.declared.denoted.Denoted.{Denoted}
use Rattle.c_check_expr.specs.declared.denoted.Denoted.TheVariants as D
use Rattle.c_check_expr.specs.declared.operators.Branches.{Branches}
use Rattle.c_check_scope.specs.declared.rule.Rule.TheVariants.{Operands, Condition, Cast}
use Rattle.c_check_scope.specs.Rules.{Checked, both, only}
use Rattle.c_check_expr.specs.Denoted.{type_at, number, value, valued, converted, operand, is_null}

abbrev pub result_of : ℕ → ExprKind → Checked Denoted
result_of ty kind = Ok (D.Value (value ty kind))

abbrev pub promoted_to : Parts → UnaryOperator → TypedExpr → Option Ty → Checked Denoted
promoted_to p op e None = Err (only Operands)
promoted_to p op e (Some ty) = result_of (number p ty) (E.Unary op (converted (number p ty) e))

-- `- e` and `~ e`, in the promoted type
unfoldable pub promotion : Parts → UnaryOperator → Checked Denoted → Checked Denoted
promotion p op d = then_do (valued p d) (λ e. promoted_to p op e (promoted_type (type_at p e.ty)))

-- `! e` of a scalar, an int
unfoldable pub inverted : Parts → Checked Denoted → Checked Denoted
inverted p d =
    then_do (valued p d) (λ e. if is_scalar (type_at p e.ty) then result_of (number p int_type) (E.Unary Not e) else Err (only Operands))

abbrev pub node_of : Node → TypedExpr → TypedExpr → ExprKind
node_of (N.Binary op) a b = E.Binary op a b
node_of (N.Logical op) a b = E.Logical op a b

-- the operands in the types that the operation asks for
unfoldable pub work : Parts → Operation → TypedExpr → TypedExpr → TypedExpr
work p o a b =
    value (number p o.result) (node_of o.node (converted (number p o.left) a) (converted (number p o.right) b))

unfoldable pub operation_node : Parts → Option Operation → TypedExpr → TypedExpr → Checked Denoted
operation_node p None a b = Err (only Operands)
operation_node p (Some o) a b = Ok (D.Value (work p o a b))

abbrev pub operated_on : Parts → BinaryOperator → Bool → Bool → TypedExpr → TypedExpr → Checked Denoted
operated_on p op m n a b = operation_node p (operation_of op (operand p a m) (operand p b n)) a b

unfoldable pub operated : Parts → BinaryOperator → Checked Denoted → Checked Denoted → Checked Denoted
operated p op a b =
    then_do (both (valued p a) (valued p b)) (λ x. operated_on p op (is_null a) (is_null b) x.0 x.1)

abbrev pub cast_to : Parts → ℕ → TypedExpr → Checked Denoted
cast_to p t e = if casts (type_at p e.ty) (type_at p t) then result_of t (E.Cast e) else Err (only Cast)

unfoldable pub cast : Parts → Checked ℕ → Checked Denoted → Checked Denoted
cast p ty d = then_do (both ty (valued p d)) (λ x. cast_to p x.0 x.1)

-- a condition is a scalar
unfoldable pub scalar : Parts → Checked TypedExpr → Checked TypedExpr
scalar p e = then_do e (λ v. if is_scalar (type_at p v.ty) then Ok v else Err (only Condition))

abbrev pub meet_in : Parts → TypedExpr → TypedExpr → Option Ty → Checked Branches
meet_in p a b None = Err (only Operands)
meet_in p a b (Some ty) =
    Ok (record { ty = number p ty; yes = converted (number p ty) a; no = converted (number p ty) b })

-- both branches in one type
unfoldable pub meet : Parts → Checked Denoted → Checked Denoted → Checked Branches
meet p a b =
    then_do (both (valued p a) (valued p b)) (λ x. meet_in p x.0 x.1 (joined (operand p x.0 (is_null a)) (operand p x.1 (is_null b))))

unfoldable pub conditional : Parts → Checked Denoted → Checked Denoted → Checked Denoted → Checked Denoted
conditional p c a b =
    then_do (both (scalar p (valued p c)) (meet p a b)) (λ x. result_of x.1.ty (E.Conditional x.0 x.1.yes x.1.no))
