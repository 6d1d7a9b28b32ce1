-- What a binary operator takes: the types to which it converts its operands, and the type of its result.
use Rattle.std.specs.Prelude.{ℕ, nat_eq, Bool, true, false, ◌&&◌, Option, Some, None, if◌then◌else◌}
use Rattle.std.specs.Option.{option_map}
use Rattle.lu_spec.specs.Then.{then_option}
use Rattle.c_types.specs.declared.parts.IntKind.TheVariants.{Int as Int_kind, LongLong}
use Rattle.c_types.specs.declared.parts.Ty.{Ty}
use Rattle.c_types.specs.declared.parts.Ty.TheVariants.{Int, Pointer}
use Rattle.c_ast.specs.declared.expr.BinaryOperator.{BinaryOperator}
use Rattle.c_ast.specs.declared.expr.BinaryOperator.TheVariants as A
use Rattle.src_tree.specs.declared.expr.BinaryOperator.{BinaryOperator as Node_operator}
use Rattle.src_tree.specs.declared.expr.BinaryOperator.TheVariants as M
use Rattle.src_tree.specs.declared.expr.LogicalOperator.{LogicalOperator}
use Rattle.src_tree.specs.declared.expr.LogicalOperator.TheVariants as L
use Rattle.c_check_scope.specs.declared.operand.Operand.{Operand}
use Rattle.c_check_scope.specs.declared.operation.Node.{Node}
use Rattle.c_check_scope.specs.declared.operation.Node.TheVariants.{Binary, Logical}
use Rattle.c_check_scope.specs.declared.operation.Operation.{Operation}
use Rattle.c_check_scope.specs.Kinds.{is_scalar}
use Rattle.c_check_scope.specs.Operands.{promoted_type, common_type, compared, ordered}

abbrev pub int_type : Ty
int_type = Int Int_kind

abbrev pub long_type : Ty
long_type = Int LongLong

unfoldable pub works : Node_operator → Ty → Ty → Ty → Operation
works op left right result = record { node = Binary op; left = left; right = right; result = result }

-- `* / % & ^ |`, and `+ -` of integers
unfoldable pub arithmetic : Node_operator → Ty → Ty → Option Operation
arithmetic op a b = option_map (λ t. works op t t t) (common_type a b)

-- each operand is promoted by itself, and the result has the left one's type
unfoldable pub shift : Node_operator → Ty → Ty → Option Operation
shift op a b = then_option (promoted_type a) (λ l. then_option (promoted_type b) (λ r. Some (works op l r l)))

-- two integers, or a pointer to an object and an integer in either order
unfoldable pub sum : Ty → Ty → Option Operation
sum (Pointer t) (Int k) = Some (works M.PointerAdd (Pointer t) long_type (Pointer t))
sum (Int k) (Pointer t) = Some (works M.AddPointer long_type (Pointer t) (Pointer t))
sum a b = arithmetic M.Add a b

-- two integers, a pointer to an object and an integer, or two pointers to objects of one type
unfoldable pub difference : Ty → Ty → Option Operation
difference (Pointer t) (Int k) = Some (works M.PointerSubtract (Pointer t) long_type (Pointer t))
difference (Pointer t) (Pointer u) =
    if nat_eq t u then Some (works M.PointerDifference (Pointer t) (Pointer t) int_type) else None
difference a b = arithmetic M.Subtract a b

-- both operands in the type in which they meet, if any, and an int as the result
unfoldable pub comparison : Node_operator → Option Ty → Option Operation
comparison op meets = option_map (λ t. works op t t int_type) meets

-- two scalars as they are
unfoldable pub logic : LogicalOperator → Ty → Ty → Option Operation
logic op a b =
    if is_scalar a && is_scalar b then Some (record { node = Logical op; left = a; right = b; result = int_type }) else None

-- none where the operands don't fit
unfoldable pub operation_of : BinaryOperator → Operand → Operand → Option Operation
operation_of A.Multiply a b = arithmetic M.Multiply a.ty b.ty
operation_of A.Divide a b = arithmetic M.Divide a.ty b.ty
operation_of A.Remainder a b = arithmetic M.Remainder a.ty b.ty
operation_of A.Add a b = sum a.ty b.ty
operation_of A.Subtract a b = difference a.ty b.ty
operation_of A.ShiftLeft a b = shift M.ShiftLeft a.ty b.ty
operation_of A.ShiftRight a b = shift M.ShiftRight a.ty b.ty
operation_of A.Less a b = comparison M.Less (ordered a.ty b.ty)
operation_of A.LessEqual a b = comparison M.LessEqual (ordered a.ty b.ty)
operation_of A.Greater a b = comparison M.Greater (ordered a.ty b.ty)
operation_of A.GreaterEqual a b = comparison M.GreaterEqual (ordered a.ty b.ty)
operation_of A.Equal a b = comparison M.Equal (compared a b)
operation_of A.NotEqual a b = comparison M.NotEqual (compared a b)
operation_of A.BitAnd a b = arithmetic M.BitAnd a.ty b.ty
operation_of A.BitXor a b = arithmetic M.BitXor a.ty b.ty
operation_of A.BitOr a b = arithmetic M.BitOr a.ty b.ty
operation_of A.And a b = logic L.And a.ty b.ty
operation_of A.Or a b = logic L.Or a.ty b.ty
