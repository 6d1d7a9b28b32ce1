-- What an expression denotes, and its value.
use Rattle.std.specs.Prelude.{ℕ, nat_eq, pos, Bool, true, false, Option, Some, None, Ok, Err, slice_get, if◌then◌else◌}
use Rattle.lu_spec.specs.Then.{then_do}
use Rattle.c_types.specs.declared.parts.Ty.{Ty}
use Rattle.c_types.specs.declared.parts.Ty.TheVariants as T
use Rattle.c_types.specs.declared.parts.Parts.{Parts}
use Rattle.src_tree.specs.declared.expr.TypedExpr.{TypedExpr}
use Rattle.src_tree.specs.declared.expr.TypedPlace.{TypedPlace}
use Rattle.src_tree.specs.declared.expr.ExprKind.{ExprKind}
use Rattle.src_tree.specs.declared.expr.ExprKind as E
use Rattle.c_check_scope.specs.declared.operand.Operand.{Operand}
use Rattle.c_check_scope.specs.Numbers.{number_of}
use Rattle.c_check_scope.specs.Kinds.{element_of}
use Rattle.c_check_scope.specs.Operations.{int_type}
use Rattle.c_check_expr.specs.declared.denoted.Denoted.{Denoted}
use Rattle.c_check_expr.specs.declared.denoted.Denoted.TheVariants as D
use Rattle.c_check_scope.specs.declared.rule.Rule.TheVariants.{NoAddress, BuiltIn}
use Rattle.c_check_scope.specs.Rules.{Checked, only}

abbrev pub ty_in : Option Ty → Ty
ty_in None = int_type
ty_in (Some ty) = ty

-- the type of a number; int where there is no such type
unfoldable pub type_at : Parts → ℕ → Ty
type_at p t = ty_in (slice_get p.types t)

-- the number of a type
abbrev pub number : Parts → Ty → ℕ
number p ty = number_of p.types ty

abbrev pub value : ℕ → ExprKind → TypedExpr
value ty kind = record { ty = ty; kind = kind }

abbrev pub loaded_as : Parts → TypedPlace → Bool → Option ℕ → Checked TypedExpr
loaded_as p q inside None = Ok (value q.ty (E.Load q))
loaded_as p q inside (Some t) =
    if inside then Err (only NoAddress) else Ok (value (number p (T.Pointer t)) (E.Decay q))

-- what stands at a place, or of an array the address of its element 0, which isn't taken inside a union
unfoldable pub loaded : Parts → TypedPlace → Bool → Checked TypedExpr
loaded p q inside = loaded_as p q inside (element_of (type_at p q.ty))

-- what is denoted as a value
unfoldable pub value_of : Parts → Denoted → Checked TypedExpr
value_of p D.Null = Ok (value (number p int_type) (E.Number (pos 0)))
value_of p (D.Local k t) = Ok (value t (E.Local k))
value_of p (D.Function f g) = Ok (value (number p (T.Function g)) (E.Function f))
value_of p (D.BuiltIn which) = Err (only BuiltIn)
value_of p (D.Place q inside) = loaded p q inside
value_of p (D.Value e) = Ok e

unfoldable pub valued : Parts → Checked Denoted → Checked TypedExpr
valued p d = then_do d (value_of p)

-- a value in a type: without a node where it has that type
unfoldable pub converted : ℕ → TypedExpr → TypedExpr
converted ty e = if nat_eq e.ty ty then e else value ty (E.Convert e)

-- what rules on operands ask of a value
unfoldable pub operand : Parts → TypedExpr → Bool → Operand
operand p e is_null = record { ty = type_at p e.ty; is_null = is_null }

-- whether the literal 0 is denoted
unfoldable pub is_null : Checked Denoted → Bool
is_null (Ok D.Null) = true
is_null _ = false
