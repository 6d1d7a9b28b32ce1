-- Expressions whose value the text alone decides: constants of integers, null, and addresses of globals and functions.
use Rattle.std.specs.Prelude.{ℕ, Bool, true, false, ◌&&◌, ◌||◌, if◌then◌else◌, ℤ, Option, Some, None, Ok, Err}
use Rattle.lu_spec.specs.Then.{then_do}
use Rattle.lu_base.specs.declared.trap.Trap.TheVariants.{BadCode}
use Rattle.c_types.specs.declared.parts.Parts.{Parts}
use Rattle.c_types.specs.declared.parts.IntKind.{IntKind}
use Rattle.src_tree.specs.declared.value.Value as V
use Rattle.src_meaning.specs.declared.constant.Constant.{Constant}
use Rattle.src_meaning.specs.declared.constant.Constant.TheVariants as C
use Rattle.src_tree.specs.declared.expr.TypedExpr.{TypedExpr}
use Rattle.src_tree.specs.declared.expr.BinaryOperator.{BinaryOperator}
use Rattle.src_tree.specs.declared.expr.BinaryOperator.TheVariants.{PointerAdd, AddPointer, PointerSubtract, PointerDifference}
use Rattle.src_tree.specs.declared.expr.ExprKind.{ExprKind, Number, SizeOf, Function, AddressOf', Decay', Cast', Convert', Unary', Binary', Logical', Conditional', Row_of-TypedExpr, end_of-TypedExpr, more_of-TypedExpr}
use Rattle.src_tree.specs.declared.expr.PlaceKind.{PlaceKind, Global, Row_of-TypedPlace, end_of-TypedPlace, more_of-TypedPlace}
use Rattle.src_meaning.specs.Integers.{is_zero}
use Rattle.src_meaning.specs.Objects.{Gives}
use Rattle.src_meaning.specs.Operators.{kind_in}
use Rattle.src_meaning.specs.Expression.{Scope, value_of}
use Rattle.src_meaning.specs.ValidTypes.{ty, is_integer, is_int, is_pointer}

-- the kind of an integer type
abbrev pub kind_at : Parts → ℕ → Option IntKind
kind_at p t = kind_in (ty p t)

abbrev pub takes_integers : BinaryOperator → Bool
takes_integers PointerAdd = false
takes_integers AddPointer = false
takes_integers PointerSubtract = false
takes_integers PointerDifference = false
takes_integers _ = true

abbrev mutual
  -- an expression of numbers, characters, `sizeof`, casts, conversions and operators, each node of an integer type
  pub is_integer_constant : Parts → ℕ → ExprKind → Bool
  is_integer_constant p t (Number z) = is_integer (ty p t)
  is_integer_constant p t (SizeOf u) = is_integer (ty p t)
  is_integer_constant p t (Cast' m e) = is_integer (ty p t) && is_integer_row p e
  is_integer_constant p t (Convert' m e) = is_integer (ty p t) && is_integer_row p e
  is_integer_constant p t (Unary' op m e) = is_integer (ty p t) && is_integer_row p e
  is_integer_constant p t (Binary' op m a n b) =
      is_integer (ty p t) && takes_integers op && is_integer_row p a && is_integer_row p b
  is_integer_constant p t (Logical' op m a n b) = is_integer (ty p t) && is_integer_row p a && is_integer_row p b
  is_integer_constant p t (Conditional' m c n a k b) =
      is_integer (ty p t) && is_integer_row p c && is_integer_row p a && is_integer_row p b
  is_integer_constant p t _ = false

  pub is_integer_row : {m : _} → Parts → Row_of-TypedExpr m → Bool
  is_integer_row p end_of-TypedExpr = false
  is_integer_row p (more_of-TypedExpr t kind rest) = is_integer_constant p t kind

-- the literal 0, an int
abbrev pub is_zero_literal : Parts → ℕ → ExprKind → Bool
is_zero_literal p t (Number z) = is_int (ty p t) && is_zero z
is_zero_literal p t _ = false

abbrev pub is_zero_row : {m : _} → Parts → Row_of-TypedExpr m → Bool
is_zero_row p end_of-TypedExpr = false
is_zero_row p (more_of-TypedExpr t kind rest) = is_zero_literal p t kind

-- the literal 0 as a pointer
abbrev pub is_null_constant : Parts → ℕ → ExprKind → Bool
is_null_constant p t (Convert' m e) = is_pointer (ty p t) && is_zero_row p e
is_null_constant p t _ = false

abbrev pub is_global : PlaceKind → Bool
is_global (Global g) = true
is_global _ = false

abbrev pub is_global_row : {m : _} → Row_of-TypedPlace m → Bool
is_global_row end_of-TypedPlace = false
is_global_row (more_of-TypedPlace t kind rest) = is_global kind

-- `&` of a global, a global array as a pointer, or the name of a function
abbrev pub is_address_constant : ExprKind → Bool
is_address_constant (AddressOf' m e) = is_global_row e
is_address_constant (Decay' m e) = is_global_row e
is_address_constant (Function f) = true
is_address_constant _ = false

abbrev pub is_constant : Parts → ℕ → ExprKind → Bool
is_constant p t e = is_integer_constant p t e || (is_null_constant p t e || is_address_constant e)

-- the value of a constant; any other expression gives none
abbrev pub constant_value : Scope → TypedExpr → Gives V.Value
constant_value at e = if is_constant at.types e.ty e.kind then value_of at e.ty e.kind else Err BadCode

-- the value for which an evaluated constant stands
abbrev pub as_value : Constant → V.Value
as_value (C.Int z) = V.Int z
as_value C.Null = V.Null
as_value (C.Start g) = V.Pointer g 0
as_value (C.Function f) = V.Function f

abbrev pub evaluated : Option Constant → Option V.Value
evaluated None = None
evaluated (Some c) = Some (as_value c)

-- an integer as a value
abbrev pub int_value : Gives ℤ → Gives V.Value
int_value r = then_do r (λ z. Ok (V.Int z))

abbrev pub if_ok : {A : Type 0} → Gives A → Option A
if_ok (Ok a) = Some a
if_ok (Err t) = None
