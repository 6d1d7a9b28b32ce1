-- Expressions and places as the rules type them. `Declarations` has what they may name.
use Rattle.std.specs.Prelude.{ℕ, ◌-◌, ◌^◌, Bool, true, false, ◌&&◌, ◌||◌, not, nat_eq, nat_lt, ℤ, pos, negsuc, List, [], ◌∷◌, length, Option, Some, None, slice_get}
use Rattle.std.specs.Option.{option_map_or}
use Rattle.c_types.specs.declared.parts.IntKind.{IntKind}
use Rattle.c_types.specs.declared.parts.IntKind.TheVariants as K
use Rattle.c_types.specs.declared.parts.Ty.{Ty}
use Rattle.c_types.specs.declared.parts.Ty.TheVariants as T
use Rattle.c_types.specs.declared.parts.Parts.{Parts}
use Rattle.c_types.specs.Numbering.{is_array}
use Rattle.src_tree.specs.declared.expr.UnaryOperator.{UnaryOperator}
use Rattle.src_tree.specs.declared.expr.UnaryOperator.TheVariants.{Minus, Complement, Not}
use Rattle.src_tree.specs.declared.expr.BinaryOperator.{BinaryOperator}
use Rattle.src_tree.specs.declared.expr.BinaryOperator.TheVariants.{Add, Subtract, Multiply, Divide, Remainder, BitAnd, BitXor, BitOr, ShiftLeft, ShiftRight, Less, LessEqual, Greater, GreaterEqual, Equal, NotEqual, PointerAdd, AddPointer, PointerSubtract, PointerDifference}
use Rattle.src_tree.specs.declared.expr.TypedExpr.{TypedExpr}
use Rattle.src_tree.specs.declared.expr.TypedPlace.{TypedPlace}
use Rattle.src_tree.specs.declared.expr.ExprKind.{ExprKind, Number, SizeOf, Local, Function as Function_name, Load', AddressOf', Decay', Cast', Convert', Unary', Binary', Logical', Conditional', Row_of-TypedExpr, end_of-TypedExpr, more_of-TypedExpr}
use Rattle.src_tree.specs.declared.expr.PlaceKind.{PlaceKind, Global, Deref', Arrow', Item', Element', Field', Member', Row_of-TypedPlace, end_of-TypedPlace, more_of-TypedPlace}
use Rattle.src_tree.specs.declared.program.Program.{Program}
use Rattle.src_meaning.specs.Expression.{expr_type, place_type}
use Rattle.src_meaning.specs.Constant.{is_zero_row}
use Rattle.src_meaning.specs.Store.{is_function}
use Rattle.src_meaning.specs.ValidTypes.{ty, is_int, is_unsigned_int, is_long_long, is_wide, is_promoted, is_object_pointer, is_ordered, is_comparable, is_scalar, is_pointer, is_array_of, points_to, is_decayed, is_field_of, is_member_of, converts, casts, is_named}

-- a program, and of one of its functions the types of the parameters and of the locals
pub record Declarations : Type 0 where
  pub program : Program
  pub params : List ℕ
  pub locals : List ℕ

abbrev pub local_behind : List ℕ → ℕ → Option ℕ → Option ℕ
local_behind locals x None = slice_get locals x
local_behind locals x (Some t) = Some t

-- the type of a parameter or a local by its number: the parameters come first
abbrev pub local_type : Declarations → ℕ → Option ℕ
local_type at x = local_behind at.locals (x - length at.params) (slice_get at.params x)

-- the numbers of a kind that a text can write
abbrev pub number_limit : IntKind → ℕ
number_limit K.Int = 2 ^ 31
number_limit K.UInt = 2 ^ 32
number_limit K.LongLong = 2 ^ 63
number_limit K.ULongLong = 2 ^ 64
number_limit _ = 0

abbrev pub is_below : ℤ → ℕ → Bool
is_below (pos n) limit = nat_lt n limit
is_below (negsuc n) limit = false

-- a number that a text can write, of a type that holds it
abbrev pub is_number : Option Ty → ℤ → Bool
is_number (Some (T.Int kind)) z = is_below z (number_limit kind)
is_number _ z = false

-- a function of exactly the pointer's type
abbrev pub is_function_name : Program → Option Ty → ℕ → Bool
is_function_name p (Some (T.Function g)) f = is_function p g f
is_function_name p _ f = false

abbrev pub unary_fits : Parts → ℕ → UnaryOperator → ℕ → Bool
unary_fits p t Not a = is_int (ty p t) && is_scalar (ty p a)
unary_fits p t op a = is_promoted (ty p t) && nat_eq a t

-- arithmetic in one promoted type
abbrev pub arithmetic_fits : Parts → ℕ → ℕ → ℕ → Bool
arithmetic_fits p t a b = is_promoted (ty p t) && (nat_eq a t && nat_eq b t)

-- a shift has the type of its left operand
abbrev pub shift_fits : Parts → ℕ → ℕ → ℕ → Bool
shift_fits p t a b = is_promoted (ty p t) && (nat_eq a t && is_promoted (ty p b))

abbrev pub order_fits : Parts → ℕ → ℕ → ℕ → Bool
order_fits p t a b = is_int (ty p t) && (nat_eq a b && is_ordered (ty p a))

abbrev pub equality_fits : Parts → ℕ → ℕ → ℕ → Bool
equality_fits p t a b = is_int (ty p t) && (nat_eq a b && is_comparable (ty p a))

-- a pointer of the node's type, moved by a long long
abbrev pub move_fits : Parts → ℕ → ℕ → ℕ → Bool
move_fits p t pointer addend = is_object_pointer (ty p t) && (nat_eq pointer t && is_long_long (ty p addend))

abbrev pub difference_fits : Parts → ℕ → ℕ → ℕ → Bool
difference_fits p t a b = is_int (ty p t) && (nat_eq a b && is_object_pointer (ty p a))

-- an operator at a node of type t fits operands of the types a and b
abbrev pub binary_fits : Parts → ℕ → BinaryOperator → ℕ → ℕ → Bool
binary_fits p t Add a b = arithmetic_fits p t a b
binary_fits p t Subtract a b = arithmetic_fits p t a b
binary_fits p t Multiply a b = arithmetic_fits p t a b
binary_fits p t Divide a b = arithmetic_fits p t a b
binary_fits p t Remainder a b = arithmetic_fits p t a b
binary_fits p t BitAnd a b = arithmetic_fits p t a b
binary_fits p t BitXor a b = arithmetic_fits p t a b
binary_fits p t BitOr a b = arithmetic_fits p t a b
binary_fits p t ShiftLeft a b = shift_fits p t a b
binary_fits p t ShiftRight a b = shift_fits p t a b
binary_fits p t Less a b = order_fits p t a b
binary_fits p t LessEqual a b = order_fits p t a b
binary_fits p t Greater a b = order_fits p t a b
binary_fits p t GreaterEqual a b = order_fits p t a b
binary_fits p t Equal a b = equality_fits p t a b
binary_fits p t NotEqual a b = equality_fits p t a b
binary_fits p t PointerAdd a b = move_fits p t a b
binary_fits p t AddPointer a b = move_fits p t b a
binary_fits p t PointerSubtract a b = move_fits p t a b
binary_fits p t PointerDifference a b = difference_fits p t a b

abbrev pub conditional_fits : Parts → ℕ → ℕ → ℕ → ℕ → Bool
conditional_fits p t c a b = is_scalar (ty p c) && (nat_eq a t && (nat_eq b t && is_comparable (ty p t)))

-- a conversion of the type a that the text doesn't write; the literal 0 converts to any pointer
abbrev pub convert_fits : Parts → ℕ → ℕ → Bool → Bool
convert_fits p t a is_zero = converts (ty p a) (ty p t) || (is_pointer (ty p t) && is_zero)

abbrev mutual
  -- a place that isn't inside a union
  pub is_outside : PlaceKind → Bool
  is_outside (Element' m a n i) = is_outside_row a
  is_outside (Field' m e k) = is_outside_row e
  is_outside (Member' m e k) = false
  is_outside _ = true

  pub is_outside_row : {m : _} → Row_of-TypedPlace m → Bool
  is_outside_row end_of-TypedPlace = false
  is_outside_row (more_of-TypedPlace t kind rest) = is_outside kind

abbrev pub logical_fits : Parts → ℕ → ℕ → ℕ → Bool
logical_fits p t a b = is_int (ty p t) && (is_scalar (ty p a) && is_scalar (ty p b))

abbrev pub cast_fits : Parts → ℕ → ℕ → Bool
cast_fits p t a = casts (ty p a) (ty p t) && is_named p t

-- what stands at a place of type a, which is no array
abbrev pub load_fits : Parts → ℕ → ℕ → Bool
load_fits p t a = nat_eq a t && not (is_array (ty p t))

-- a pointer to a place of type a, which is no array
abbrev pub address_fits : Parts → ℕ → ℕ → Bool
address_fits p t a = points_to (ty p t) a && not (is_array (ty p a))

abbrev pub decay_fits : Parts → ℕ → ℕ → Bool
decay_fits p t a = is_decayed (ty p a) (ty p t)

-- `p[i]` of a pointer, and `a[i]` of an array
abbrev pub item_fits : Parts → ℕ → ℕ → ℕ → Bool
item_fits p t pointer index = points_to (ty p pointer) t && is_long_long (ty p index)

abbrev pub element_fits : Parts → ℕ → ℕ → ℕ → Bool
element_fits p t array index = is_array_of (ty p array) t && is_long_long (ty p index)

abbrev mutual
  -- an expression of type t
  pub is_expr : Declarations → ℕ → ExprKind → Bool
  is_expr at t (Number z) = is_number (ty at.program.types t) z
  is_expr at t (SizeOf u) = is_unsigned_int (ty at.program.types t) && is_named at.program.types u
  is_expr at t (Local x) = option_map_or (nat_eq t) (local_type at x) false
  is_expr at t (Function_name f) = is_function_name at.program (ty at.program.types t) f
  is_expr at t (Load' m e) = is_place_row at e && load_fits at.program.types t (place_type e)
  is_expr at t (AddressOf' m e) = is_place_row at e && (is_outside_row e && address_fits at.program.types t (place_type e))
  is_expr at t (Decay' m e) = is_place_row at e && (is_outside_row e && decay_fits at.program.types t (place_type e))
  is_expr at t (Cast' m e) = is_expr_row at e && cast_fits at.program.types t (expr_type e)
  is_expr at t (Convert' m e) = is_expr_row at e && convert_fits at.program.types t (expr_type e) (is_zero_row at.program.types e)
  is_expr at t (Unary' op m e) = is_expr_row at e && unary_fits at.program.types t op (expr_type e)
  is_expr at t (Binary' op m a n b) =
      is_expr_row at a && (is_expr_row at b && binary_fits at.program.types t op (expr_type a) (expr_type b))
  is_expr at t (Logical' op m a n b) =
      is_expr_row at a && (is_expr_row at b && logical_fits at.program.types t (expr_type a) (expr_type b))
  is_expr at t (Conditional' m c n a k b) =
      is_expr_row at c && (is_expr_row at a && (is_expr_row at b && conditional_fits at.program.types t (expr_type c) (expr_type a) (expr_type b)))

  pub is_expr_row : {m : _} → Declarations → Row_of-TypedExpr m → Bool
  is_expr_row at end_of-TypedExpr = false
  is_expr_row at (more_of-TypedExpr t kind rest) = is_expr at t kind

  -- a place of type t
  pub is_place : Declarations → ℕ → PlaceKind → Bool
  is_place at t (Global g) = option_map_or (λ d. nat_eq d.ty t) (slice_get at.program.globals g) false
  is_place at t (Deref' m e) = is_expr_row at e && points_to (ty at.program.types (expr_type e)) t
  is_place at t (Arrow' m e) = is_expr_row at e && points_to (ty at.program.types (expr_type e)) t
  is_place at t (Item' m p n i) =
      is_expr_row at p && (is_expr_row at i && item_fits at.program.types t (expr_type p) (expr_type i))
  is_place at t (Element' m a n i) =
      is_place_row at a && (is_expr_row at i && element_fits at.program.types t (place_type a) (expr_type i))
  is_place at t (Field' m e k) = is_place_row at e && is_field_of at.program.types (ty at.program.types (place_type e)) k t
  is_place at t (Member' m e k) = is_place_row at e && is_member_of at.program.types (ty at.program.types (place_type e)) k t

  pub is_place_row : {m : _} → Declarations → Row_of-TypedPlace m → Bool
  is_place_row at end_of-TypedPlace = false
  is_place_row at (more_of-TypedPlace t kind rest) = is_place at t kind

-- a place that can be assigned
abbrev pub is_target : Declarations → TypedPlace → Bool
is_target at e = is_place at e.ty e.kind && not (is_array (ty at.program.types e.ty))

abbrev pub is_read_outside : ExprKind → Bool
is_read_outside (Load' m e) = is_outside_row e
is_read_outside _ = false

-- a value that can be assigned to the type t: a scalar, or a struct or union that is read at a place outside unions
abbrev pub is_assignable : Declarations → ℕ → TypedExpr → Bool
is_assignable at t e =
    is_expr at e.ty e.kind && (nat_eq e.ty t && (is_scalar (ty at.program.types t) || is_read_outside e.kind))

-- a condition
abbrev pub is_condition : Declarations → TypedExpr → Bool
is_condition at e = is_expr at e.ty e.kind && is_scalar (ty at.program.types e.ty)
