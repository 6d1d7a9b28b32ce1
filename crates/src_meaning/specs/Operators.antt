-- What operators and conversions give of values. Where the operands aren't of the operator's types, BadCode:
-- no valid program comes there.
use Rattle.std.specs.Prelude.{ℕ, zero, Bool, true, false, not, ℤ, pos, negsuc, ◌+ℤ◌, ◌-ℤ◌, ◌*ℤ◌, neg_ℤ, bit_and, bit_or, bit_xor, Option, Some, None, Ok, Err, slice_get}
use Rattle.lu_spec.specs.Then.{then_do}
use Rattle.lu_base.specs.declared.trap.Trap.TheVariants.{BadCode}
use Rattle.c_types.specs.declared.parts.Parts.{Parts}
use Rattle.c_types.specs.declared.parts.IntKind.{IntKind}
use Rattle.c_types.specs.declared.parts.Ty.{Ty}
use Rattle.c_types.specs.declared.parts.Ty.TheVariants as T
use Rattle.c_types.specs.Layout.{size_of}
use Rattle.src_tree.specs.declared.value.Value.{Value, Int, Null, Pointer, Function}
use Rattle.src_tree.specs.declared.value.Store.{Store}
use Rattle.src_tree.specs.declared.expr.UnaryOperator.{UnaryOperator}
use Rattle.src_tree.specs.declared.expr.UnaryOperator.TheVariants.{Minus, Complement, Not}
use Rattle.src_tree.specs.declared.expr.BinaryOperator.{BinaryOperator}
use Rattle.src_tree.specs.declared.expr.BinaryOperator.TheVariants.{Add, Subtract, Multiply, Divide, Remainder, BitAnd, BitXor, BitOr, ShiftLeft, ShiftRight, Less, LessEqual, Greater, GreaterEqual, Equal, NotEqual, PointerAdd, AddPointer, PointerSubtract, PointerDifference}
use Rattle.src_meaning.specs.Integers.{wrapped, flag, quotient, remainder, on_bits, shifted_left, shifted_right}
use Rattle.src_meaning.specs.Objects.{Gives, or_trap}
use Rattle.src_meaning.specs.Pointers.{moved, are_equal, is_less, difference}

abbrev pub int_of : Value → Gives ℤ
int_of (Int z) = Ok z
int_of _ = Err BadCode

-- what f gives of an integer
abbrev pub with_int : {A : Type 0} → Value → (ℤ → Gives A) → Gives A
with_int v f = then_do (int_of v) f

-- whether a condition holds: an integer other than zero, or a pointer other than null
abbrev pub is_true : Value → Gives Bool
is_true (Int (pos zero)) = Ok false
is_true (Int z) = Ok true
is_true Null = Ok false
is_true (Pointer o k) = Ok true
is_true (Function f) = Ok true
is_true _ = Err BadCode

abbrev pub kind_in : Option Ty → Option IntKind
kind_in (Some (T.Int kind)) = Some kind
kind_in _ = None

-- what f gives of the kind of an integer type
abbrev pub with_kind : {A : Type 0} → Parts → ℕ → (IntKind → Gives A) → Gives A
with_kind p t f = then_do (or_trap BadCode (kind_in (slice_get p.types t))) f

abbrev pub pointed_size : Parts → Option Ty → Option ℕ
pointed_size p (Some (T.Pointer t)) = Some (size_of p t)
pointed_size p _ = None

-- what f gives of the size of the elements to which a pointer type points
abbrev pub with_size : {A : Type 0} → Parts → ℕ → (ℕ → Gives A) → Gives A
with_size p t f = then_do (or_trap BadCode (pointed_size p (slice_get p.types t))) f

-- a scalar of a pointer type: the integer zero is null
abbrev pub as_pointer : Value → Gives Value
as_pointer (Int (pos zero)) = Ok Null
as_pointer Null = Ok Null
as_pointer (Pointer o k) = Ok (Pointer o k)
as_pointer (Function f) = Ok (Function f)
as_pointer _ = Err BadCode

abbrev pub converted_to : Option Ty → Value → Gives Value
converted_to (Some (T.Int kind)) v = with_int v (λ z. Ok (Int (wrapped kind z)))
converted_to (Some (T.Pointer t)) v = as_pointer v
converted_to (Some T.VoidPointer) v = as_pointer v
converted_to (Some (T.Function g)) v = as_pointer v
converted_to _ v = Err BadCode

-- a value converted to a scalar type
abbrev pub converted : Parts → ℕ → Value → Gives Value
converted p t v = converted_to (slice_get p.types t) v

abbrev pub flagged : Gives Bool → Gives Value
flagged r = then_do r (λ b. Ok (Int (flag b)))

abbrev pub negated : Gives Bool → Gives Bool
negated r = then_do r (λ b. Ok (not b))

abbrev pub unary : Parts → ℕ → UnaryOperator → Value → Gives Value
unary p t Minus v = with_kind p t (λ kind. with_int v (λ z. Ok (Int (wrapped kind (neg_ℤ z)))))
unary p t Complement v = with_kind p t (λ kind. with_int v (λ z. Ok (Int (wrapped kind (negsuc 0 -ℤ z)))))
unary p t Not v = flagged (negated (is_true v))

-- an operator on two integers, with a result of type t
abbrev pub on_ints : Parts → ℕ → Value → Value → (IntKind → ℤ → ℤ → Gives ℤ) → Gives Value
on_ints p t v w f =
    with_kind p t (λ kind. with_int v (λ a. with_int w (λ b. then_do (f kind a b) (λ z. Ok (Int z)))))

-- a binary operator at a node of type t, whose left operand has type s
abbrev pub binary : Parts → Store → ℕ → ℕ → BinaryOperator → Value → Value → Gives Value
binary p store t s Add v w = on_ints p t v w (λ kind a b. Ok (wrapped kind (a +ℤ b)))
binary p store t s Subtract v w = on_ints p t v w (λ kind a b. Ok (wrapped kind (a -ℤ b)))
binary p store t s Multiply v w = on_ints p t v w (λ kind a b. Ok (wrapped kind (a *ℤ b)))
binary p store t s Divide v w = on_ints p t v w quotient
binary p store t s Remainder v w = on_ints p t v w remainder
binary p store t s BitAnd v w = on_ints p t v w (λ kind a b. Ok (on_bits bit_and kind a b))
binary p store t s BitXor v w = on_ints p t v w (λ kind a b. Ok (on_bits bit_xor kind a b))
binary p store t s BitOr v w = on_ints p t v w (λ kind a b. Ok (on_bits bit_or kind a b))
binary p store t s ShiftLeft v w = on_ints p t v w shifted_left
binary p store t s ShiftRight v w = on_ints p t v w shifted_right
binary p store t s Less v w = flagged (is_less v w)
binary p store t s LessEqual v w = flagged (negated (is_less w v))
binary p store t s Greater v w = flagged (is_less w v)
binary p store t s GreaterEqual v w = flagged (negated (is_less v w))
binary p store t s Equal v w = flagged (are_equal v w)
binary p store t s NotEqual v w = flagged (negated (are_equal v w))
binary p store t s PointerAdd v w = with_size p t (λ size. with_int w (moved p store size v))
binary p store t s AddPointer v w = with_size p t (λ size. with_int v (moved p store size w))
binary p store t s PointerSubtract v w = with_size p t (λ size. with_int w (λ i. moved p store size v (neg_ℤ i)))
binary p store t s PointerDifference v w = with_size p s (λ size. difference size v w)
