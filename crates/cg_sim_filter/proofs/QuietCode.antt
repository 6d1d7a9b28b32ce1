-- The code of an expression changes nothing but the frame: it writes no bytes, makes and takes away no object, sends nothing and
-- calls nothing.
use Rattle.std.proofs.Common.{◌≡◌, refl, ap, ℕ, ◌+◌, Bool, true, false, ◌&&◌, cond, List, [], ◌∷◌, ◌++◌, length, Option, Some, None}
use Rattle.std.specs.List.{list_all}
use Rattle.c_types.specs.declared.parts.IntKind.{IntKind}
use Rattle.c_types.specs.declared.parts.Parts.{Parts}
use Rattle.c_types.specs.declared.parts.Ty.{Ty}
use Rattle.c_types.specs.declared.parts.Ty.TheVariants as T
use Rattle.src_tree.specs.declared.expr.BinaryOperator.{BinaryOperator}
use Rattle.src_tree.specs.declared.expr.BinaryOperator.TheVariants as O
use Rattle.src_tree.specs.declared.expr.LogicalOperator.{LogicalOperator}
use Rattle.src_tree.specs.declared.expr.LogicalOperator.TheVariants.{And, Or}
use Rattle.src_tree.specs.declared.expr.UnaryOperator.{UnaryOperator}
use Rattle.src_tree.specs.declared.expr.UnaryOperator.TheVariants.{Minus, Complement, Not}
use Rattle.src_tree.specs.declared.expr.TypedExpr.{TypedExpr}
use Rattle.src_tree.specs.declared.expr.ExprKind.{ExprKind, Number, SizeOf, Local, Function as Function_name, Load', AddressOf', Decay', Cast', Convert', Unary', Binary', Logical', Conditional', Row_of-TypedExpr, end_of-TypedExpr, more_of-TypedExpr}
use Rattle.src_tree.specs.declared.expr.PlaceKind.{PlaceKind, Global, Deref', Arrow', Item', Element', Field', Member', Row_of-TypedPlace, end_of-TypedPlace, more_of-TypedPlace}
use Rattle.src_meaning.specs.Expression.{expr_type, place_type}
use Rattle.src_meaning.specs.Integers.{is_signed, bits_of}
use Rattle.src_meaning.specs.ValidTypes.{ty, is_scalar}
use Rattle.bm_isa.specs.declared.instr.Instr.{Instr}
use Rattle.bm_isa.specs.declared.instr.Instr.TheVariants as I
use Rattle.bm_code.specs.declared.operation.Operation.{Operation}
use Rattle.bm_code.specs.declared.operation.Operation.TheVariants.{OnStack, OnWord, OnWords, OnPointers, Reads, Writes, Transfers, Serves}
use Rattle.bm_code.specs.declared.operation.Service.{Service}
use Rattle.bm_code.specs.declared.operation.Service.TheVariants as S
use Rattle.bm_code.specs.declared.operation.Transfer.{Transfer}
use Rattle.bm_code.specs.declared.operation.Transfer.TheVariants as J
use Rattle.bm_code.specs.Kinds.{operation_of}
use Rattle.cg_expr.specs.Pieces.{pointer_size, scalar_number, normal, signed_or, arithmetic, less, unary_first, unary_last, binary_last, logical_first, decided_value, as_flag, field_last, member_last, deref_last, item_last, element_last, element_end_last, element_size}
use Rattle.cg_expr.specs.Sizes.{load_last, row_size, row_place_size}
use Rattle.cg_expr.specs.Code.{Target, choice, expression_code, row_code, place_code, row_place_code, address_code, row_address_code}
use Rattle.cg_stmt.specs.Functions.{filter_code}

abbrev pub is_quiet_jump : Transfer → Bool
is_quiet_jump (J.Jump to) = true
is_quiet_jump (J.JumpIfZero to) = true
is_quiet_jump _ = false

abbrev pub is_quiet_service : Service → Bool
is_quiet_service S.Panic = true
is_quiet_service _ = false

-- works on the frame alone, or traps
abbrev pub is_quiet_operation : Operation → Bool
is_quiet_operation (OnStack o) = true
is_quiet_operation (OnWord o) = true
is_quiet_operation (OnWords o) = true
is_quiet_operation (OnPointers o) = true
is_quiet_operation (Reads o) = true
is_quiet_operation (Writes o) = false
is_quiet_operation (Transfers o) = is_quiet_jump o
is_quiet_operation (Serves o) = is_quiet_service o

abbrev pub is_quiet : Instr → Bool
is_quiet i = is_quiet_operation (operation_of i)

abbrev pub IsQuiet : List Instr → Type 0
IsQuiet is = list_all is_quiet is ≡ true

both : (a b : List Instr) → IsQuiet a → IsQuiet b → IsQuiet (a ++ b)
both [] b h g = g
both (i ∷ a) b h g = by (is_quiet i) h (λ h. both a b h g)
  where
    by : (q : Bool) → q && list_all is_quiet a ≡ true → (IsQuiet a → IsQuiet (a ++ b)) → q && list_all is_quiet (a ++ b) ≡ true
    by true h later = later h
    by false h later = absurd (cc)

all_three : (a b c : List Instr) → IsQuiet a → IsQuiet b → IsQuiet c → IsQuiet (a ++ (b ++ c))
all_three a b c h g k = both a (b ++ c) h (both b c g k)

quiet_normal : (o : Option Ty) → IsQuiet (normal o)
quiet_normal None = refl
quiet_normal (Some (T.Int k)) = refl
quiet_normal (Some (T.Pointer u)) = refl
quiet_normal (Some T.VoidPointer) = refl
quiet_normal (Some (T.Function g)) = refl
quiet_normal (Some (T.Struct n)) = refl
quiet_normal (Some (T.Union n)) = refl
quiet_normal (Some (T.Array u n)) = refl

quiet_signed : (kind : IntKind) (a b : Instr) → is_quiet a ≡ true → is_quiet b ≡ true → is_quiet (signed_or kind a b) ≡ true
quiet_signed kind a b h g = by (is_signed kind)
  where
    by : (s : Bool) → is_quiet (cond s a b) ≡ true
    by true = h
    by false = g

quiet_arithmetic : (o : Option Ty) (f : IntKind → Instr) → ((kind : IntKind) → is_quiet (f kind) ≡ true) → IsQuiet (arithmetic o f)
quiet_arithmetic (Some (T.Int k)) f h = ap (λ b. b && true) (h k)
quiet_arithmetic None f h = refl
quiet_arithmetic (Some (T.Pointer u)) f h = refl
quiet_arithmetic (Some T.VoidPointer) f h = refl
quiet_arithmetic (Some (T.Function g)) f h = refl
quiet_arithmetic (Some (T.Struct n)) f h = refl
quiet_arithmetic (Some (T.Union n)) f h = refl
quiet_arithmetic (Some (T.Array u n)) f h = refl

quiet_less : (o : Option Ty) → is_quiet (less o) ≡ true
quiet_less (Some (T.Int k)) = quiet_signed k I.LessSigned I.LessUnsigned refl refl
quiet_less None = refl
quiet_less (Some (T.Pointer u)) = refl
quiet_less (Some T.VoidPointer) = refl
quiet_less (Some (T.Function g)) = refl
quiet_less (Some (T.Struct n)) = refl
quiet_less (Some (T.Union n)) = refl
quiet_less (Some (T.Array u n)) = refl

quiet_load : (w : ℕ) (o : Option Ty) → IsQuiet (load_last w o)
quiet_load w o = by (is_scalar o)
  where
    by : (b : Bool) → IsQuiet (cond b (I.Load (scalar_number w o) ∷ []) [])
    by true = refl
    by false = refl

quiet_first : (op : UnaryOperator) → IsQuiet (unary_first op)
quiet_first Minus = refl
quiet_first Complement = refl
quiet_first Not = refl

quiet_unary : (o : Option Ty) (op : UnaryOperator) → IsQuiet (unary_last o op)
quiet_unary o Minus = quiet_arithmetic o (λ kind. I.Subtract) (λ kind. refl)
quiet_unary o Complement = quiet_arithmetic o (λ kind. I.Subtract) (λ kind. refl)
quiet_unary o Not = refl

quiet_binary : (p : Parts) (t s : ℕ) (op : BinaryOperator) → IsQuiet (binary_last p t s op)
quiet_binary p t s O.Add = quiet_arithmetic (ty p t) (λ kind. I.Add) (λ kind. refl)
quiet_binary p t s O.Subtract = quiet_arithmetic (ty p t) (λ kind. I.Subtract) (λ kind. refl)
quiet_binary p t s O.Multiply = quiet_arithmetic (ty p t) (λ kind. I.Multiply) (λ kind. refl)
quiet_binary p t s O.Divide = quiet_arithmetic (ty p t) (λ kind. signed_or kind I.DivideSigned I.DivideUnsigned) (λ kind. quiet_signed kind I.DivideSigned I.DivideUnsigned refl refl)
quiet_binary p t s O.Remainder = quiet_arithmetic (ty p t) (λ kind. signed_or kind I.RemainderSigned I.RemainderUnsigned) (λ kind. quiet_signed kind I.RemainderSigned I.RemainderUnsigned refl refl)
quiet_binary p t s O.BitAnd = quiet_arithmetic (ty p t) (λ kind. I.And) (λ kind. refl)
quiet_binary p t s O.BitXor = quiet_arithmetic (ty p t) (λ kind. I.Xor) (λ kind. refl)
quiet_binary p t s O.BitOr = quiet_arithmetic (ty p t) (λ kind. I.Or) (λ kind. refl)
quiet_binary p t s O.ShiftLeft = quiet_arithmetic (ty p t) (λ kind. I.ShiftLeft (bits_of kind)) (λ kind. refl)
quiet_binary p t s O.ShiftRight = quiet_arithmetic (ty p t) (λ kind. signed_or kind (I.ShiftRightSigned (bits_of kind)) (I.ShiftRightUnsigned (bits_of kind))) (λ kind. quiet_signed kind (I.ShiftRightSigned (bits_of kind)) (I.ShiftRightUnsigned (bits_of kind)) refl refl)
quiet_binary p t s O.Less = ap (λ b. b && true) (quiet_less (ty p s))
quiet_binary p t s O.LessEqual = ap (λ b. b && true) (quiet_less (ty p s))
quiet_binary p t s O.Greater = ap (λ b. b && true) (quiet_less (ty p s))
quiet_binary p t s O.GreaterEqual = ap (λ b. b && true) (quiet_less (ty p s))
quiet_binary p t s O.Equal = refl
quiet_binary p t s O.NotEqual = refl
quiet_binary p t s O.PointerAdd = refl
quiet_binary p t s O.AddPointer = refl
quiet_binary p t s O.PointerSubtract = refl
quiet_binary p t s O.PointerDifference = refl

quiet_logical : (op : LogicalOperator) → IsQuiet (logical_first op)
quiet_logical And = refl
quiet_logical Or = refl

quiet_choice : (pc s n k : ℕ) (test one alt : List Instr) → IsQuiet test → IsQuiet one → IsQuiet alt → IsQuiet (choice pc s n k test one alt)
quiet_choice pc s n k test one alt h g q =
    let other = pc + s + 1 + n + 1 in
    both test (I.JumpIfZero other ∷ (one ++ (I.Jump (other + k) ∷ alt))) h (both one (I.Jump (other + k) ∷ alt) g q)

mutual
  quiet_expression : (at : Target) (t : ℕ) (kind : ExprKind) (pc : ℕ) → IsQuiet (expression_code at t kind pc)
  quiet_expression at t (Number z) pc = refl
  quiet_expression at t (SizeOf u) pc = refl
  quiet_expression at t (Local x) pc = refl
  quiet_expression at t (Function_name f) pc = refl
  quiet_expression at t (Load' m e) pc = both (row_place_code at false e pc) (load_last (pointer_size at.types) (ty at.types t)) (quiet_row_place at e pc) (quiet_load (pointer_size at.types) (ty at.types t))
  quiet_expression at t (AddressOf' m e) pc = quiet_row_address at e pc
  quiet_expression at t (Decay' m e) pc = quiet_row_place at e pc
  quiet_expression at t (Cast' m e) pc = both (row_code at e pc) (normal (ty at.types t)) (quiet_row at e pc) (quiet_normal (ty at.types t))
  quiet_expression at t (Convert' m e) pc = both (row_code at e pc) (normal (ty at.types t)) (quiet_row at e pc) (quiet_normal (ty at.types t))
  quiet_expression at t (Unary' op m e) pc =
      all_three (unary_first op) (row_code at e (pc + length (unary_first op))) (unary_last (ty at.types t) op) (quiet_first op) (quiet_row at e (pc + length (unary_first op))) (quiet_unary (ty at.types t) op)
  quiet_expression at t (Binary' op m a n b) pc =
      all_three (row_code at a pc) (row_code at b (pc + row_size at.types a)) (binary_last at.types t (expr_type a) op) (quiet_row at a pc) (quiet_row at b (pc + row_size at.types a)) (quiet_binary at.types t (expr_type a) op)
  quiet_expression at t (Logical' op m a n b) pc =
      quiet_choice pc (row_size at.types a + length (logical_first op)) (row_size at.types b + 2) 1 (row_code at a pc ++ logical_first op) (row_code at b (pc + (row_size at.types a + length (logical_first op)) + 1) ++ as_flag) (I.Const (decided_value op) ∷ []) (both (row_code at a pc) (logical_first op) (quiet_row at a pc) (quiet_logical op)) (both (row_code at b (pc + (row_size at.types a + length (logical_first op)) + 1)) as_flag (quiet_row at b (pc + (row_size at.types a + length (logical_first op)) + 1)) refl) refl
  quiet_expression at t (Conditional' m c n a k b) pc =
      quiet_choice pc (row_size at.types c) (row_size at.types a) (row_size at.types b) (row_code at c pc) (row_code at a (pc + row_size at.types c + 1)) (row_code at b (pc + row_size at.types c + 1 + row_size at.types a + 1)) (quiet_row at c pc) (quiet_row at a (pc + row_size at.types c + 1)) (quiet_row at b (pc + row_size at.types c + 1 + row_size at.types a + 1))

  quiet_row : {m : _} (at : Target) (e : Row_of-TypedExpr m) (pc : ℕ) → IsQuiet (row_code at e pc)
  quiet_row at end_of-TypedExpr pc = refl
  quiet_row at (more_of-TypedExpr t kind rest) pc = quiet_expression at t kind pc

  quiet_place : (at : Target) (t : ℕ) (kind : PlaceKind) (pc : ℕ) → IsQuiet (place_code at false t kind pc)
  quiet_place at t (Global g) pc = refl
  quiet_place at t (Deref' m e) pc = both (row_code at e pc) (deref_last t) (quiet_row at e pc) refl
  quiet_place at t (Arrow' m e) pc = both (row_code at e pc) (deref_last t) (quiet_row at e pc) refl
  quiet_place at t (Item' m a n i) pc =
      all_three (row_code at a pc) (row_code at i (pc + row_size at.types a)) (item_last at.types (expr_type a) t) (quiet_row at a pc) (quiet_row at i (pc + row_size at.types a)) refl
  quiet_place at t (Element' m a n i) pc =
      all_three (row_place_code at false a pc) (row_code at i (pc + row_place_size at.types a)) (element_last at.types (place_type a) t) (quiet_row_place at a pc) (quiet_row at i (pc + row_place_size at.types a)) refl
  quiet_place at t (Field' m e k) pc = both (row_place_code at false e pc) (field_last at.types (place_type e) k) (quiet_row_place at e pc) refl
  quiet_place at t (Member' m e k) pc = both (row_place_code at false e pc) (member_last at.types (place_type e) k) (quiet_row_place at e pc) refl

  quiet_row_place : {m : _} (at : Target) (e : Row_of-TypedPlace m) (pc : ℕ) → IsQuiet (row_place_code at false e pc)
  quiet_row_place at end_of-TypedPlace pc = refl
  quiet_row_place at (more_of-TypedPlace t kind rest) pc = quiet_place at t kind pc

  quiet_address : (at : Target) (t : ℕ) (kind : PlaceKind) (pc : ℕ) → IsQuiet (address_code at t kind pc)
  quiet_address at t (Deref' m e) pc = quiet_row at e pc
  quiet_address at t (Item' m a n i) pc =
      all_three (row_code at a pc) (row_code at i (pc + row_size at.types a)) (I.AddPointer (element_size at.types (expr_type a)) ∷ []) (quiet_row at a pc) (quiet_row at i (pc + row_size at.types a)) refl
  quiet_address at t (Element' m a n i) pc =
      all_three (row_place_code at false a pc) (row_code at i (pc + row_place_size at.types a)) (element_end_last at.types (place_type a) t) (quiet_row_place at a pc) (quiet_row at i (pc + row_place_size at.types a)) refl
  quiet_address at t (Global g) pc = refl
  quiet_address at t (Arrow' m e) pc = both (row_code at e pc) (deref_last t) (quiet_row at e pc) refl
  quiet_address at t (Field' m e k) pc = both (row_place_code at false e pc) (field_last at.types (place_type e) k) (quiet_row_place at e pc) refl
  quiet_address at t (Member' m e k) pc = both (row_place_code at false e pc) (member_last at.types (place_type e) k) (quiet_row_place at e pc) refl

  quiet_row_address : {m : _} (at : Target) (e : Row_of-TypedPlace m) (pc : ℕ) → IsQuiet (row_address_code at e pc)
  quiet_row_address at end_of-TypedPlace pc = refl
  quiet_row_address at (more_of-TypedPlace t kind rest) pc = quiet_address at t kind pc

pub quiet_filter : (at : Target) (e : TypedExpr) → IsQuiet (filter_code at e)
quiet_filter at e =
    both (expression_code at e.ty e.kind 0) (I.Not ∷ I.Not ∷ I.Panic ∷ []) (quiet_expression at e.ty e.kind 0) refl
