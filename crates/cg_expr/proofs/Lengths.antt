-- Code has the size that it is said to have.
use Rattle.std.proofs.Common.{◌≡◌, refl, ℕ, ◌+◌, Bool, true, false, List, [], ◌∷◌, ◌++◌, length, arith, length-append}
use Rattle.bm_isa.specs.declared.instr.Instr.{Instr}
use Rattle.bm_isa.specs.declared.instr.Instr.TheVariants as I
use Rattle.src_tree.specs.declared.expr.ExprKind.{ExprKind, Number, SizeOf, Local, Function as Function_name, Load', AddressOf', Decay', Cast', Convert', Unary', Binary', Logical', Conditional', Row_of-TypedExpr, end_of-TypedExpr, more_of-TypedExpr}
use Rattle.src_tree.specs.declared.expr.PlaceKind.{PlaceKind, Global, Deref', Arrow', Item', Element', Field', Member', Row_of-TypedPlace, end_of-TypedPlace, more_of-TypedPlace}
use Rattle.src_meaning.specs.Expression.{expr_type, place_type}
use Rattle.src_meaning.specs.ValidTypes.{ty}
use Rattle.cg_expr.specs.Pieces.{pointer_size, normal, unary_first, unary_last, binary_last, logical_first, decided_value, as_flag, field_last, member_last, deref_last, item_last, element_last, element_end_last, element_size}
use Rattle.cg_expr.specs.Sizes.{load_last, choice_size, expression_size, row_size, place_size, row_place_size, address_size, row_address_size}
use Rattle.cg_expr.specs.Code.{Target, choice, to_member, expression_code, row_code, place_code, row_place_code, address_code, row_address_code}

pub two : (a b : List Instr) (m n : ℕ) → length a ≡ m → length b ≡ n → length (a ++ b) ≡ m + n
two a b m n h k = omega (arith, length-append a b, h, k)

pub three : (a b c : List Instr) (m n : ℕ) → length a ≡ m → length b ≡ n → length (a ++ (b ++ c)) ≡ m + n + length c
three a b c m n h k = omega (arith, length-append a (b ++ c), length-append b c, h, k)

length-to_member : (assigns : Bool) (at : Target) (t k : ℕ) → length (to_member assigns at.types t k) ≡ 2
length-to_member true at t k = refl
length-to_member false at t k = refl

pub length-choice : (pc s n k : ℕ) (test one alt : List Instr) → length test ≡ s → length one ≡ n → length alt ≡ k → length (choice pc s n k test one alt) ≡ choice_size s n k
length-choice pc s n k test one alt e f g =
    omega (arith, length-append test (I.JumpIfZero (pc + s + 1 + n + 1) ∷ (one ++ (I.Jump (pc + s + 1 + n + 1 + k) ∷ alt))), length-append one (I.Jump (pc + s + 1 + n + 1 + k) ∷ alt), e, f, g)

mutual
  pub length-expression : (at : Target) (t : ℕ) (kind : ExprKind) (pc : ℕ) → length (expression_code at t kind pc) ≡ expression_size at.types t kind
  length-expression at t (Number z) pc = refl
  length-expression at t (SizeOf u) pc = refl
  length-expression at t (Local x) pc = refl
  length-expression at t (Function_name f) pc = refl
  length-expression at t (Load' m e) pc = two (row_place_code at false e pc) (load_last (pointer_size at.types) (ty at.types t)) _ _ (length-row_place at false e pc) refl
  length-expression at t (AddressOf' m e) pc = length-row_address at e pc
  length-expression at t (Decay' m e) pc = length-row_place at false e pc
  length-expression at t (Cast' m e) pc = two (row_code at e pc) (normal (ty at.types t)) _ _ (length-row at e pc) refl
  length-expression at t (Convert' m e) pc = two (row_code at e pc) (normal (ty at.types t)) _ _ (length-row at e pc) refl
  length-expression at t (Unary' op m e) pc =
      three (unary_first op) (row_code at e (pc + length (unary_first op))) (unary_last (ty at.types t) op) _ _ refl (length-row at e (pc + length (unary_first op)))
  length-expression at t (Binary' op m a n b) pc =
      three (row_code at a pc) (row_code at b (pc + row_size at.types a)) (binary_last at.types t (expr_type a) op) _ _ (length-row at a pc) (length-row at b (pc + row_size at.types a))
  length-expression at t (Logical' op m a n b) pc =
      length-choice pc (row_size at.types a + length (logical_first op)) (row_size at.types b + 2) 1 (row_code at a pc ++ logical_first op) (row_code at b (pc + (row_size at.types a + length (logical_first op)) + 1) ++ as_flag) (I.Const (decided_value op) ∷ []) (two (row_code at a pc) (logical_first op) _ _ (length-row at a pc) refl) (two (row_code at b (pc + (row_size at.types a + length (logical_first op)) + 1)) as_flag _ _ (length-row at b (pc + (row_size at.types a + length (logical_first op)) + 1)) refl) refl
  length-expression at t (Conditional' m c n a k b) pc =
      length-choice pc (row_size at.types c) (row_size at.types a) (row_size at.types b) (row_code at c pc) (row_code at a (pc + row_size at.types c + 1)) (row_code at b (pc + row_size at.types c + 1 + row_size at.types a + 1)) (length-row at c pc) (length-row at a (pc + row_size at.types c + 1)) (length-row at b (pc + row_size at.types c + 1 + row_size at.types a + 1))

  pub length-row : {m : _} (at : Target) (e : Row_of-TypedExpr m) (pc : ℕ) → length (row_code at e pc) ≡ row_size at.types e
  length-row at end_of-TypedExpr pc = refl
  length-row at (more_of-TypedExpr t kind rest) pc = length-expression at t kind pc

  pub length-place : (at : Target) (assigns : Bool) (t : ℕ) (kind : PlaceKind) (pc : ℕ) → length (place_code at assigns t kind pc) ≡ place_size at.types kind
  length-place at assigns t (Global g) pc = refl
  length-place at assigns t (Deref' m e) pc = two (row_code at e pc) (deref_last t) _ _ (length-row at e pc) refl
  length-place at assigns t (Arrow' m e) pc = two (row_code at e pc) (deref_last t) _ _ (length-row at e pc) refl
  length-place at assigns t (Item' m a n i) pc =
      three (row_code at a pc) (row_code at i (pc + row_size at.types a)) (item_last at.types (expr_type a) t) _ _ (length-row at a pc) (length-row at i (pc + row_size at.types a))
  length-place at assigns t (Element' m a n i) pc =
      three (row_place_code at assigns a pc) (row_code at i (pc + row_place_size at.types a)) (element_last at.types (place_type a) t) _ _ (length-row_place at assigns a pc) (length-row at i (pc + row_place_size at.types a))
  length-place at assigns t (Field' m e k) pc = two (row_place_code at assigns e pc) (field_last at.types (place_type e) k) _ _ (length-row_place at assigns e pc) refl
  length-place at assigns t (Member' m e k) pc =
      two (row_place_code at assigns e pc) (to_member assigns at.types (place_type e) k) _ _ (length-row_place at assigns e pc) (length-to_member assigns at (place_type e) k)

  pub length-row_place : {m : _} (at : Target) (assigns : Bool) (e : Row_of-TypedPlace m) (pc : ℕ) → length (row_place_code at assigns e pc) ≡ row_place_size at.types e
  length-row_place at assigns end_of-TypedPlace pc = refl
  length-row_place at assigns (more_of-TypedPlace t kind rest) pc = length-place at assigns t kind pc

  pub length-address : (at : Target) (t : ℕ) (kind : PlaceKind) (pc : ℕ) → length (address_code at t kind pc) ≡ address_size at.types kind
  length-address at t (Deref' m e) pc = length-row at e pc
  length-address at t (Item' m a n i) pc =
      three (row_code at a pc) (row_code at i (pc + row_size at.types a)) (I.AddPointer (element_size at.types (expr_type a)) ∷ []) _ _ (length-row at a pc) (length-row at i (pc + row_size at.types a))
  length-address at t (Element' m a n i) pc =
      three (row_place_code at false a pc) (row_code at i (pc + row_place_size at.types a)) (element_end_last at.types (place_type a) t) _ _ (length-row_place at false a pc) (length-row at i (pc + row_place_size at.types a))
  length-address at t (Global g) pc = refl
  length-address at t (Arrow' m e) pc = two (row_code at e pc) (deref_last t) _ _ (length-row at e pc) refl
  length-address at t (Field' m e k) pc =
      two (row_place_code at false e pc) (field_last at.types (place_type e) k) _ _ (length-row_place at false e pc) refl
  length-address at t (Member' m e k) pc =
      two (row_place_code at false e pc) (member_last at.types (place_type e) k) _ _ (length-row_place at false e pc) refl

  pub length-row_address : {m : _} (at : Target) (e : Row_of-TypedPlace m) (pc : ℕ) → length (row_address_code at e pc) ≡ row_address_size at.types e
  length-row_address at end_of-TypedPlace pc = refl
  length-row_address at (more_of-TypedPlace t kind rest) pc = length-address at t kind pc
