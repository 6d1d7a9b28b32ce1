-- How many instructions the code of an expression or of a place has.
use Rattle.std.specs.Prelude.{ℕ, ◌+◌, if◌then◌else◌, List, [], ◌∷◌, length, Option}
use Rattle.c_types.specs.declared.parts.Parts.{Parts}
use Rattle.c_types.specs.declared.parts.Ty.{Ty}
use Rattle.bm_isa.specs.declared.instr.Instr.{Instr}
use Rattle.bm_isa.specs.declared.instr.Instr.TheVariants as I
use Rattle.src_tree.specs.declared.expr.ExprKind.{ExprKind, Number, SizeOf, Local, Function as Function_name, Load', AddressOf', Decay', Cast', Convert', Unary', Binary', Logical', Conditional', Row_of-TypedExpr, end_of-TypedExpr, more_of-TypedExpr}
use Rattle.src_tree.specs.declared.expr.PlaceKind.{PlaceKind, Global, Deref', Arrow', Item', Element', Field', Member', Row_of-TypedPlace, end_of-TypedPlace, more_of-TypedPlace}
use Rattle.src_meaning.specs.Expression.{expr_type}
use Rattle.src_meaning.specs.ValidTypes.{ty, is_scalar}
use Rattle.cg_expr.specs.Pieces.{pointer_size, scalar_number, normal, unary_first, unary_last, binary_last, logical_first}

-- from an address to what stands there; a struct or a union stays as its address
abbrev pub load_last : ℕ → Option Ty → List Instr
load_last w t = if is_scalar t then I.Load (scalar_number w t) ∷ [] else []

-- of a test, what follows where its word isn't 0, and the other
abbrev pub choice_size : ℕ → ℕ → ℕ → ℕ
choice_size test one alt = test + 1 + one + 1 + alt

abbrev mutual
  pub expression_size : Parts → ℕ → ExprKind → ℕ
  expression_size p t (Number z) = 1
  expression_size p t (SizeOf u) = 1
  expression_size p t (Local x) = 1
  expression_size p t (Function_name f) = 1
  expression_size p t (Load' m e) = row_place_size p e + length (load_last (pointer_size p) (ty p t))
  expression_size p t (AddressOf' m e) = row_address_size p e
  expression_size p t (Decay' m e) = row_place_size p e
  expression_size p t (Cast' m e) = row_size p e + length (normal (ty p t))
  expression_size p t (Convert' m e) = row_size p e + length (normal (ty p t))
  expression_size p t (Unary' op m e) = length (unary_first op) + row_size p e + length (unary_last (ty p t) op)
  expression_size p t (Binary' op m a n b) = row_size p a + row_size p b + length (binary_last p t (expr_type a) op)
  expression_size p t (Logical' op m a n b) = choice_size (row_size p a + length (logical_first op)) (row_size p b + 2) 1
  expression_size p t (Conditional' m c n a k b) = choice_size (row_size p c) (row_size p a) (row_size p b)

  pub row_size : {m : _} → Parts → Row_of-TypedExpr m → ℕ
  row_size p end_of-TypedExpr = 0
  row_size p (more_of-TypedExpr t kind rest) = expression_size p t kind

  pub place_size : Parts → PlaceKind → ℕ
  place_size p (Global g) = 1
  place_size p (Deref' m e) = row_size p e + 1
  place_size p (Arrow' m e) = row_size p e + 1
  place_size p (Item' m a n i) = row_size p a + row_size p i + 2
  place_size p (Element' m a n i) = row_place_size p a + row_size p i + 1
  place_size p (Field' m e k) = row_place_size p e + 1
  place_size p (Member' m e k) = row_place_size p e + 2

  pub row_place_size : {m : _} → Parts → Row_of-TypedPlace m → ℕ
  row_place_size p end_of-TypedPlace = 0
  row_place_size p (more_of-TypedPlace t kind rest) = place_size p kind

  -- of the address of a place
  pub address_size : Parts → PlaceKind → ℕ
  address_size p (Deref' m e) = row_size p e
  address_size p (Item' m a n i) = row_size p a + row_size p i + 1
  address_size p (Element' m a n i) = row_place_size p a + row_size p i + 1
  address_size p (Global g) = 1
  address_size p (Arrow' m e) = row_size p e + 1
  address_size p (Field' m e k) = row_place_size p e + 1
  address_size p (Member' m e k) = row_place_size p e + 2

  pub row_address_size : {m : _} → Parts → Row_of-TypedPlace m → ℕ
  row_address_size p end_of-TypedPlace = 0
  row_address_size p (more_of-TypedPlace t kind rest) = address_size p kind
