-- How many words more an expression or a place wants on the operand stack.
use Rattle.std.proofs.Common.{ℕ, ◌+◌, max}
use Rattle.src_tree.specs.declared.expr.ExprKind.{ExprKind, Number, SizeOf, Local, Function as Function_name, Load', AddressOf', Decay', Cast', Convert', Unary', Binary', Logical', Conditional', Row_of-TypedExpr, end_of-TypedExpr, more_of-TypedExpr}
use Rattle.src_tree.specs.declared.expr.PlaceKind.{PlaceKind, Global, Deref', Arrow', Item', Element', Field', Member', Row_of-TypedPlace, end_of-TypedPlace, more_of-TypedPlace}

abbrev mutual
  pub need : ExprKind → ℕ
  need (Number z) = 1
  need (SizeOf u) = 1
  need (Local x) = 1
  need (Function_name f) = 1
  need (Load' m e) = row_place_need e
  need (AddressOf' m e) = row_place_need e
  need (Decay' m e) = row_place_need e
  need (Cast' m e) = row_need e
  need (Convert' m e) = row_need e
  need (Unary' op m e) = 1 + row_need e
  need (Binary' op m a n b) = max (row_need a) (1 + row_need b)
  need (Logical' op m a n b) = max (row_need a) (max (row_need b) 1)
  need (Conditional' m c n a k b) = max (row_need c) (max (row_need a) (row_need b))

  pub row_need : {m : _} → Row_of-TypedExpr m → ℕ
  row_need end_of-TypedExpr = 0
  row_need (more_of-TypedExpr t kind rest) = need kind

  pub place_need : PlaceKind → ℕ
  place_need (Global g) = 1
  place_need (Deref' m e) = row_need e
  place_need (Arrow' m e) = row_need e
  place_need (Item' m a n i) = max (row_need a) (1 + row_need i)
  place_need (Element' m a n i) = max (row_place_need a) (1 + row_need i)
  place_need (Field' m e k) = row_place_need e
  place_need (Member' m e k) = row_place_need e

  pub row_place_need : {m : _} → Row_of-TypedPlace m → ℕ
  row_place_need end_of-TypedPlace = 0
  row_place_need (more_of-TypedPlace t kind rest) = place_need kind
