-- The bounds on depth and chains at each constructor as code sees it.
use Rattle.std.proofs.Common.{◌≡◌, refl, ℕ, ℤ, Bool, false, ◌&&◌}
use Rattle.src_meaning.specs.declared.validity.Spot.{Spot}
use Rattle.src_tree.specs.declared.expr.TypedExpr.{TypedExpr}
use Rattle.src_tree.specs.declared.expr.TypedPlace.{TypedPlace}
use Rattle.src_tree.specs.declared.expr.UnaryOperator.{UnaryOperator}
use Rattle.src_tree.specs.declared.expr.BinaryOperator.{BinaryOperator}
use Rattle.src_tree.specs.declared.expr.LogicalOperator.{LogicalOperator}
use Rattle.src_tree.specs.declared.expr.ExprKind.{Load, AddressOf, Decay, Cast, Convert, Unary, Binary, Logical, Conditional}
use Rattle.src_tree.specs.declared.expr.PlaceKind.{Deref, Arrow, Item, Element, Field, Member}
use Rattle.src_tree.specs.declared.expr.ExprKind.TheBlock as E
use Rattle.src_meaning.specs.ValidDepth.{keeps_bounds, place_keeps_bounds, binary_rank, logical_rank, postfix_rank, operand_spot, chain_spot, right_spot, index_spot, condition_spot, branch_spot, arrow_spot}

module _ (s : Spot) where
  pub bounds-Load : (e : TypedPlace) → keeps_bounds s (Load e) ≡ place_keeps_bounds s e.kind
  unfolding E.shape-the_row-TypedExpr-1 E.hidden-the_row-TypedExpr-1 E.shape-the_row-TypedPlace-0 E.hidden-the_row-TypedPlace-0 denote.Hole.Carrier.hidden
  bounds-Load e = refl

  pub bounds-Decay : (e : TypedPlace) → keeps_bounds s (Decay e) ≡ place_keeps_bounds s e.kind
  unfolding E.shape-the_row-TypedExpr-1 E.hidden-the_row-TypedExpr-1 E.shape-the_row-TypedPlace-0 E.hidden-the_row-TypedPlace-0 denote.Hole.Carrier.hidden
  bounds-Decay e = refl

  pub bounds-Convert : (e : TypedExpr) → keeps_bounds s (Convert e) ≡ keeps_bounds s e.kind
  unfolding E.shape-the_row-TypedExpr-1 E.hidden-the_row-TypedExpr-1 E.shape-the_row-TypedPlace-0 E.hidden-the_row-TypedPlace-0 denote.Hole.Carrier.hidden
  bounds-Convert e = refl

  pub bounds-AddressOf : (e : TypedPlace) → keeps_bounds s (AddressOf e) ≡ place_keeps_bounds (operand_spot s) e.kind
  unfolding E.shape-the_row-TypedExpr-1 E.hidden-the_row-TypedExpr-1 E.shape-the_row-TypedPlace-0 E.hidden-the_row-TypedPlace-0 denote.Hole.Carrier.hidden
  bounds-AddressOf e = refl

  pub bounds-Cast : (e : TypedExpr) → keeps_bounds s (Cast e) ≡ keeps_bounds (operand_spot s) e.kind
  unfolding E.shape-the_row-TypedExpr-1 E.hidden-the_row-TypedExpr-1 E.shape-the_row-TypedPlace-0 E.hidden-the_row-TypedPlace-0 denote.Hole.Carrier.hidden
  bounds-Cast e = refl

  pub bounds-Unary : (op : UnaryOperator) (e : TypedExpr) → keeps_bounds s (Unary op e) ≡ keeps_bounds (operand_spot s) e.kind
  unfolding E.shape-the_row-TypedExpr-1 E.hidden-the_row-TypedExpr-1 E.shape-the_row-TypedPlace-0 E.hidden-the_row-TypedPlace-0 denote.Hole.Carrier.hidden
  bounds-Unary op e = refl

  pub bounds-Binary : (op : BinaryOperator) (a b : TypedExpr) → keeps_bounds s (Binary op a b) ≡ keeps_bounds (chain_spot (binary_rank op) s) a.kind && keeps_bounds (right_spot (binary_rank op) s) b.kind
  unfolding E.shape-the_row-TypedExpr-1 E.hidden-the_row-TypedExpr-1 E.shape-the_row-TypedPlace-0 E.hidden-the_row-TypedPlace-0 denote.Hole.Carrier.hidden
  bounds-Binary op a b = refl

  pub bounds-Logical : (op : LogicalOperator) (a b : TypedExpr) → keeps_bounds s (Logical op a b) ≡ keeps_bounds (chain_spot (logical_rank op) s) a.kind && keeps_bounds (right_spot (logical_rank op) s) b.kind
  unfolding E.shape-the_row-TypedExpr-1 E.hidden-the_row-TypedExpr-1 E.shape-the_row-TypedPlace-0 E.hidden-the_row-TypedPlace-0 denote.Hole.Carrier.hidden
  bounds-Logical op a b = refl

  pub bounds-Conditional : (c a b : TypedExpr) → keeps_bounds s (Conditional c a b) ≡ keeps_bounds (condition_spot s) c.kind && (keeps_bounds (branch_spot s) a.kind && keeps_bounds (branch_spot s) b.kind)
  unfolding E.shape-the_row-TypedExpr-1 E.hidden-the_row-TypedExpr-1 E.shape-the_row-TypedPlace-0 E.hidden-the_row-TypedPlace-0 denote.Hole.Carrier.hidden
  bounds-Conditional c a b = refl

  pub bounds-Deref : (e : TypedExpr) → place_keeps_bounds s (Deref e) ≡ keeps_bounds (operand_spot s) e.kind
  unfolding E.shape-the_row-TypedExpr-1 E.hidden-the_row-TypedExpr-1 E.shape-the_row-TypedPlace-0 E.hidden-the_row-TypedPlace-0 denote.Hole.Carrier.hidden
  bounds-Deref e = refl

  pub bounds-Arrow : (e : TypedExpr) → place_keeps_bounds s (Arrow e) ≡ keeps_bounds (arrow_spot s) e.kind
  unfolding E.shape-the_row-TypedExpr-1 E.hidden-the_row-TypedExpr-1 E.shape-the_row-TypedPlace-0 E.hidden-the_row-TypedPlace-0 denote.Hole.Carrier.hidden
  bounds-Arrow e = refl

  pub bounds-Item : (p i : TypedExpr) → place_keeps_bounds s (Item p i) ≡ keeps_bounds (chain_spot postfix_rank s) p.kind && keeps_bounds (index_spot s) i.kind
  unfolding E.shape-the_row-TypedExpr-1 E.hidden-the_row-TypedExpr-1 E.shape-the_row-TypedPlace-0 E.hidden-the_row-TypedPlace-0 denote.Hole.Carrier.hidden
  bounds-Item p i = refl

  pub bounds-Element : (a : TypedPlace) (i : TypedExpr) → place_keeps_bounds s (Element a i) ≡ place_keeps_bounds (chain_spot postfix_rank s) a.kind && keeps_bounds (index_spot s) i.kind
  unfolding E.shape-the_row-TypedExpr-1 E.hidden-the_row-TypedExpr-1 E.shape-the_row-TypedPlace-0 E.hidden-the_row-TypedPlace-0 denote.Hole.Carrier.hidden
  bounds-Element a i = refl

  pub bounds-Field : (e : TypedPlace) (k : ℕ) → place_keeps_bounds s (Field e k) ≡ place_keeps_bounds (chain_spot postfix_rank s) e.kind
  unfolding E.shape-the_row-TypedExpr-1 E.hidden-the_row-TypedExpr-1 E.shape-the_row-TypedPlace-0 E.hidden-the_row-TypedPlace-0 denote.Hole.Carrier.hidden
  bounds-Field e k = refl

  pub bounds-Member : (e : TypedPlace) (k : ℕ) → place_keeps_bounds s (Member e k) ≡ place_keeps_bounds (chain_spot postfix_rank s) e.kind
  unfolding E.shape-the_row-TypedExpr-1 E.hidden-the_row-TypedExpr-1 E.shape-the_row-TypedPlace-0 E.hidden-the_row-TypedPlace-0 denote.Hole.Carrier.hidden
  bounds-Member e k = refl

pub ruleset bounds_facts = (bounds-Load, bounds-Decay, bounds-Convert, bounds-AddressOf, bounds-Cast, bounds-Unary, bounds-Binary, bounds-Logical, bounds-Conditional, bounds-Deref, bounds-Arrow, bounds-Item, bounds-Element, bounds-Field, bounds-Member)
