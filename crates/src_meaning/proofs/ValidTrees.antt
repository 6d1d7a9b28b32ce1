-- The rules of expressions and places at each constructor as code sees it.
use Rattle.std.proofs.Common.{◌≡◌, refl, ℕ, ℤ, Bool, false, ◌&&◌}
use Rattle.src_tree.specs.declared.expr.TypedExpr.{TypedExpr}
use Rattle.src_tree.specs.declared.expr.TypedPlace.{TypedPlace}
use Rattle.src_tree.specs.declared.expr.UnaryOperator.{UnaryOperator}
use Rattle.src_tree.specs.declared.expr.BinaryOperator.{BinaryOperator}
use Rattle.src_tree.specs.declared.expr.LogicalOperator.{LogicalOperator}
use Rattle.src_tree.specs.declared.expr.ExprKind.{Load, AddressOf, Decay, Cast, Convert, Unary, Binary, Logical, Conditional}
use Rattle.src_tree.specs.declared.expr.PlaceKind.{Deref, Arrow, Item, Element, Field, Member}
use Rattle.src_tree.specs.declared.expr.ExprKind.TheBlock as E
use Rattle.src_meaning.specs.ValidTypes.{ty, points_to, is_field_of, is_member_of}
use Rattle.src_meaning.specs.Constant.{is_zero_literal}
use Rattle.src_meaning.specs.ValidInitialiser.{is_before, place_is_before}
use Rattle.src_meaning.specs.ValidExpression.{Declarations, is_outside, is_read_outside, is_expr, is_place, load_fits, address_fits, decay_fits, cast_fits, convert_fits, unary_fits, binary_fits, logical_fits, conditional_fits, item_fits, element_fits}

pub outside-Element : (a : TypedPlace) (i : TypedExpr) → is_outside (Element a i) ≡ is_outside a.kind
unfolding E.shape-the_row-TypedExpr-1 E.hidden-the_row-TypedExpr-1 E.shape-the_row-TypedPlace-0 E.hidden-the_row-TypedPlace-0 denote.Hole.Carrier.hidden
outside-Element a i = refl

pub read_outside-Load : (e : TypedPlace) → is_read_outside (Load e) ≡ is_outside e.kind
unfolding E.shape-the_row-TypedExpr-1 E.hidden-the_row-TypedExpr-1 E.shape-the_row-TypedPlace-0 E.hidden-the_row-TypedPlace-0 denote.Hole.Carrier.hidden
read_outside-Load e = refl

pub outside-Field : (a : TypedPlace) (k : ℕ) → is_outside (Field a k) ≡ is_outside a.kind
unfolding E.shape-the_row-TypedExpr-1 E.hidden-the_row-TypedExpr-1 E.shape-the_row-TypedPlace-0 E.hidden-the_row-TypedPlace-0 denote.Hole.Carrier.hidden
outside-Field a k = refl

pub outside-Member : (a : TypedPlace) (k : ℕ) → is_outside (Member a k) ≡ false
unfolding E.shape-the_row-TypedExpr-1 E.hidden-the_row-TypedExpr-1 E.shape-the_row-TypedPlace-0 E.hidden-the_row-TypedPlace-0 denote.Hole.Carrier.hidden
outside-Member a k = refl

pub before-AddressOf : (g : ℕ) (e : TypedPlace) → is_before g (AddressOf e) ≡ place_is_before g e.kind
unfolding E.shape-the_row-TypedExpr-1 E.hidden-the_row-TypedExpr-1 E.shape-the_row-TypedPlace-0 E.hidden-the_row-TypedPlace-0 denote.Hole.Carrier.hidden
before-AddressOf g e = refl

pub before-Decay : (g : ℕ) (e : TypedPlace) → is_before g (Decay e) ≡ place_is_before g e.kind
unfolding E.shape-the_row-TypedExpr-1 E.hidden-the_row-TypedExpr-1 E.shape-the_row-TypedPlace-0 E.hidden-the_row-TypedPlace-0 denote.Hole.Carrier.hidden
before-Decay g e = refl

pub ruleset before_facts = (before-AddressOf, before-Decay)

module _ (at : Declarations) (t : ℕ) where
  pub expr-Load : (e : TypedPlace) → is_expr at t (Load e) ≡ is_place at e.ty e.kind && load_fits at.program.types t e.ty
  unfolding E.shape-the_row-TypedExpr-1 E.hidden-the_row-TypedExpr-1 E.shape-the_row-TypedPlace-0 E.hidden-the_row-TypedPlace-0 denote.Hole.Carrier.hidden
  expr-Load e = refl

  pub expr-AddressOf : (e : TypedPlace) → is_expr at t (AddressOf e) ≡ is_place at e.ty e.kind && (is_outside e.kind && address_fits at.program.types t e.ty)
  unfolding E.shape-the_row-TypedExpr-1 E.hidden-the_row-TypedExpr-1 E.shape-the_row-TypedPlace-0 E.hidden-the_row-TypedPlace-0 denote.Hole.Carrier.hidden
  expr-AddressOf e = refl

  pub expr-Decay : (e : TypedPlace) → is_expr at t (Decay e) ≡ is_place at e.ty e.kind && (is_outside e.kind && decay_fits at.program.types t e.ty)
  unfolding E.shape-the_row-TypedExpr-1 E.hidden-the_row-TypedExpr-1 E.shape-the_row-TypedPlace-0 E.hidden-the_row-TypedPlace-0 denote.Hole.Carrier.hidden
  expr-Decay e = refl

  pub expr-Cast : (e : TypedExpr) → is_expr at t (Cast e) ≡ is_expr at e.ty e.kind && cast_fits at.program.types t e.ty
  unfolding E.shape-the_row-TypedExpr-1 E.hidden-the_row-TypedExpr-1 E.shape-the_row-TypedPlace-0 E.hidden-the_row-TypedPlace-0 denote.Hole.Carrier.hidden
  expr-Cast e = refl

  pub expr-Convert : (e : TypedExpr) → is_expr at t (Convert e) ≡ is_expr at e.ty e.kind && convert_fits at.program.types t e.ty (is_zero_literal at.program.types e.ty e.kind)
  unfolding E.shape-the_row-TypedExpr-1 E.hidden-the_row-TypedExpr-1 E.shape-the_row-TypedPlace-0 E.hidden-the_row-TypedPlace-0 denote.Hole.Carrier.hidden
  expr-Convert e = refl

  pub expr-Unary : (op : UnaryOperator) (e : TypedExpr) → is_expr at t (Unary op e) ≡ is_expr at e.ty e.kind && unary_fits at.program.types t op e.ty
  unfolding E.shape-the_row-TypedExpr-1 E.hidden-the_row-TypedExpr-1 E.shape-the_row-TypedPlace-0 E.hidden-the_row-TypedPlace-0 denote.Hole.Carrier.hidden
  expr-Unary op e = refl

  pub expr-Binary : (op : BinaryOperator) (a b : TypedExpr) → is_expr at t (Binary op a b) ≡ is_expr at a.ty a.kind && (is_expr at b.ty b.kind && binary_fits at.program.types t op a.ty b.ty)
  unfolding E.shape-the_row-TypedExpr-1 E.hidden-the_row-TypedExpr-1 E.shape-the_row-TypedPlace-0 E.hidden-the_row-TypedPlace-0 denote.Hole.Carrier.hidden
  expr-Binary op a b = refl

  pub expr-Logical : (op : LogicalOperator) (a b : TypedExpr) → is_expr at t (Logical op a b) ≡ is_expr at a.ty a.kind && (is_expr at b.ty b.kind && logical_fits at.program.types t a.ty b.ty)
  unfolding E.shape-the_row-TypedExpr-1 E.hidden-the_row-TypedExpr-1 E.shape-the_row-TypedPlace-0 E.hidden-the_row-TypedPlace-0 denote.Hole.Carrier.hidden
  expr-Logical op a b = refl

  pub expr-Conditional : (c a b : TypedExpr) → is_expr at t (Conditional c a b) ≡ is_expr at c.ty c.kind && (is_expr at a.ty a.kind && (is_expr at b.ty b.kind && conditional_fits at.program.types t c.ty a.ty b.ty))
  unfolding E.shape-the_row-TypedExpr-1 E.hidden-the_row-TypedExpr-1 E.shape-the_row-TypedPlace-0 E.hidden-the_row-TypedPlace-0 denote.Hole.Carrier.hidden
  expr-Conditional c a b = refl

  pub place-Deref : (e : TypedExpr) → is_place at t (Deref e) ≡ is_expr at e.ty e.kind && points_to (ty at.program.types e.ty) t
  unfolding E.shape-the_row-TypedExpr-1 E.hidden-the_row-TypedExpr-1 E.shape-the_row-TypedPlace-0 E.hidden-the_row-TypedPlace-0 denote.Hole.Carrier.hidden
  place-Deref e = refl

  pub place-Arrow : (e : TypedExpr) → is_place at t (Arrow e) ≡ is_expr at e.ty e.kind && points_to (ty at.program.types e.ty) t
  unfolding E.shape-the_row-TypedExpr-1 E.hidden-the_row-TypedExpr-1 E.shape-the_row-TypedPlace-0 E.hidden-the_row-TypedPlace-0 denote.Hole.Carrier.hidden
  place-Arrow e = refl

  pub place-Item : (p i : TypedExpr) → is_place at t (Item p i) ≡ is_expr at p.ty p.kind && (is_expr at i.ty i.kind && item_fits at.program.types t p.ty i.ty)
  unfolding E.shape-the_row-TypedExpr-1 E.hidden-the_row-TypedExpr-1 E.shape-the_row-TypedPlace-0 E.hidden-the_row-TypedPlace-0 denote.Hole.Carrier.hidden
  place-Item p i = refl

  pub place-Element : (a : TypedPlace) (i : TypedExpr) → is_place at t (Element a i) ≡ is_place at a.ty a.kind && (is_expr at i.ty i.kind && element_fits at.program.types t a.ty i.ty)
  unfolding E.shape-the_row-TypedExpr-1 E.hidden-the_row-TypedExpr-1 E.shape-the_row-TypedPlace-0 E.hidden-the_row-TypedPlace-0 denote.Hole.Carrier.hidden
  place-Element a i = refl

  pub place-Field : (e : TypedPlace) (k : ℕ) → is_place at t (Field e k) ≡ is_place at e.ty e.kind && is_field_of at.program.types (ty at.program.types e.ty) k t
  unfolding E.shape-the_row-TypedExpr-1 E.hidden-the_row-TypedExpr-1 E.shape-the_row-TypedPlace-0 E.hidden-the_row-TypedPlace-0 denote.Hole.Carrier.hidden
  place-Field e k = refl

  pub place-Member : (e : TypedPlace) (k : ℕ) → is_place at t (Member e k) ≡ is_place at e.ty e.kind && is_member_of at.program.types (ty at.program.types e.ty) k t
  unfolding E.shape-the_row-TypedExpr-1 E.hidden-the_row-TypedExpr-1 E.shape-the_row-TypedPlace-0 E.hidden-the_row-TypedPlace-0 denote.Hole.Carrier.hidden
  place-Member e k = refl

pub ruleset outside_facts = (outside-Element, outside-Field, outside-Member)

pub ruleset expression_facts = (expr-Load, expr-AddressOf, expr-Decay, expr-Cast, expr-Convert, expr-Unary, expr-Binary, expr-Logical, expr-Conditional, place-Deref, place-Arrow, place-Item, place-Element, place-Field, place-Member)
