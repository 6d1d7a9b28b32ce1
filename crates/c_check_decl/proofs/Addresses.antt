-- Addresses at each constructor as code sees it.
use Rattle.std.proofs.Common.{◌≡◌, refl}
use Rattle.src_tree.specs.declared.expr.TypedPlace.{TypedPlace}
use Rattle.src_tree.specs.declared.expr.ExprKind.{AddressOf, Decay}
use Rattle.src_tree.specs.declared.expr.ExprKind.TheBlock as E
use Rattle.src_meaning.specs.Constant.{is_global, is_address_constant}

pub address-AddressOf : (e : TypedPlace) → is_address_constant (AddressOf e) ≡ is_global e.kind
unfolding E.shape-the_row-TypedExpr-1 E.hidden-the_row-TypedExpr-1 E.shape-the_row-TypedPlace-0 E.hidden-the_row-TypedPlace-0 denote.Hole.Carrier.hidden
address-AddressOf e = refl

pub address-Decay : (e : TypedPlace) → is_address_constant (Decay e) ≡ is_global e.kind
unfolding E.shape-the_row-TypedExpr-1 E.hidden-the_row-TypedExpr-1 E.shape-the_row-TypedPlace-0 E.hidden-the_row-TypedPlace-0 denote.Hole.Carrier.hidden
address-Decay e = refl

pub ruleset address_facts = (address-AddressOf, address-Decay)
