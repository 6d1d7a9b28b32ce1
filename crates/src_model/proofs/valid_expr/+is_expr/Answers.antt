use Rattle.std.proofs.Common.{rules, ◌≡◌, ◌∙◌, sym, ap}
use Rattle.src_model.specs.ValidSeen.{seen}
use Rattle.src_meaning.specs.ValidExpression as spec
use Rattle.src_meaning.proofs.ValidTrees.{expr-Load, expr-AddressOf, expr-Decay, expr-Cast, expr-Convert, expr-Unary, expr-Binary, expr-Logical, expr-Conditional, place-Deref, place-Arrow, place-Item, place-Element, place-Field, place-Member}
use Rattle.src_model.proofs.valid_expr.+is_expr.Goals as goal

pub is_expr-returns-then-is_place : goal.is_expr-returns-then-is_place
is_expr-returns-then-is_place t c = let e = ap (λ k. spec.is_expr (seen c.args.at.now) c.args.e.now.ty k) c.in-Load.is ∙ expr-Load (seen c.args.at.now) c.args.e.now.ty c.in-Load.place in search rules

pub is_expr-returns-else-is_place : goal.is_expr-returns-else-is_place
is_expr-returns-else-is_place t c = let e = ap (λ k. spec.is_expr (seen c.args.at.now) c.args.e.now.ty k) c.in-Load.is ∙ expr-Load (seen c.args.at.now) c.args.e.now.ty c.in-Load.place in search rules

pub is_expr-returns-then-is_outside : goal.is_expr-returns-then-is_outside
is_expr-returns-then-is_outside t c = let e = ap (λ k. spec.is_expr (seen c.args.at.now) c.args.e.now.ty k) c.in-AddressOf.is ∙ expr-AddressOf (seen c.args.at.now) c.args.e.now.ty c.in-AddressOf.place in search rules

pub is_expr-returns-else-is_outside : goal.is_expr-returns-else-is_outside
is_expr-returns-else-is_outside t c = let e = ap (λ k. spec.is_expr (seen c.args.at.now) c.args.e.now.ty k) c.in-AddressOf.is ∙ expr-AddressOf (seen c.args.at.now) c.args.e.now.ty c.in-AddressOf.place in search rules

pub is_expr-returns-then-is_outside-2 : goal.is_expr-returns-then-is_outside-2
is_expr-returns-then-is_outside-2 t c = let e = ap (λ k. spec.is_expr (seen c.args.at.now) c.args.e.now.ty k) c.in-Decay.is ∙ expr-Decay (seen c.args.at.now) c.args.e.now.ty c.in-Decay.place in search rules

pub is_expr-returns-else-is_outside-2 : goal.is_expr-returns-else-is_outside-2
is_expr-returns-else-is_outside-2 t c = let e = ap (λ k. spec.is_expr (seen c.args.at.now) c.args.e.now.ty k) c.in-Decay.is ∙ expr-Decay (seen c.args.at.now) c.args.e.now.ty c.in-Decay.place in search rules

pub is_expr-returns-then-is_expr : goal.is_expr-returns-then-is_expr
is_expr-returns-then-is_expr t c = let e = ap (λ k. spec.is_expr (seen c.args.at.now) c.args.e.now.ty k) c.in-Cast.is ∙ expr-Cast (seen c.args.at.now) c.args.e.now.ty c.in-Cast.inner in search rules

pub is_expr-returns-else-is_expr : goal.is_expr-returns-else-is_expr
is_expr-returns-else-is_expr t c = let e = ap (λ k. spec.is_expr (seen c.args.at.now) c.args.e.now.ty k) c.in-Cast.is ∙ expr-Cast (seen c.args.at.now) c.args.e.now.ty c.in-Cast.inner in search rules

pub is_expr-returns-then-is_expr-2 : goal.is_expr-returns-then-is_expr-2
is_expr-returns-then-is_expr-2 t c = let e = ap (λ k. spec.is_expr (seen c.args.at.now) c.args.e.now.ty k) c.in-Convert.is ∙ expr-Convert (seen c.args.at.now) c.args.e.now.ty c.in-Convert.inner in search rules

pub is_expr-returns-else-is_expr-2 : goal.is_expr-returns-else-is_expr-2
is_expr-returns-else-is_expr-2 t c = let e = ap (λ k. spec.is_expr (seen c.args.at.now) c.args.e.now.ty k) c.in-Convert.is ∙ expr-Convert (seen c.args.at.now) c.args.e.now.ty c.in-Convert.inner in search rules

pub is_expr-returns-then-is_expr-3 : goal.is_expr-returns-then-is_expr-3
is_expr-returns-then-is_expr-3 t c = let e = ap (λ k. spec.is_expr (seen c.args.at.now) c.args.e.now.ty k) c.in-Unary.is ∙ expr-Unary (seen c.args.at.now) c.args.e.now.ty c.in-Unary.operator c.in-Unary.inner in search rules

pub is_expr-returns-else-is_expr-3 : goal.is_expr-returns-else-is_expr-3
is_expr-returns-else-is_expr-3 t c = let e = ap (λ k. spec.is_expr (seen c.args.at.now) c.args.e.now.ty k) c.in-Unary.is ∙ expr-Unary (seen c.args.at.now) c.args.e.now.ty c.in-Unary.operator c.in-Unary.inner in search rules

pub is_expr-returns-then-is_expr-5 : goal.is_expr-returns-then-is_expr-5
is_expr-returns-then-is_expr-5 t c = let e = ap (λ k. spec.is_expr (seen c.args.at.now) c.args.e.now.ty k) c.in-Binary.is ∙ expr-Binary (seen c.args.at.now) c.args.e.now.ty c.in-Binary.operator c.in-Binary.a c.in-Binary.b in search rules

pub is_expr-returns-else-is_expr-5 : goal.is_expr-returns-else-is_expr-5
is_expr-returns-else-is_expr-5 t c = let e = ap (λ k. spec.is_expr (seen c.args.at.now) c.args.e.now.ty k) c.in-Binary.is ∙ expr-Binary (seen c.args.at.now) c.args.e.now.ty c.in-Binary.operator c.in-Binary.a c.in-Binary.b in search rules

pub is_expr-returns-then-is_expr-7 : goal.is_expr-returns-then-is_expr-7
is_expr-returns-then-is_expr-7 t c = let e = ap (λ k. spec.is_expr (seen c.args.at.now) c.args.e.now.ty k) c.in-Logical.is ∙ expr-Logical (seen c.args.at.now) c.args.e.now.ty c.in-Logical.field-0 c.in-Logical.a c.in-Logical.b in search rules

pub is_expr-returns-else-is_expr-7 : goal.is_expr-returns-else-is_expr-7
is_expr-returns-else-is_expr-7 t c = let e = ap (λ k. spec.is_expr (seen c.args.at.now) c.args.e.now.ty k) c.in-Logical.is ∙ expr-Logical (seen c.args.at.now) c.args.e.now.ty c.in-Logical.field-0 c.in-Logical.a c.in-Logical.b in search rules

pub is_expr-returns-then-is_expr-10 : goal.is_expr-returns-then-is_expr-10
is_expr-returns-then-is_expr-10 t c = let e = ap (λ k. spec.is_expr (seen c.args.at.now) c.args.e.now.ty k) c.in-Conditional.is ∙ expr-Conditional (seen c.args.at.now) c.args.e.now.ty c.in-Conditional.c c.in-Conditional.a c.in-Conditional.b in search rules

pub is_expr-returns-else-is_expr-10 : goal.is_expr-returns-else-is_expr-10
is_expr-returns-else-is_expr-10 t c = let e = ap (λ k. spec.is_expr (seen c.args.at.now) c.args.e.now.ty k) c.in-Conditional.is ∙ expr-Conditional (seen c.args.at.now) c.args.e.now.ty c.in-Conditional.c c.in-Conditional.a c.in-Conditional.b in search rules

pub is_place-returns-then-is_expr : goal.is_place-returns-then-is_expr
is_place-returns-then-is_expr t c = let e = ap (λ k. spec.is_place (seen c.args.at.now) c.args.place.now.ty k) c.in-Deref.is ∙ place-Deref (seen c.args.at.now) c.args.place.now.ty c.in-Deref.e in search rules

pub is_place-returns-else-is_expr : goal.is_place-returns-else-is_expr
is_place-returns-else-is_expr t c = let e = ap (λ k. spec.is_place (seen c.args.at.now) c.args.place.now.ty k) c.in-Deref.is ∙ place-Deref (seen c.args.at.now) c.args.place.now.ty c.in-Deref.e in search rules

pub is_place-returns-then-is_expr-2 : goal.is_place-returns-then-is_expr-2
is_place-returns-then-is_expr-2 t c = let e = ap (λ k. spec.is_place (seen c.args.at.now) c.args.place.now.ty k) c.in-Arrow.is ∙ place-Arrow (seen c.args.at.now) c.args.place.now.ty c.in-Arrow.e in search rules

pub is_place-returns-else-is_expr-2 : goal.is_place-returns-else-is_expr-2
is_place-returns-else-is_expr-2 t c = let e = ap (λ k. spec.is_place (seen c.args.at.now) c.args.place.now.ty k) c.in-Arrow.is ∙ place-Arrow (seen c.args.at.now) c.args.place.now.ty c.in-Arrow.e in search rules

pub is_place-returns-then-is_expr-4 : goal.is_place-returns-then-is_expr-4
is_place-returns-then-is_expr-4 t c = let e = ap (λ k. spec.is_place (seen c.args.at.now) c.args.place.now.ty k) c.in-Item.is ∙ place-Item (seen c.args.at.now) c.args.place.now.ty c.in-Item.pointer c.in-Item.index in search rules

pub is_place-returns-else-is_expr-4 : goal.is_place-returns-else-is_expr-4
is_place-returns-else-is_expr-4 t c = let e = ap (λ k. spec.is_place (seen c.args.at.now) c.args.place.now.ty k) c.in-Item.is ∙ place-Item (seen c.args.at.now) c.args.place.now.ty c.in-Item.pointer c.in-Item.index in search rules

pub is_place-returns-then-is_expr-5 : goal.is_place-returns-then-is_expr-5
is_place-returns-then-is_expr-5 t c = let e = ap (λ k. spec.is_place (seen c.args.at.now) c.args.place.now.ty k) c.in-Element.is ∙ place-Element (seen c.args.at.now) c.args.place.now.ty c.in-Element.array c.in-Element.index in search rules

pub is_place-returns-else-is_expr-5 : goal.is_place-returns-else-is_expr-5
is_place-returns-else-is_expr-5 t c = let e = ap (λ k. spec.is_place (seen c.args.at.now) c.args.place.now.ty k) c.in-Element.is ∙ place-Element (seen c.args.at.now) c.args.place.now.ty c.in-Element.array c.in-Element.index in search rules

pub is_place-returns-then-is_place-2 : goal.is_place-returns-then-is_place-2
is_place-returns-then-is_place-2 t c = let e = ap (λ k. spec.is_place (seen c.args.at.now) c.args.place.now.ty k) c.in-Field.is ∙ place-Field (seen c.args.at.now) c.args.place.now.ty c.in-Field.whole c.in-Field.number in search rules

pub is_place-returns-else-is_place-2 : goal.is_place-returns-else-is_place-2
is_place-returns-else-is_place-2 t c = let e = ap (λ k. spec.is_place (seen c.args.at.now) c.args.place.now.ty k) c.in-Field.is ∙ place-Field (seen c.args.at.now) c.args.place.now.ty c.in-Field.whole c.in-Field.number in search rules

pub is_place-returns-then-is_place-3 : goal.is_place-returns-then-is_place-3
is_place-returns-then-is_place-3 t c = let e = ap (λ k. spec.is_place (seen c.args.at.now) c.args.place.now.ty k) c.in-Member.is ∙ place-Member (seen c.args.at.now) c.args.place.now.ty c.in-Member.whole c.in-Member.number in search rules

pub is_place-returns-else-is_place-3 : goal.is_place-returns-else-is_place-3
is_place-returns-else-is_place-3 t c = let e = ap (λ k. spec.is_place (seen c.args.at.now) c.args.place.now.ty k) c.in-Member.is ∙ place-Member (seen c.args.at.now) c.args.place.now.ty c.in-Member.whole c.in-Member.number in search rules
