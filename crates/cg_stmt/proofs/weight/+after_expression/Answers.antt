use Rattle.std.proofs.Common.{◌∙◌, ap, arith}
use Rattle.std.proofs.lemmas.Grind.{common_steps}
use Rattle.src_meaning.specs.Weight as spec
use Rattle.cg_stmt.proofs.Weights.{weight-AddressOf, weight-Load, weight-Decay, weight-Convert, weight-Cast, weight-Unary, weight-Binary, weight-Logical, weight-Conditional, weight-Deref, weight-Arrow, weight-Item, weight-Element, weight-Field, weight-Member}
use Rattle.cg_stmt.proofs.weight.+after_expression.Goals as goal

pub after_expression-returns-in-AddressOf : goal.after_expression-returns-in-AddressOf
after_expression-returns-in-AddressOf t c = let e = ap spec.expr_weight c.in-AddressOf.is ∙ weight-AddressOf c.in-AddressOf.place in grind (arith, common_steps, e)

pub after_expression-returns-in-Load : goal.after_expression-returns-in-Load
after_expression-returns-in-Load t c = let e = ap spec.expr_weight c.in-Load.is ∙ weight-Load c.in-Load.place in grind (arith, common_steps, e)

pub after_expression-returns-in-Decay : goal.after_expression-returns-in-Decay
after_expression-returns-in-Decay t c = let e = ap spec.expr_weight c.in-Decay.is ∙ weight-Decay c.in-Decay.place in grind (arith, common_steps, e)

pub after_expression-returns-in-Convert : goal.after_expression-returns-in-Convert
after_expression-returns-in-Convert t c = let e = ap spec.expr_weight c.in-Convert.is ∙ weight-Convert c.in-Convert.inner in grind (arith, common_steps, e)

pub after_expression-returns-in-Cast : goal.after_expression-returns-in-Cast
after_expression-returns-in-Cast t c = let e = ap spec.expr_weight c.in-Cast.is ∙ weight-Cast c.in-Cast.inner in grind (arith, common_steps, e)

pub after_expression-returns-in-Unary : goal.after_expression-returns-in-Unary
after_expression-returns-in-Unary t c = let e = ap spec.expr_weight c.in-Unary.is ∙ weight-Unary c.in-Unary.field-0 c.in-Unary.inner in grind (arith, common_steps, e)

pub after_expression-returns-in-Binary : goal.after_expression-returns-in-Binary
after_expression-returns-in-Binary t c = let e = ap spec.expr_weight c.in-Binary.is ∙ weight-Binary c.in-Binary.field-0 c.in-Binary.a c.in-Binary.b in grind (arith, common_steps, e)

pub after_expression-returns-in-Logical : goal.after_expression-returns-in-Logical
after_expression-returns-in-Logical t c = let e = ap spec.expr_weight c.in-Logical.is ∙ weight-Logical c.in-Logical.field-0 c.in-Logical.a c.in-Logical.b in grind (arith, common_steps, e)

pub after_expression-returns-in-Conditional : goal.after_expression-returns-in-Conditional
after_expression-returns-in-Conditional t c = let e = ap spec.expr_weight c.in-Conditional.is ∙ weight-Conditional c.in-Conditional.c c.in-Conditional.a c.in-Conditional.b in grind (arith, common_steps, e)

pub after_place-returns-in-Deref : goal.after_place-returns-in-Deref
after_place-returns-in-Deref t c = let e = ap spec.place_weight c.in-Deref.is ∙ weight-Deref c.in-Deref.e in grind (arith, common_steps, e)

pub after_place-returns-in-Arrow : goal.after_place-returns-in-Arrow
after_place-returns-in-Arrow t c = let e = ap spec.place_weight c.in-Arrow.is ∙ weight-Arrow c.in-Arrow.e in grind (arith, common_steps, e)

pub after_place-returns-in-Item : goal.after_place-returns-in-Item
after_place-returns-in-Item t c = let e = ap spec.place_weight c.in-Item.is ∙ weight-Item c.in-Item.pointer c.in-Item.index in grind (arith, common_steps, e)

pub after_place-returns-in-Element : goal.after_place-returns-in-Element
after_place-returns-in-Element t c = let e = ap spec.place_weight c.in-Element.is ∙ weight-Element c.in-Element.array c.in-Element.index in grind (arith, common_steps, e)

pub after_place-returns-in-Field : goal.after_place-returns-in-Field
after_place-returns-in-Field t c = let e = ap spec.place_weight c.in-Field.is ∙ weight-Field c.in-Field.whole c.in-Field.field-1 in grind (arith, common_steps, e)

pub after_place-returns-in-Member : goal.after_place-returns-in-Member
after_place-returns-in-Member t c = let e = ap spec.place_weight c.in-Member.is ∙ weight-Member c.in-Member.whole c.in-Member.field-1 in grind (arith, common_steps, e)
