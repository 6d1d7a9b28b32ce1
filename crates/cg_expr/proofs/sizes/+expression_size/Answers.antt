use Rattle.std.proofs.Common.{◌≡◌, ◌∙◌, ◌+◌, ap, length}
use Rattle.cg_expr.specs.Pieces.{normal, unary_first, unary_last}
use Rattle.cg_expr.specs.Sizes.{load_last}
use Rattle.cg_expr.proofs.Sums.{ok_is}
use Rattle.cg_expr.proofs.TreeSizes as tree
use Rattle.cg_expr.proofs.sizes.+expression_size.Goals as goal

pub address_size-returns-in-Deref : goal.address_size-returns-in-Deref
address_size-returns-in-Deref t c = ok_is _ _ _ c.expression_size.ensures (tree.address_is-Deref _ _ _ _ c.in-Deref.is c.get.ensures)

pub address_size-returns-in_ok-sum-in-Item : goal.address_size-returns-in_ok-sum-in-Item
address_size-returns-in_ok-sum-in-Item t c = ok_is _ _ _ c.sum-in-Item.ensures (tree.address_is-Item _ _ _ _ _ _ _ _ _ c.in-Item.is c.get-in-Item.ensures c.get-in-Item-2.ensures c.in_ok-expression_size-in-Item.ensures c.in_ok-expression_size-in-Item-2.ensures c.in_ok-sum-in-Item.ensures)

pub address_size-returns-in_ok-sum-in-Element : goal.address_size-returns-in_ok-sum-in-Element
address_size-returns-in_ok-sum-in-Element t c = ok_is _ _ _ c.sum-in-Element-2.ensures (tree.address_is-Element _ _ _ _ _ _ _ _ _ c.in-Element.is c.get-in-Element.ensures c.get-in-Element-2.ensures c.in_ok-place_size-in-Element.ensures c.in_ok-expression_size-in-Element.ensures c.in_ok-sum-in-Element.ensures)

pub address_size-returns-in_ok-expression_size-in-Arrow : goal.address_size-returns-in_ok-expression_size-in-Arrow
address_size-returns-in_ok-expression_size-in-Arrow t c = ok_is _ _ _ c.sum-in-Arrow.ensures (tree.address_is-Arrow _ _ _ _ _ c.in-Arrow.is c.get-in-Arrow.ensures c.in_ok-expression_size-in-Arrow.ensures)

pub address_size-returns-in_ok-place_size-in-Field : goal.address_size-returns-in_ok-place_size-in-Field
address_size-returns-in_ok-place_size-in-Field t c = ok_is _ _ _ c.sum-in-Field.ensures (tree.address_is-Field _ _ _ _ _ _ c.in-Field.is c.get-in-Field.ensures c.in_ok-place_size-in-Field.ensures)

pub address_size-returns-in_ok-place_size-in-Member : goal.address_size-returns-in_ok-place_size-in-Member
address_size-returns-in_ok-place_size-in-Member t c = ok_is _ _ _ c.sum-in-Member.ensures (tree.address_is-Member _ _ _ _ _ _ c.in-Member.is c.get-in-Member.ensures c.in_ok-place_size-in-Member.ensures)

pub place_size-returns-in_ok-expression_size-in-Deref : goal.place_size-returns-in_ok-expression_size-in-Deref
place_size-returns-in_ok-expression_size-in-Deref t c = ok_is _ _ _ c.sum.ensures (tree.place_is-Deref _ _ _ _ _ c.in-Deref.is c.get.ensures c.in_ok-expression_size-in-Deref.ensures)

pub place_size-returns-in_ok-expression_size-in-Arrow : goal.place_size-returns-in_ok-expression_size-in-Arrow
place_size-returns-in_ok-expression_size-in-Arrow t c = ok_is _ _ _ c.sum-in-Arrow.ensures (tree.place_is-Arrow _ _ _ _ _ c.in-Arrow.is c.get-in-Arrow.ensures c.in_ok-expression_size-in-Arrow.ensures)

pub place_size-returns-in_ok-sum-in-Item : goal.place_size-returns-in_ok-sum-in-Item
place_size-returns-in_ok-sum-in-Item t c = ok_is _ _ _ c.sum-in-Item-2.ensures (tree.place_is-Item _ _ _ _ _ _ _ _ _ c.in-Item.is c.get-in-Item.ensures c.get-in-Item-2.ensures c.in_ok-expression_size-in-Item.ensures c.in_ok-expression_size-in-Item-2.ensures c.in_ok-sum-in-Item.ensures)

pub place_size-returns-in_ok-sum-in-Element : goal.place_size-returns-in_ok-sum-in-Element
place_size-returns-in_ok-sum-in-Element t c = ok_is _ _ _ c.sum-in-Element-2.ensures (tree.place_is-Element _ _ _ _ _ _ _ _ _ c.in-Element.is c.get-in-Element.ensures c.get-in-Element-2.ensures c.in_ok-place_size-in-Element.ensures c.in_ok-expression_size-in-Element.ensures c.in_ok-sum-in-Element.ensures)

pub place_size-returns-in_ok-place_size-in-Field : goal.place_size-returns-in_ok-place_size-in-Field
place_size-returns-in_ok-place_size-in-Field t c = ok_is _ _ _ c.sum-in-Field.ensures (tree.place_is-Field _ _ _ _ _ _ c.in-Field.is c.get-in-Field.ensures c.in_ok-place_size-in-Field.ensures)

pub place_size-returns-in_ok-place_size-in-Member : goal.place_size-returns-in_ok-place_size-in-Member
place_size-returns-in_ok-place_size-in-Member t c = ok_is _ _ _ c.sum-in-Member.ensures (tree.place_is-Member _ _ _ _ _ _ c.in-Member.is c.get-in-Member.ensures c.in_ok-place_size-in-Member.ensures)

pub expression_size-returns-in_ok-place_size-in-Load : goal.expression_size-returns-in_ok-place_size-in-Load
expression_size-returns-in_ok-place_size-in-Load t c = ok_is _ _ _ c.sum.ensures (tree.expression_is-Load _ _ _ _ _ _ _ c.in-Load.is c.get.ensures c.in_ok-place_size-in-Load.ensures (c.load_size.ensures c.args.types.now.pointer ∙ ap (λ o. length (load_last c.args.types.now.pointer o)) c.type_of-ty.ensures))

pub expression_size-returns-in-AddressOf : goal.expression_size-returns-in-AddressOf
expression_size-returns-in-AddressOf t c = ok_is _ _ _ c.address_size.ensures (tree.expression_is-AddressOf _ _ _ _ _ c.in-AddressOf.is c.get-in-AddressOf.ensures)

pub expression_size-returns-in-Decay : goal.expression_size-returns-in-Decay
expression_size-returns-in-Decay t c = ok_is _ _ _ c.place_size-in-Decay.ensures (tree.expression_is-Decay _ _ _ _ _ c.in-Decay.is c.get-in-Decay.ensures)

pub expression_size-returns-in_ok-expression_size-in-Cast : goal.expression_size-returns-in_ok-expression_size-in-Cast
expression_size-returns-in_ok-expression_size-in-Cast t c = ok_is _ _ _ c.sum-in-Cast.ensures (tree.expression_is-Cast _ _ _ _ _ _ _ c.in-Cast.is c.get-in-Cast.ensures c.in_ok-expression_size-in-Cast.ensures (c.normal_size.ensures ∙ ap (λ o. length (normal o)) c.type_of-ty.ensures))

pub expression_size-returns-in_ok-expression_size-in-Convert : goal.expression_size-returns-in_ok-expression_size-in-Convert
expression_size-returns-in_ok-expression_size-in-Convert t c = ok_is _ _ _ c.sum-in-Convert.ensures (tree.expression_is-Convert _ _ _ _ _ _ _ c.in-Convert.is c.get-in-Convert.ensures c.in_ok-expression_size-in-Convert.ensures (c.normal_size-in-Convert.ensures ∙ ap (λ o. length (normal o)) c.type_of-ty.ensures))

pub expression_size-returns-in_ok-expression_size-in-Unary : goal.expression_size-returns-in_ok-expression_size-in-Unary
expression_size-returns-in_ok-expression_size-in-Unary t c = ok_is _ _ _ c.sum-in-Unary.ensures (tree.expression_is-Unary _ _ _ _ _ _ _ _ c.in-Unary.is c.get-in-Unary.ensures c.in_ok-expression_size-in-Unary.ensures (c.unary_size.ensures ∙ ap (λ o. length (unary_first c.in-Unary.operator) + length (unary_last o c.in-Unary.operator)) c.type_of-ty.ensures))

pub expression_size-returns-in_ok-sum-in-Binary : goal.expression_size-returns-in_ok-sum-in-Binary
expression_size-returns-in_ok-sum-in-Binary t c = ok_is _ _ _ c.sum-in-Binary-2.ensures (tree.expression_is-Binary _ _ _ _ _ _ _ _ _ _ _ _ c.in-Binary.is c.get-in-Binary.ensures c.get-in-Binary-2.ensures c.in_ok-expression_size-in-Binary.ensures c.in_ok-expression_size-in-Binary-2.ensures c.in_ok-sum-in-Binary.ensures (c.binary_size.ensures c.in-Binary.a.ty))

pub expression_size-returns-in_ok-sum-in-Logical-2 : goal.expression_size-returns-in_ok-sum-in-Logical-2
expression_size-returns-in_ok-sum-in-Logical-2 t c = ok_is _ _ _ c.choice_size.ensures (tree.expression_is-Logical _ _ _ _ _ _ _ _ _ _ _ _ _ c.in-Logical.is c.get-in-Logical.ensures c.get-in-Logical-2.ensures c.in_ok-expression_size-in-Logical.ensures c.logical_first_size.ensures c.in_ok-sum-in-Logical.ensures c.in_ok-expression_size-in-Logical-2.ensures c.in_ok-sum-in-Logical-2.ensures)

pub expression_size-returns-in_ok-expression_size-in-Conditional-3 : goal.expression_size-returns-in_ok-expression_size-in-Conditional-3
expression_size-returns-in_ok-expression_size-in-Conditional-3 t c = ok_is _ _ _ c.choice_size-in-Conditional.ensures (tree.expression_is-Conditional _ _ _ _ _ _ _ _ _ _ _ _ c.in-Conditional.is c.get-in-Conditional.ensures c.get-in-Conditional-2.ensures c.get-in-Conditional-3.ensures c.in_ok-expression_size-in-Conditional.ensures c.in_ok-expression_size-in-Conditional-2.ensures c.in_ok-expression_size-in-Conditional-3.ensures)
