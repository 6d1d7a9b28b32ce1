use Rattle.std.proofs.Common.{◌≡◌, ◌∙◌, ap, ◌++◌, ◌∷◌, []}
use Rattle.std.proofs.lemmas.Result.{on_ok_weaker}
use Rattle.bm_isa.specs.declared.instr.Instr.TheVariants as I
use Rattle.cg_expr.specs.Pieces.{normal, unary_last}
use Rattle.cg_expr.proofs.TreeCode as tree
use Rattle.cg_expr.proofs.emit.+emit.Goals as goal

pub put_address-returns-in-Deref : goal.put_address-returns-in-Deref
put_address-returns-in-Deref t c =
    on_ok_weaker c.put_expression.result (λ h. tree.address_puts-Deref _ _ _ _ _ _ _ c.in-Deref.is c.get.ensures h) c.put_expression.ensures

pub put_address-returns-in_ok-put_expression-in-Item-2 : goal.put_address-returns-in_ok-put_expression-in-Item-2
put_address-returns-in_ok-put_expression-in-Item-2 t c =
    on_ok_weaker c.put.result (λ h. tree.address_puts-Item _ _ _ _ _ _ _ _ _ _ _ _ c.in-Item.is c.get-in-Item.ensures c.get-in-Item-2.ensures c.get-in-Item-3.ensures c.in_ok-put_expression-in-Item.ensures c.in_ok-put_expression-in-Item-2.ensures (h ∙ ap (λ n. c.put_expression-in-Item-2.new.code.items ++ I.AddPointer n ∷ []) c.element_size-size.ensures)) c.put.ensures

pub put_address-returns-in_ok-put_expression-in-Element : goal.put_address-returns-in_ok-put_expression-in-Element
put_address-returns-in_ok-put_expression-in-Element t c =
    on_ok_weaker c.put_element_end_last.result (λ h. tree.address_puts-Element _ _ _ _ _ _ _ _ _ _ _ _ c.in-Element.is c.get-in-Element.ensures c.get-in-Element-2.ensures c.get-in-Element-3.ensures c.in_ok-put_place-in-Element.ensures c.in_ok-put_expression-in-Element.ensures h) c.put_element_end_last.ensures

pub put_expression-returns-in_ok-put_place-in-Load : goal.put_expression-returns-in_ok-put_place-in-Load
put_expression-returns-in_ok-put_place-in-Load t c =
    on_ok_weaker c.put_load.result (λ h. tree.expression_puts-Load _ _ _ _ _ _ _ _ _ c.in-Load.is c.get.ensures c.get.ensures c.in_ok-put_place-in-Load.ensures h) c.put_load.ensures

pub put_expression-returns-in-AddressOf : goal.put_expression-returns-in-AddressOf
put_expression-returns-in-AddressOf t c =
    on_ok_weaker c.put_address.result (λ h. tree.expression_puts-AddressOf _ _ _ _ _ _ _ c.in-AddressOf.is c.get-in-AddressOf.ensures h) c.put_address.ensures

pub put_expression-returns-in-Decay : goal.put_expression-returns-in-Decay
put_expression-returns-in-Decay t c =
    on_ok_weaker c.put_place-in-Decay.result (λ h. tree.expression_puts-Decay _ _ _ _ _ _ _ c.in-Decay.is c.get-in-Decay.ensures h) c.put_place-in-Decay.ensures

pub put_expression-returns-in_ok-put_expression-in-Cast : goal.put_expression-returns-in_ok-put_expression-in-Cast
put_expression-returns-in_ok-put_expression-in-Cast t c =
    on_ok_weaker c.put_normal.result (λ h. tree.expression_puts-Cast _ _ _ _ _ _ _ _ _ c.in-Cast.is c.get-in-Cast.ensures c.get-in-Cast.ensures c.in_ok-put_expression-in-Cast.ensures (h ∙ ap (λ o. c.put_expression.new.code.items ++ normal o) c.type_of.ensures)) c.put_normal.ensures

pub put_expression-returns-in_ok-put_expression-in-Convert : goal.put_expression-returns-in_ok-put_expression-in-Convert
put_expression-returns-in_ok-put_expression-in-Convert t c =
    on_ok_weaker c.put_normal-in-Convert.result (λ h. tree.expression_puts-Convert _ _ _ _ _ _ _ _ _ c.in-Convert.is c.get-in-Convert.ensures c.get-in-Convert.ensures c.in_ok-put_expression-in-Convert.ensures (h ∙ ap (λ o. c.put_expression-in-Convert.new.code.items ++ normal o) c.type_of-in-Convert.ensures)) c.put_normal-in-Convert.ensures

pub put_expression-returns-in_ok-put_expression-in-Unary : goal.put_expression-returns-in_ok-put_expression-in-Unary
put_expression-returns-in_ok-put_expression-in-Unary t c =
    on_ok_weaker c.put_unary_last.result (λ h. tree.expression_puts-Unary _ _ _ _ _ _ _ _ _ _ c.in-Unary.is c.get-in-Unary.ensures c.in_ok-put_unary_first-in-Unary.ensures c.in_ok-put_expression-in-Unary.ensures (h ∙ ap (λ o. c.put_expression-in-Unary.new.code.items ++ unary_last o c.in-Unary.operator) c.type_of-in-Unary.ensures)) c.put_unary_last.ensures

pub put_expression-returns-in_ok-put_expression-in-Binary-2 : goal.put_expression-returns-in_ok-put_expression-in-Binary-2
put_expression-returns-in_ok-put_expression-in-Binary-2 t c =
    on_ok_weaker c.put_binary_last.result (λ h. tree.expression_puts-Binary _ _ _ _ _ _ _ _ _ _ _ _ _ c.in-Binary.is c.get-in-Binary.ensures c.get-in-Binary-2.ensures c.get-in-Binary-3.ensures c.in_ok-put_expression-in-Binary.ensures c.in_ok-put_expression-in-Binary-2.ensures h) c.put_binary_last.ensures

pub put_expression-returns-in_ok-put_expression-in-Logical-2 : goal.put_expression-returns-in_ok-put_expression-in-Logical-2
put_expression-returns-in_ok-put_expression-in-Logical-2 t c =
    on_ok_weaker c.put_decided.result (λ h. tree.expression_puts-Logical _ _ _ _ _ _ _ _ _ _ _ _ _ _ _ _ _ _ _ c.in-Logical.is c.deref.ensures.value c.get-in-Logical.ensures c.get-in-Logical-2.ensures c.get-in-Logical-3.ensures c.get-in-Logical-4.ensures c.in_ok-to-in-Logical.ensures.other c.in_ok-to-in-Logical.ensures.end c.in_ok-put_expression-in-Logical.ensures c.in_ok-put_logical_first-in-Logical.ensures c.in_ok-put-in-Logical.ensures c.in_ok-put_expression-in-Logical-2.ensures h) c.put_decided.ensures

pub put_expression-returns-in_ok-put-in-Conditional-2 : goal.put_expression-returns-in_ok-put-in-Conditional-2
put_expression-returns-in_ok-put-in-Conditional-2 t c =
    on_ok_weaker c.put_expression-in-Conditional-3.result (λ h. tree.expression_puts-Conditional _ _ _ _ _ _ _ _ _ _ _ _ _ _ _ _ _ _ _ _ _ c.in-Conditional.is c.deref-in-Conditional.ensures.value c.get-in-Conditional.ensures c.get-in-Conditional-2.ensures c.get-in-Conditional-3.ensures c.get-in-Conditional-4.ensures c.get-in-Conditional-5.ensures c.get-in-Conditional-6.ensures c.in_ok-to-in-Conditional.ensures.other c.in_ok-to-in-Conditional.ensures.end c.in_ok-put_expression-in-Conditional.ensures c.in_ok-put-in-Conditional.ensures c.in_ok-put_expression-in-Conditional-2.ensures c.in_ok-put-in-Conditional-2.ensures h) c.put_expression-in-Conditional-3.ensures

pub put_place-returns-in_ok-put_expression-in-Deref : goal.put_place-returns-in_ok-put_expression-in-Deref
put_place-returns-in_ok-put_expression-in-Deref t c =
    on_ok_weaker c.put_check.result (λ h. tree.place_puts-Deref _ _ _ _ _ _ _ _ _ _ c.in-Deref.is c.get.ensures c.get.ensures c.in_ok-put_expression-in-Deref.ensures h) c.put_check.ensures

pub put_place-returns-in_ok-put_expression-in-Arrow : goal.put_place-returns-in_ok-put_expression-in-Arrow
put_place-returns-in_ok-put_expression-in-Arrow t c =
    on_ok_weaker c.put_check-in-Arrow.result (λ h. tree.place_puts-Arrow _ _ _ _ _ _ _ _ _ _ c.in-Arrow.is c.get-in-Arrow.ensures c.get-in-Arrow.ensures c.in_ok-put_expression-in-Arrow.ensures h) c.put_check-in-Arrow.ensures

pub put_place-returns-in_ok-put_expression-in-Item-2 : goal.put_place-returns-in_ok-put_expression-in-Item-2
put_place-returns-in_ok-put_expression-in-Item-2 t c =
    on_ok_weaker c.put_item_last.result (λ h. tree.place_puts-Item _ _ _ _ _ _ _ _ _ _ _ _ _ c.in-Item.is c.get-in-Item.ensures c.get-in-Item-2.ensures c.get-in-Item-3.ensures c.in_ok-put_expression-in-Item.ensures c.in_ok-put_expression-in-Item-2.ensures h) c.put_item_last.ensures

pub put_place-returns-in_ok-put_expression-in-Element : goal.put_place-returns-in_ok-put_expression-in-Element
put_place-returns-in_ok-put_expression-in-Element t c =
    on_ok_weaker c.put_element_last.result (λ h. tree.place_puts-Element _ _ _ _ _ _ _ _ _ _ _ _ _ c.in-Element.is c.get-in-Element.ensures c.get-in-Element-2.ensures c.get-in-Element-3.ensures c.in_ok-put_place-in-Element.ensures c.in_ok-put_expression-in-Element.ensures h) c.put_element_last.ensures

pub put_place-returns-in_ok-put_place-in-Field : goal.put_place-returns-in_ok-put_place-in-Field
put_place-returns-in_ok-put_place-in-Field t c =
    on_ok_weaker c.put_field_last.result (λ h. tree.place_puts-Field _ _ _ _ _ _ _ _ _ _ _ c.in-Field.is c.get-in-Field.ensures c.get-in-Field-2.ensures c.in_ok-put_place-in-Field.ensures h) c.put_field_last.ensures

pub put_place-returns-in_ok-put_place-in-Member : goal.put_place-returns-in_ok-put_place-in-Member
put_place-returns-in_ok-put_place-in-Member t c =
    on_ok_weaker c.put_to_member.result (λ h. tree.place_puts-Member _ _ _ _ _ _ _ _ _ _ _ c.in-Member.is c.get-in-Member.ensures c.get-in-Member-2.ensures c.in_ok-put_place-in-Member.ensures h) c.put_to_member.ensures
