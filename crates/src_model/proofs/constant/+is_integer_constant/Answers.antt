use Rattle.std.proofs.Common.{◌∙◌, ap}
use Rattle.src_meaning.specs.ValidTypes.{is_integer}
use Rattle.src_meaning.proofs.ConstantLayers.{cast_form, convert_form, unary_form, binary_form, logical_form, conditional_form}
use Rattle.src_model.proofs.constant.+is_integer_constant.Goals as goal

pub returns-in-Unary : goal.returns-in-Unary
returns-in-Unary t c =
    unary_form _ _ _ _ _ _ _ _ c.in-Unary.is c.get-in-Unary.ensures (c.is_integer-is_integer.ensures ∙ ap is_integer c.type_of.ensures) c.is_integer_constant-in-Unary.ensures

pub returns-in-Binary : goal.returns-in-Binary
returns-in-Binary t c =
    binary_form _ _ _ _ _ _ _ _ _ _ _ _ c.in-Binary.is c.get-in-Binary.ensures c.get-in-Binary-2.ensures (c.is_integer-is_integer.ensures ∙ ap is_integer c.type_of.ensures) c.takes_integers.ensures c.is_integer_constant-in-Binary.ensures c.is_integer_constant-in-Binary-2.ensures

pub returns-in-Logical : goal.returns-in-Logical
returns-in-Logical t c =
    logical_form _ _ _ _ _ _ _ _ _ _ _ c.in-Logical.is c.get-in-Logical.ensures c.get-in-Logical-2.ensures (c.is_integer-is_integer.ensures ∙ ap is_integer c.type_of.ensures) c.is_integer_constant-in-Logical.ensures c.is_integer_constant-in-Logical-2.ensures

pub returns-in-Conditional : goal.returns-in-Conditional
returns-in-Conditional t c =
    conditional_form _ _ _ _ _ _ _ _ _ _ _ _ _ c.in-Conditional.is c.get-in-Conditional.ensures c.get-in-Conditional-2.ensures c.get-in-Conditional-3.ensures (c.is_integer-is_integer.ensures ∙ ap is_integer c.type_of.ensures) c.is_integer_constant-in-Conditional.ensures c.is_integer_constant-in-Conditional-2.ensures c.is_integer_constant-in-Conditional-3.ensures

pub returns-in-Cast : goal.returns-in-Cast
returns-in-Cast t c =
    cast_form _ _ _ _ _ _ _ c.in-Cast.is c.get.ensures (c.is_integer-is_integer.ensures ∙ ap is_integer c.type_of.ensures) c.is_integer_constant.ensures

pub returns-in-Convert : goal.returns-in-Convert
returns-in-Convert t c =
    convert_form _ _ _ _ _ _ _ c.in-Convert.is c.get-in-Convert.ensures (c.is_integer-is_integer.ensures ∙ ap is_integer c.type_of.ensures) c.is_integer_constant-in-Convert.ensures
