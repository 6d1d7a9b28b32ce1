use Rattle.std.proofs.Common.{◌∙◌, ap}
use Rattle.src_meaning.specs.ValidTypes.{is_pointer}
use Rattle.src_meaning.proofs.ConstantValues.{null_form}
use Rattle.src_model.proofs.constant.is_null_constant.Goals as goal

pub returns-in-Convert : goal.returns-in-Convert
returns-in-Convert c =
    null_form _ _ _ _ _ _ _ c.in-Convert.is c.get.ensures (c.is_pointer.ensures ∙ ap is_pointer c.type_of.ensures) c.is_zero_literal.ensures
