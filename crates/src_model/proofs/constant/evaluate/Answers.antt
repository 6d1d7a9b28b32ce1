use Rattle.std.proofs.Common.{◌∙◌, sym}
use Rattle.src_meaning.specs.Initial.{initial_scope}
use Rattle.src_meaning.proofs.ConstantValues.{evaluate-null, evaluate-address, evaluate-decay}
use Rattle.src_model.proofs.constant.evaluate.Goals as goal

pub returns-then-is_null_constant : goal.returns-then-is_null_constant
returns-then-is_null_constant c =
    evaluate-null (initial_scope c.args.p.now) c.args.e.now (sym c.is_integer_constant.ensures ∙ c.if-is_integer_constant.false) (sym c.is_null_constant.ensures ∙ c.if-is_null_constant.true)

pub returns-in-AddressOf : goal.returns-in-AddressOf
returns-in-AddressOf c = evaluate-address c.args.p.now c.args.e.now _ _ _ c.in-AddressOf.is c.get.ensures c.start.ensures

pub returns-in-Decay : goal.returns-in-Decay
returns-in-Decay c =
    evaluate-decay c.args.p.now c.args.e.now _ _ _ c.in-Decay.is c.get-in-Decay.ensures c.start-in-Decay.ensures
