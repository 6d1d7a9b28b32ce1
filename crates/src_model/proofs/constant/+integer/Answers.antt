use Rattle.std.proofs.Common.{◌∙◌, sym}
use Rattle.src_meaning.specs.Initial.{initial_scope}
use Rattle.src_meaning.proofs.ConstantLayers.{cast_is, convert_is, unary_is, binary_is, logical_is, conditional_is}
use Rattle.src_model.proofs.constant.+integer.Goals as goal

pub returns-in-Cast : goal.returns-in-Cast
returns-in-Cast t c =
    cast_is (initial_scope c.args.p.now) c.args.e.now.ty c.in-Some.kind (sym c.kind_at.ensures ∙ c.in-Some.is) _ _ _ _ _ c.in-Cast.is c.get.ensures c.integer.ensures c.converted.ensures

pub returns-in-Convert : goal.returns-in-Convert
returns-in-Convert t c =
    convert_is (initial_scope c.args.p.now) c.args.e.now.ty c.in-Some.kind (sym c.kind_at.ensures ∙ c.in-Some.is) _ _ _ _ _ c.in-Convert.is c.get-in-Convert.ensures c.integer-in-Convert.ensures c.converted-in-Convert.ensures

pub returns-in-Unary : goal.returns-in-Unary
returns-in-Unary t c =
    unary_is (initial_scope c.args.p.now) c.args.e.now.ty c.in-Some.kind (sym c.kind_at.ensures ∙ c.in-Some.is) _ _ _ _ _ _ c.in-Unary.is c.get-in-Unary.ensures c.integer-in-Unary.ensures c.on_one.ensures

pub returns-in-Binary : goal.returns-in-Binary
returns-in-Binary t c =
    binary_is (initial_scope c.args.p.now) c.args.e.now.ty c.in-Some.kind (sym c.kind_at.ensures ∙ c.in-Some.is) _ _ _ _ _ _ _ _ _ c.in-Binary.is c.get-in-Binary.ensures c.get-in-Binary-2.ensures c.integer-in-Binary.ensures c.integer-in-Binary-2.ensures c.on_two.ensures

pub returns-in-Logical : goal.returns-in-Logical
returns-in-Logical t c =
    logical_is (initial_scope c.args.p.now) c.args.e.now.ty c.in-Some.kind (sym c.kind_at.ensures ∙ c.in-Some.is) _ _ _ _ _ _ _ _ _ c.in-Logical.is c.get-in-Logical.ensures c.get-in-Logical-2.ensures c.integer-in-Logical.ensures c.integer-in-Logical-2.ensures (rw (← c.test-a.ensures, ← c.test-b.ensures, ← c.logical.ensures) c.flagged.ensures)

pub returns-in-Conditional : goal.returns-in-Conditional
returns-in-Conditional t c =
    conditional_is (initial_scope c.args.p.now) c.args.e.now.ty c.in-Some.kind (sym c.kind_at.ensures ∙ c.in-Some.is) _ _ _ _ _ _ _ _ _ _ _ c.in-Conditional.is c.get-in-Conditional-3.ensures c.get-in-Conditional.ensures c.get-in-Conditional-2.ensures c.integer-in-Conditional.ensures c.integer-a.ensures c.integer-b.ensures (rw (← c.test.ensures) c.chosen.ensures)
