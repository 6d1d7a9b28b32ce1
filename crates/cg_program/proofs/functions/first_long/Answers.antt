use Rattle.std.proofs.Common.{◌∙◌, sym}
use Rattle.cg_program.proofs.CodeLemmas.{none_at_first, none_next, long_here, none_long}
use Rattle.cg_program.proofs.functions.first_long.Goals as goal

pub loop-number-init : goal.loop-number-init
loop-number-init c = none_at_first c.args.functions.now

pub loop-number-preserved : goal.loop-number-preserved
loop-number-preserved c =
    none_next c.args.functions.now c.loop-number.number c.index-functions-number.result c.loop-number-test.true c.index-functions-number.is (sym c.is_long.ensures ∙ c.if-is_long.false) c.loop-number.invariant

pub returns-then-is_long : goal.returns-then-is_long
returns-then-is_long c =
    long_here c.args.functions.now c.loop-number.number c.index-functions-number.result c.loop-number-test.true c.index-functions-number.is (sym c.is_long.ensures ∙ c.if-is_long.true) c.loop-number.invariant

pub returns : goal.returns
returns c = none_long c.args.functions.now c.loop-number.number c.loop-number-test.false c.loop-number.invariant
