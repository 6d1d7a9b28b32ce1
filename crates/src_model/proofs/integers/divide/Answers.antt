use Rattle.std.proofs.Common.{rules, FitsSigned}
use Rattle.std.specs.Int.{w128}
use Rattle.src_meaning.proofs.Wrapping.{quotient_is}
use Rattle.src_model.proofs.integers.divide.Goals as goal

pub returns : goal.returns
returns c =
    let fits : FitsSigned w128 c.wrap.result = search rules in
    let inner : FitsSigned w128 c.wrapping_div.result = search rules in
    quotient_is c.args.kind c.args.a c.args.b c.wrapping_div.result c.wrap.result c.ranges.a c.ranges.b inner fits c.if-b-eq0.false c.wrap.ensures c.wrapping_div.ensures
