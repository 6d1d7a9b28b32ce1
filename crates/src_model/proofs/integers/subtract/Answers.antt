use Rattle.std.proofs.Common.{rules, ◌∙◌, ap, FitsSigned}
use Rattle.std.specs.Int.{w128}
use Rattle.std.proofs.lemmas.Int.{to_z-of_z, wrapping_sub_is}
use Rattle.src_meaning.specs.Integers.{wrapped}
use Rattle.src_meaning.proofs.Wrapping.{wrapped-int_wrap}
use Rattle.src_model.proofs.integers.subtract.Goals as goal

pub returns : goal.returns
returns c =
    let fits : FitsSigned w128 c.wrap.result = search rules in
    to_z-of_z w128 c.wrap.result fits
    ∙ c.wrap.ensures
    ∙ ap (wrapped c.args.kind) (wrapping_sub_is w128 c.args.a c.args.b c.ranges.a c.ranges.b)
    ∙ wrapped-int_wrap c.args.kind _
