use Rattle.std.proofs.Common.{rules, ◌∙◌, ap, FitsSigned}
use Rattle.std.specs.Int.{w128, int_wrapping_neg}
use Rattle.std.proofs.lemmas.Int.{to_z-of_z, wrapping_neg_is}
use Rattle.src_meaning.specs.Integers.{wrapped}
use Rattle.src_meaning.proofs.Wrapping.{wrapped-int_wrap}
use Rattle.src_model.proofs.integers.negate.Goals as goal

pub returns : goal.returns
returns c =
    let fits : FitsSigned w128 c.wrap.result = search rules in
    let inner : FitsSigned w128 c.wrapping_neg.result = search rules in
    to_z-of_z w128 c.wrap.result fits
    ∙ c.wrap.ensures
    ∙ ap (wrapped c.args.kind) (to_z-of_z w128 c.wrapping_neg.result inner ∙ c.wrapping_neg.ensures ∙ ap (int_wrapping_neg w128) (to_z-of_z w128 c.args.z c.ranges.z) ∙ wrapping_neg_is w128 c.args.z c.ranges.z)
    ∙ wrapped-int_wrap c.args.kind _
