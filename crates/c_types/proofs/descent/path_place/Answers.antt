use Rattle.std.proofs.Common.{◌∙◌, ap, sym, ◌+◌, drop, get_or}
use Rattle.std.proofs.lemmas.List.{drop_more}
use Rattle.lu_spec.specs.Then.{then_option}
use Rattle.c_types.specs.declared.path.Step.TheVariants.{Index}
use Rattle.c_types.specs.Place.{shifted, path_place}
use Rattle.c_types.proofs.TableLemmas.{path-turn}
use Rattle.c_types.proofs.descent.path_place.Goals as goal

pub loop-step-preserved : goal.loop-step-preserved
loop-step-preserved c =
    let p = c.args.parts.now in
    let at = c.loop-step.at in
    let path = c.args.path.now in
    let i = c.loop-step.step-index in
    let turn = path-turn p at c.in-Some.next (get_or path i (Index 0)) (drop (i + 1) path) c.in-Some.ensures.value in
    let rest = drop_more path i (Index 0) c.loop-step-test.true in
    record {
      value = turn ∙ (ap (λ rest. then_option (path_place p at.ty rest) (shifted at.offset)) (sym rest) ∙ c.loop-step.invariant.value);
      inside = c.in-Some.ensures.inside;
    }
