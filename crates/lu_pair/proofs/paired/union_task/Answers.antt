use Rattle.std.proofs.Common.{◌∙◌, sym, ap, subst, ◌<◌, ◌^◌, length}
use Rattle.lu_pair.specs.Tags.{HaveFewParts}
use Rattle.lu_pair.proofs.Whole.{unions-few, union-parts-few}
use Rattle.lu_pair.proofs.paired.union_task.Goals as goal

pub returns-clause-few : goal.returns-clause-few
returns-clause-few c =
    let new = c.args.new.now.types in
    subst (λ tags. length tags < 2 ^ 32) (sym (c.as_slice-4.ensures ∙ ap (λ p. p.unions) c.parts-new_types.ensures.value)) (unions-few new c.parts-new_types.ensures.built)

pub returns-clause-few_parts : goal.returns-clause-few_parts
returns-clause-few_parts c =
    let new = c.args.new.now.types in
    subst HaveFewParts (sym (c.as_slice-4.ensures ∙ ap (λ p. p.unions) c.parts-new_types.ensures.value)) (union-parts-few new c.parts-new_types.ensures.built)
