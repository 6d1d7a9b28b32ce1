use Rattle.std.proofs.Common.{◌∙◌, sym, ap, subst, ◌<◌, ◌^◌, length}
use Rattle.lu_pair.specs.Tags.{HaveFewParts}
use Rattle.lu_pair.proofs.Whole.{structs-few, struct-parts-few}
use Rattle.lu_pair.proofs.paired.struct_task.Goals as goal

pub returns-clause-few : goal.returns-clause-few
returns-clause-few c =
    let new = c.args.new.now.types in
    subst (λ tags. length tags < 2 ^ 32) (sym (c.as_slice-4.ensures ∙ ap (λ p. p.structs) c.parts-new_types.ensures.value)) (structs-few new c.parts-new_types.ensures.built)

pub returns-clause-few_parts : goal.returns-clause-few_parts
returns-clause-few_parts c =
    let new = c.args.new.now.types in
    subst HaveFewParts (sym (c.as_slice-4.ensures ∙ ap (λ p. p.structs) c.parts-new_types.ensures.value)) (struct-parts-few new c.parts-new_types.ensures.built)
