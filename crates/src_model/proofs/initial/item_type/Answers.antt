use Rattle.std.proofs.Common.{◌∙◌, ap, slice_get}
use Rattle.src_meaning.specs.Initial.{item_types}
use Rattle.src_meaning.proofs.InitialLemmas.{item_type-falls}
use Rattle.src_model.proofs.initial.item_type.Goals as goal

pub returns-clause-falls : goal.returns-clause-falls
returns-clause-falls c =
    item_type-falls c.args.types.now c.parts.ensures.built c.args.number c.args.index c.item_type_in.result (c.item_type_in.ensures ∙ ap (λ p. slice_get (item_types p c.args.number) c.args.index) c.parts.ensures.value)
