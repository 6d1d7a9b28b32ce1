use Rattle.std.proofs.Common.{◌∙◌, ap, slice_get}
use Rattle.cg_program.proofs.ByteLemmas.{field-falls}
use Rattle.cg_program.proofs.bytes.field_at.Goals as goal

pub returns-clause-falls : goal.returns-clause-falls
returns-clause-falls c =
    field-falls c.args.types.now c.parts-parts.ensures.built c.args.number c.args.index c.copied.result (c.copied.ensures ∙ c.at.ensures ∙ ap (λ l. slice_get l c.args.index) c.fields_in.ensures)
