use Rattle.std.proofs.Common.{◌∙◌, sym, ap, take}
use Rattle.c_types.specs.Layout.{next_multiple, fields_end}
use Rattle.c_types.specs.Rounds.{shape_at}
use Rattle.c_types.proofs.TableLemmas.{nth_start-take}
use Rattle.c_types.proofs.descent.nth_start.Goals as goal

pub returns : goal.returns
returns c =
    let known = shape_at c.args.shapes.now in
    c.next_multiple.ensures.value
    ∙ (ap (λ end. next_multiple end c.shape_at.result.align) c.fields_end-end.ensures.value
    ∙ (ap (λ s. next_multiple (fields_end known 0 (take c.args.number c.args.fields.now)) s.align) c.shape_at.ensures
    ∙ sym (nth_start-take known c.args.fields.now 0 c.args.number c.args.field c.requires.field)))
