use Rattle.std.proofs.Common.{◌∙◌, ap, arith}
use Rattle.std.proofs.lemmas.Option.{slice_get_within}
use Rattle.c_types.specs.Layout.{next_multiple}
use Rattle.c_types.specs.Tables.{fields_of}
use Rattle.c_types.proofs.Numbered.{field_known, fields_few}
use Rattle.lu_remap.proofs.Visits.{align-low, end-bound}
use Rattle.lu_remap.proofs.descent.field_part.Goals as goal

pub next_multiple-start-requires-clause-n : goal.next_multiple-start-requires-clause-n
next_multiple-start-requires-clause-n c =
    let within = slice_get_within (fields_of c.args.types.now c.args.tag) c.args.k c.args.field c.requires.field in
    let few = fields_few c.args.types.now c.parts-parts.ensures.built.numbered c.args.tag in
    let end = c.requires.end in
    omega (arith, within, few, end)

pub next_multiple-start-requires-clause-low : goal.next_multiple-start-requires-clause-low
next_multiple-start-requires-clause-low c =
    let low = align-low c.args.types.now c.parts-parts.ensures.built c.args.field.ty in
    let is = c.align_of.ensures in
    omega (arith, low, is)

pub overflow_cast-result : goal.overflow_cast-result
overflow_cast-result c =
    let within = slice_get_within (fields_of c.args.types.now c.args.tag) c.args.k c.args.field c.requires.field in
    let few = fields_few c.args.types.now c.parts-parts.ensures.built.numbered c.args.tag in
    omega (arith, within, few)

pub overflow_add-result : goal.overflow_add-result
overflow_add-result c =
    let within = slice_get_within (fields_of c.args.types.now c.args.tag) c.args.k c.args.field c.requires.field in
    let few = fields_few c.args.types.now c.parts-parts.ensures.built.numbered c.args.tag in
    let end = c.requires.end in
    let bound = end-bound c.args.types.now c.parts-parts.ensures.built c.args.end c.args.field.ty in
    let start = c.next_multiple-start.ensures.value ∙ ap (next_multiple c.args.end) c.align_of.ensures in
    let size = c.size_of.ensures in
    omega (arith, within, few, end, bound, start, size)

pub returns-clause-known : goal.returns-clause-known
returns-clause-known c =
    field_known c.args.types.now c.parts-parts.ensures.built.numbered c.args.tag c.args.k c.args.field c.requires.field

pub returns-clause-bound : goal.returns-clause-bound
returns-clause-bound c =
    let end = c.requires.end in
    let bound = end-bound c.args.types.now c.parts-parts.ensures.built c.args.end c.args.field.ty in
    let start = c.next_multiple-start.ensures.value ∙ ap (next_multiple c.args.end) c.align_of.ensures in
    let size = c.size_of.ensures in
    omega (arith, end, bound, start, size)
