use Rattle.std.proofs.Common.{◌≡◌, ◌∙◌, ap, Some, slice_get, length, arith}
use Rattle.c_types.specs.declared.parts.Ty.TheVariants.{Array}
use Rattle.c_types.proofs.Numbered.{fields_few, element_known}
use Rattle.c_types.proofs.PlaceLaws.{size-low}
use Rattle.c_types.proofs.TableLemmas.{AreSmall-kept}
use Rattle.c_types.proofs.descent.part_at.Goals as goal

pub part_in_fields-requires-clause-known : goal.part_in_fields-requires-clause-known
part_in_fields-requires-clause-known c = AreSmall-kept c.args.parts.now c.args.shapes.now c.requires

pub part_in_fields-requires-clause-count : goal.part_in_fields-requires-clause-count
part_in_fields-requires-clause-count c =
    let few = fields_few c.args.parts.now c.requires.built.numbered c.in-Some-Struct.tag in
    omega (arith, few, ap length c.fields_of.ensures)

pub part_in_array-requires : goal.part_in_array-requires
part_in_array-requires c =
    let p = c.args.parts.now in
    let u = c.in-Some-Array.element in
    let ty : slice_get p.types c.args.number ≡ Some (Array u c.in-Some-Array.count) = cc in
    let known = element_known p c.requires.built.numbered c.args.number u c.in-Some-Array.count ty in
    let some = size-low p c.requires.built u known in
    let size = ap (λ s. s.size) (c.shape_at.ensures ∙ c.requires.each u) in
    omega (arith, some, size)
