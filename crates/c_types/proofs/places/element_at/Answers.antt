use Rattle.std.proofs.Common.{◌∙◌, ap, arith}
use Rattle.c_types.proofs.PlaceLaws.{size-low}
use Rattle.c_types.proofs.places.element_at.Goals as goal

pub part_in_array-requires : goal.part_in_array-requires
part_in_array-requires c =
    let some = size-low c.args.parts.now c.requires.kept.built c.args.elem c.requires.known in
    omega (arith, some, ap (λ s. s.size) (c.shape_at.ensures ∙ c.requires.kept.each c.args.elem))
