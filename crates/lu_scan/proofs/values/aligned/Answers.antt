use Rattle.std.proofs.Common.{arith}
use Rattle.c_types.proofs.PlaceLaws.{low}
use Rattle.lu_scan.proofs.values.aligned.Goals as goal

pub overflow_sub-align : goal.overflow_sub-align
overflow_sub-align c =
    let above = low c.args.types.now c.parts-parts.ensures.built c.args.ty in omega (arith, above, c.align_of-align.ensures)

pub nonzero_div-result : goal.nonzero_div-result
nonzero_div-result c =
    let above = low c.args.types.now c.parts-parts.ensures.built c.args.ty in omega (arith, above, c.align_of-align.ensures)
