use Rattle.std.proofs.Common.{arith}
use Rattle.c_types.proofs.PlaceLaws.{size-low}
use Rattle.lu_remap.proofs.descent.size_of.Goals as goal

pub returns-clause-some : goal.returns-clause-some
returns-clause-some c =
    let some = size-low c.args.types.now c.parts-parts.ensures.built c.args.number c.requires in
    let is = c.size_of.ensures in
    omega (arith, some, is)
