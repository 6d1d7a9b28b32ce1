use Rattle.std.proofs.Common.{arith}
use Rattle.c_types.proofs.PlaceLaws.{low}
use Rattle.cg_program.proofs.bytes.align_of.Goals as goal

pub returns-clause-low : goal.returns-clause-low
returns-clause-low c =
    omega (arith, low c.args.types.now c.parts-parts.ensures.built c.args.number)
