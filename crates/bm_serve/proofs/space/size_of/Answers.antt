use Rattle.std.proofs.Common.{arith}
use Rattle.c_types.proofs.PlaceLaws.{size-low}
use Rattle.bm_serve.proofs.space.size_of.Goals as goal

pub returns-clause-some : goal.returns-clause-some
returns-clause-some c = omega (arith, size-low c.args.code.now.types c.parts-parts.ensures.built c.args.elem c.requires, c.size_of.ensures)
