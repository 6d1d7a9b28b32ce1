use Rattle.std.proofs.Common.{arith}
use Rattle.c_types.proofs.PlaceLaws.{size-low}
use Rattle.bm_cpu.proofs.objects.global_row.Goals as goal

pub returns-clause-some : goal.returns-clause-some
returns-clause-some c = omega (arith, c.size_of.ensures, size-low c.args.code.now.types c.parts-parts.ensures.built c.args.global.now.ty c.requires.known)
