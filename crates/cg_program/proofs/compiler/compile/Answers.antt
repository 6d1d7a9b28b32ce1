use Rattle.std.proofs.Common.{ap, length, arith}
use Rattle.cg_program.proofs.Rules.{few_functions}
use Rattle.cg_program.proofs.compiler.compile.Goals as goal

pub first_long-requires : goal.first_long-requires
first_long-requires c =
    let few = few_functions c.args.p.now c.requires.valid in
    let same = ap length c.as_slice.ensures in
    omega (arith, few, same)
