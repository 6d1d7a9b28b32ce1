use Rattle.cg_program.proofs.code.Code.of.Goals as goal

pub invariant_of-result : goal.invariant_of-result
invariant_of-result c = (c.requires.machine, c.requires.source)
