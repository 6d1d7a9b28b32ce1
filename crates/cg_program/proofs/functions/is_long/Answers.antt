use Rattle.cg_program.proofs.CodeLemmas.{tells_long}
use Rattle.cg_program.proofs.functions.is_long.Goals as goal

pub returns : goal.returns
returns c = tells_long c.is_too_long.result c.args.function.now c.is_too_long.ensures
