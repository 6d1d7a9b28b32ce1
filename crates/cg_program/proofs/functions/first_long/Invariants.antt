use Rattle.cg_program.proofs.CodeLemmas.{NoneBefore}
use Rattle.cg_program.proofs.functions.first_long.Given as goal

abbrev pub invariant-loop-number : goal.invariant-loop-number
invariant-loop-number l = NoneBefore l.functions l.number
