use Rattle.std.proofs.Common.{◌-◌, length, sym, arith}
use Rattle.std.proofs.lemmas.Bool.Decides.{nat_tests}
use Rattle.sched_file.proofs.LineLemmas.{return-dropped, return-kept}
use Rattle.sched_file.proofs.line.without_return.Goals as goal

pub returns-then-line-last-eq13 : goal.returns-then-line-last-eq13
returns-then-line-last-eq13 c = sym (return-dropped c.args.line.now (length c.args.line.now - 1) (grind arith) (grind (arith, nat_tests)))

pub returns-else-line-last-eq13 : goal.returns-else-line-last-eq13
returns-else-line-last-eq13 c = sym (return-kept c.args.line.now (length c.args.line.now - 1) (grind arith) (grind (arith, nat_tests)))
