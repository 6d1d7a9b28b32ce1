use Rattle.std.proofs.Common.{length}
use Rattle.c_parse.proofs.Programs.{SoFar}
use Rattle.c_parse.proofs.program.read.Given as goal

abbrev pub invariant-decls : goal.invariant-decls
invariant-decls l = SoFar l.fn.tokens l.list l.rest

abbrev pub decreases-decls : goal.decreases-decls
decreases-decls l = length l.rest
