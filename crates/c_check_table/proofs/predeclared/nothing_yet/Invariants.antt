use Rattle.std.proofs.Common.{◌≡◌, replicate, None}
use Rattle.c_check_table.proofs.predeclared.nothing_yet.Given as goal

abbrev pub invariant-loop : goal.invariant-loop
invariant-loop l = l.meanings ≡ replicate l.counter None
