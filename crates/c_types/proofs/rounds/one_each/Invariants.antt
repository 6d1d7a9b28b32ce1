use Rattle.std.proofs.Common.{◌≡◌, replicate}
use Rattle.c_types.proofs.rounds.one_each.Given as goal

abbrev pub invariant-loop : goal.invariant-loop
invariant-loop g l = l.all.items ≡ replicate l.counter l.value
