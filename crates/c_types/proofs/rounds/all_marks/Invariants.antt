use Rattle.std.proofs.Common.{◌≡◌}
use Rattle.c_types.specs.Rounds.{mark_rounds}
use Rattle.c_types.proofs.rounds.all_marks.Given as goal

abbrev pub invariant-loop : goal.invariant-loop
invariant-loop l = l.marks.items ≡ mark_rounds l.parts l.target l.start l.counter
