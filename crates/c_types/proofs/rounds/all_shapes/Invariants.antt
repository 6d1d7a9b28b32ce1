use Rattle.std.proofs.Common.{◌≡◌}
use Rattle.c_types.specs.Rounds.{shape_at, shape_rounds, AreSmall}
use Rattle.c_types.proofs.rounds.all_shapes.Given as goal

abbrev pub invariant-loop : goal.invariant-loop
invariant-loop l = record {
  value : l.shapes.items ≡ shape_rounds l.parts l.counter;
  small : AreSmall (shape_at l.shapes.items);
}
