use Rattle.std.proofs.Common.{◌≡◌, map, take}
use Rattle.c_types.specs.Rounds.{shape_at, round_shape, AreSmall}
use Rattle.c_types.proofs.rounds.next_shapes.Given as goal

abbrev pub invariant-loop-ty : goal.invariant-loop-ty
invariant-loop-ty l = record {
  value : l.next.items ≡ map (round_shape l.parts l.shapes) (take l.ty-index l.ty-items);
  small : AreSmall (shape_at l.next.items);
}
