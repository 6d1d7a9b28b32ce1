use Rattle.std.proofs.Common.{arith}
use Rattle.std.proofs.lemmas.Grind.{common_steps}
use Rattle.c_types.proofs.RoundLemmas.{AreSmall-push}
use Rattle.c_types.proofs.rounds.next_shapes.Goals as goal

pub loop-ty-preserved : goal.loop-ty-preserved
loop-ty-preserved c = record {
  value = grind (arith, common_steps);
  small = rw c.in_ok-push.ensures.items (AreSmall-push _ _ c.loop-ty.invariant.small c.type_shape.ensures.small);
}
