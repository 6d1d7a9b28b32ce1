use Rattle.std.proofs.Common.{arith}
use Rattle.std.proofs.lemmas.Grind.{common_steps}
use Rattle.lu_pair.proofs.Finding.{find-push}
use Rattle.lu_pair.proofs.names.places_of.Goals as goal

pub loop-place-preserved : goal.loop-place-preserved
loop-place-preserved c = λ q. grind (arith, common_steps, find-push, c.loop-place.invariant q)
