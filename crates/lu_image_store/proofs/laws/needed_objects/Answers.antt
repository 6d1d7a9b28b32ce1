use Rattle.lu_image_store.proofs.Closure.{needed_objects-are}
use Rattle.lu_image_store.proofs.laws.needed_objects.Goals as goal

pub returns : goal.returns
returns c = needed_objects-are
