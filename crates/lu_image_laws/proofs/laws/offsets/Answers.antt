use Rattle.lu_image_laws.proofs.Same.{places_one, images_one}
use Rattle.lu_image_laws.proofs.laws.offsets.Goals as goal

pub returns-clause-places : goal.returns-clause-places
returns-clause-places c = places_one

pub returns-clause-images : goal.returns-clause-images
returns-clause-images c = images_one
