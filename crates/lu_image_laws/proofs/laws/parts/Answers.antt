use Rattle.lu_image_laws.proofs.Same.{same_part}
use Rattle.lu_image_laws.proofs.laws.parts.Goals as goal

pub returns : goal.returns
returns c = same_part
