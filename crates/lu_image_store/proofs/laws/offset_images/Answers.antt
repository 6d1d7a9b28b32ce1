use Rattle.lu_image_store.proofs.Agreed.{offset_image-is}
use Rattle.lu_image_store.proofs.laws.offset_images.Goals as goal

pub returns : goal.returns
returns c = offset_image-is
