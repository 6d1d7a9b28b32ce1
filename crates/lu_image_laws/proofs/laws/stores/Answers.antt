use Rattle.lu_image_laws.proofs.Images.{image_keeps}
use Rattle.lu_image_laws.proofs.laws.stores.Goals as goal

pub returns : goal.returns
returns c old new q s next built ok valid starts h = image_keeps old new q s next built valid starts ok h
