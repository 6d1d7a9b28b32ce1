use Rattle.lu_image_laws.proofs.Placed.{each_stands, no_other, stay_two, goes}
use Rattle.lu_image_laws.proofs.laws.sharing.Goals as goal

pub returns-clause-stand : goal.returns-clause-stand
returns-clause-stand c = each_stands

pub returns-clause-alone : goal.returns-clause-alone
returns-clause-alone c = no_other

pub returns-clause-two : goal.returns-clause-two
returns-clause-two c = stay_two

pub returns-clause-pointers : goal.returns-clause-pointers
returns-clause-pointers c = goes
