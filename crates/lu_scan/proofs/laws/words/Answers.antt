use Rattle.lu_scan.proofs.Carries.{words_go}
use Rattle.lu_scan.proofs.laws.words.Goals as goal

pub returns : goal.returns
returns c = words_go
