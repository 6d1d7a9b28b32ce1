use Rattle.src_laws.proofs.ZeroValues.{zero_elements}
use Rattle.src_laws.proofs.laws.zero_values.Goals as goal

pub returns : goal.returns
returns c = λ p s a built. zero_elements p built s a
