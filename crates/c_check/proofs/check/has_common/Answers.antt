use Rattle.std.proofs.Common.{◌∙◌, ap}
use Rattle.src_meaning.specs.ValidTable.{has_types}
use Rattle.c_check.specs.Denotation.{has_common}
use Rattle.c_check.proofs.check.has_common.Goals as goal

pub returns : goal.returns
unfolding has_common
returns c = c.has_types.ensures ∙ ap has_types c.parts.ensures.value
