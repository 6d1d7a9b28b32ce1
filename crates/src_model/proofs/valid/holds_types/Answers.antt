use Rattle.std.proofs.Common.{◌≡◌, ◌∙◌, ap}
use Rattle.src_meaning.specs.ValidTable.{has_types}
use Rattle.src_model.proofs.valid.holds_types.Goals as goal

pub returns : goal.returns
returns c = c.has_types.ensures ∙ ap has_types c.parts.ensures.value
