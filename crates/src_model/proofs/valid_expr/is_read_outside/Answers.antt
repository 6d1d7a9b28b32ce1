use Rattle.std.proofs.Common.{rules, ◌≡◌, ◌∙◌, ap}
use Rattle.src_meaning.specs.ValidExpression as spec
use Rattle.src_meaning.proofs.ValidTrees.{read_outside-Load}
use Rattle.src_model.proofs.valid_expr.is_read_outside.Goals as goal

pub returns-in-Load : goal.returns-in-Load
returns-in-Load c = let e = ap spec.is_read_outside c.in-Load.is ∙ read_outside-Load c.in-Load.place in search rules
