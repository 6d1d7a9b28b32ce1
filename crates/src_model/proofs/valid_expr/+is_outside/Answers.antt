use Rattle.std.proofs.Common.{rules, ◌≡◌, ◌∙◌, sym, ap}
use Rattle.src_meaning.specs.ValidExpression as spec
use Rattle.src_meaning.proofs.ValidTrees.{outside-Element, outside-Field}
use Rattle.src_model.proofs.valid_expr.+is_outside.Goals as goal

pub returns-in-Element : goal.returns-in-Element
returns-in-Element t c = c.is_outside.ensures ∙ ap (λ e. spec.is_outside e.kind) c.get.ensures ∙ sym (ap spec.is_outside c.in-Element.is ∙ outside-Element c.in-Element.array c.in-Element.field-1)

pub returns-in-Field : goal.returns-in-Field
returns-in-Field t c = let e = outside-Field c.in-Field.whole c.in-Field.field-1 in cc
