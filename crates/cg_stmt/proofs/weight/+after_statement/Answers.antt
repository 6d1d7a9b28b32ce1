use Rattle.std.proofs.Common.{◌∙◌, ap, arith}
use Rattle.std.proofs.lemmas.Grind.{common_steps}
use Rattle.src_meaning.specs.Weight as spec
use Rattle.cg_stmt.proofs.Weights.{weight-Block, weight-If, weight-While, weight-For}
use Rattle.cg_stmt.proofs.weight.+after_statement.Goals as goal

pub after_statement-returns-in-Block : goal.after_statement-returns-in-Block
after_statement-returns-in-Block t c = let e = ap spec.statement_weight c.in-Block.is ∙ weight-Block c.in-Block.body in grind (arith, common_steps, e)

pub after_statement-returns-in-If : goal.after_statement-returns-in-If
after_statement-returns-in-If t c = let e = ap spec.statement_weight c.in-If.is ∙ weight-If c.in-If.test c.in-If.then c.in-If.otherwise in grind (arith, common_steps, e)

pub after_statement-returns-in-While : goal.after_statement-returns-in-While
after_statement-returns-in-While t c = let e = ap spec.statement_weight c.in-While.is ∙ weight-While c.in-While.test c.in-While.body in grind (arith, common_steps, e)

pub after_statement-returns-in-For : goal.after_statement-returns-in-For
after_statement-returns-in-For t c = let e = ap spec.statement_weight c.in-For.is ∙ weight-For c.in-For.first c.in-For.test c.in-For.step c.in-For.body in grind (arith, common_steps, e)
