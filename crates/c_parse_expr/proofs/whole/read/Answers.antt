use Rattle.std.proofs.Common.{◌∙◌, refl, sym, ap}
use Rattle.c_ast.specs.Trees.{expression}
use Rattle.c_parse_expr.proofs.Wholes.{spelled, left_over, refuses, empty, not_empty}
use Rattle.c_parse_expr.proofs.whole.read.Goals as goal

pub returns-then-is_empty-clause-found : goal.returns-then-is_empty-clause-found
returns-then-is_empty-clause-found c =
    rw (ap expression c.into_inner.ensures) (spelled c.args.tokens.now (expression c.in-Ok.found) c.in-Ok.rest.now c.in-Ok.ensures (empty c.in-Ok.rest.now (sym c.is_empty.ensures ∙ c.if-is_empty.true)))

pub returns-else-is_empty-clause-refused : goal.returns-else-is_empty-clause-refused
returns-else-is_empty-clause-refused c = (refl, left_over c.args.tokens.now (expression c.in-Ok.found) c.in-Ok.rest.now c.in-Ok.ensures (not_empty c.in-Ok.rest.now (sym c.is_empty.ensures ∙ c.if-is_empty.false)))

pub returns-in-Err-clause-refused : goal.returns-in-Err-clause-refused
returns-in-Err-clause-refused c = rw c.located.ensures (refuses c.args.tokens.now c.in-Err.error c.in-Err.ensures)
