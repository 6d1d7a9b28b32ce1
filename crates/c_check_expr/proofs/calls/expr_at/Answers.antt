use Rattle.std.proofs.Common.{◌∙◌, sym, ap}
use Rattle.std.specs.Option.{option_map}
use Rattle.c_ast.specs.Trees.{expression}
use Rattle.c_check_expr.proofs.Arguments.{expressions_get, seen}
use Rattle.c_check_expr.proofs.calls.expr_at.Goals as goal

pub returns : goal.returns
returns c =
    expressions_get c.args.args.now c.args.index ∙ ap (option_map expression) (sym c.at.ensures) ∙ seen c.at.result
