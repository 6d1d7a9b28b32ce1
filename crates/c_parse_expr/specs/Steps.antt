-- What a contract sees of a step and of branches.
use Rattle.std.specs.Prelude.{Option, Some, None}
use Rattle.c_ast.specs.declared.expr.Expr.{Expr}
use Rattle.c_ast.specs.Trees.{Expression, expression}
use Rattle.c_parse_expr.specs.declared.expr.Step.{Step as Coded}
use Rattle.c_parse_expr.specs.declared.expr.Step.TheVariants as coded
use Rattle.c_parse_expr.specs.Reading.{Step, Within, Of}

abbrev pub step_seen : Coded → Step
step_seen (coded.Within e) = Within (expression e)
step_seen (coded.Of a x) = Of a x

abbrev pub branches_seen : Option (Expr × Expr) → Option (Expression × Expression)
branches_seen None = None
branches_seen (Some p) = Some (expression p.0, expression p.1)
