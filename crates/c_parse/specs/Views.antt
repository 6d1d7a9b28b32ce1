-- What a contract sees of the parts that functions of src/ hand on.
use Rattle.std.specs.Prelude.{List, Option, Some, None}
use Rattle.c_ast.specs.declared.expr.Expr.{Expr}
use Rattle.c_ast.specs.declared.stmt.Param.{Param}
use Rattle.c_ast.specs.declared.stmt.Stmt.{Stmt}
use Rattle.c_ast.specs.Trees.{Expression, expressions, Parameters, parameters, Statements, statements, right, initializer_if_any}
use Rattle.c_parse.specs.declared.parts.After.{After}
use Rattle.c_parse.specs.declared.parts.After.TheVariants as parts
use Rattle.c_parse.specs.declared.decl.Rest.{Rest as CodedRest}
use Rattle.c_parse.specs.declared.decl.Rest.TheVariants as coded
use Rattle.c_parse.specs.Statements.{Tail, Assigned, Called}
use Rattle.c_parse.specs.Declarations.{Rest, PointerRest, FunctionRest, DataRest}

abbrev pub parameters_if_any : Option (List Param) → Option Parameters
parameters_if_any None = None
parameters_if_any (Some ps) = Some (parameters ps)

abbrev pub arguments_if_any : Option (List Expr) → Option (List Expression)
arguments_if_any None = None
arguments_if_any (Some es) = Some (expressions es)

abbrev pub body_seen : Option (List Stmt) → Option Statements
body_seen None = None
body_seen (Some ss) = Some (statements ss)

abbrev pub tail_seen : After → Tail
tail_seen (parts.Assigned r) = Assigned (right r)
tail_seen (parts.Called es) = Called (expressions es)

abbrev pub rest_seen : CodedRest → Rest
rest_seen (coded.Pointer x n ps i) = PointerRest ((x, n), parameters ps) (initializer_if_any i)
rest_seen (coded.Function x ps body) = FunctionRest x (parameters ps) (body_seen body)
rest_seen (coded.Data x n i) = DataRest x n (initializer_if_any i)
