use Rattle.std.proofs.Common.{◌≡◌, drop}
use Rattle.c_ast.specs.Lexeme as lexeme
use Rattle.c_lex.proofs.number.first_that_holds.Given as goal

abbrev pub invariant-loop-kind : goal.invariant-loop-kind
invariant-loop-kind l = lexeme.first_that_holds l.value l.kinds ≡ lexeme.first_that_holds l.value (drop l.kind-index l.kinds)
