use Rattle.std.proofs.Common.{◌≡◌, ◌<◌, take}
use Rattle.c_ast.specs.Lexeme as lexeme
use Rattle.c_lex.proofs.number.value.Given as goal

abbrev pub invariant-loop-b : goal.invariant-loop-b
invariant-loop-b l = (l.value ≡ lexeme.value_in l.base (take l.b-index l.digits)) × (l.value < 18446744073709551616)
