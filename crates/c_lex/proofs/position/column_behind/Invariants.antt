use Rattle.std.proofs.Common.{◌≡◌, ◌≤◌, ◌+◌, take}
use Rattle.c_ast.specs.Lexical.{column_behind}
use Rattle.c_lex.proofs.position.column_behind.Given as goal

abbrev pub invariant-loop-b : goal.invariant-loop-b
invariant-loop-b l = (l.column ≡ column_behind (take l.b-index l.before)) × (l.column ≤ l.b-index + 1)
