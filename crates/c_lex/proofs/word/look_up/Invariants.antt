use Rattle.std.proofs.Common.{◌≡◌, length, map}
use Rattle.c_ast.specs.Lexeme as lexeme
use Rattle.c_lex.proofs.word.look_up.Given as goal

abbrev pub invariant-loop-table : goal.invariant-loop-table
invariant-loop-table g l = lexeme.look_up (map (λ row. (row.0.now, row.1)) l.table) l.word ≡ lexeme.look_up (map (λ row. (row.0.now, row.1)) l.initial.table) l.word

abbrev pub decreases-loop-table : goal.decreases-loop-table
decreases-loop-table g l = length l.table
