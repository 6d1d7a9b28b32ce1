use Rattle.std.proofs.Common.{◌≡◌, take}
use Rattle.src_tree.proofs.copy_stmt.+copy_statement.Given as goal

abbrev pub invariant-copy_statements-loop-statement : goal.invariant-copy_statements-loop-statement
invariant-copy_statements-loop-statement l = l.copies ≡ take l.statement-index l.statements
