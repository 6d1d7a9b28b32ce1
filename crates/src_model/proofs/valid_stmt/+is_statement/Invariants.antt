use Rattle.std.proofs.Common.{◌≡◌, true, take}
use Rattle.src_meaning.specs.ValidStatement as spec
use Rattle.src_model.specs.ValidSeen.{seen}
use Rattle.src_model.proofs.valid_stmt.+is_statement.Given as goal

abbrev pub invariant-are_statements-loop-statement : goal.invariant-are_statements-loop-statement
invariant-are_statements-loop-statement l = spec.are_statements (seen l.at) l.ret l.in_loop l.room (take l.statement-index l.statements) ≡ true
