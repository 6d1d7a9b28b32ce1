use Rattle.std.proofs.Common.{◌≡◌, take}
use Rattle.src_meaning.specs.ValidNumbering as spec
use Rattle.src_model.proofs.valid_numbering.+after_statement.Given as goal

abbrev pub invariant-after_statements-loop-statement : goal.invariant-after_statements-loop-statement
invariant-after_statements-loop-statement l = l.after ≡ spec.after_marks l.sites.all.now l.sites.function l.fn.next (spec.body_marks (take l.statement-index l.statements))
