use Rattle.std.proofs.Common.{◌≡◌, ◌≤◌, ℕ, length}
use Rattle.c_ast.specs.Trees.{expressions}
use Rattle.c_ast.specs.declared.token.Mark.TheVariants.{Comma}
use Rattle.c_parse_expr.specs.Reads.{climb, snoc}
use Rattle.c_parse_expr.specs.Reading.{sees, expr}
use Rattle.c_parse.specs.Statements.{next_argument}
use Rattle.c_parse.proofs.parts.more_arguments.Given as goal

abbrev pub invariant-commas : goal.invariant-commas
invariant-commas l =
    (n : ℕ) × (length l.tokens ≤ n)
    × (climb (sees Comma) (next_argument (expr l.room)) snoc (length l.fn.tokens) (expressions l.fn.first) l.fn.tokens ≡ climb (sees Comma) (next_argument (expr l.room)) snoc n (expressions l.list) l.tokens)

abbrev pub decreases-commas : goal.decreases-commas
decreases-commas l = length l.tokens
