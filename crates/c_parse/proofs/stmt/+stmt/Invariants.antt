use Rattle.std.proofs.Common.{◌≡◌, ◌≤◌, ◌+◌, ◌*◌, ℕ, length}
use Rattle.c_ast.specs.Trees.{statement_list}
use Rattle.c_parse_expr.specs.Reads.{climb, snoc}
use Rattle.c_parse.specs.Statements.{body, stmt, more_items}
use Rattle.c_parse.proofs.stmt.+stmt.Given as goal

abbrev pub invariant-body-stmts : goal.invariant-body-stmts
invariant-body-stmts l =
    (n : ℕ) × (length l.tokens ≤ n)
    × (body (stmt l.room) l.fn.tokens ≡ climb more_items (stmt l.room) snoc n (statement_list l.list) l.tokens)

abbrev pub decreases-body-stmts : goal.decreases-body-stmts
decreases-body-stmts l = length l.tokens

abbrev pub decreases-stmt : goal.decreases-stmt
decreases-stmt l = 16 * l.room + 1

abbrev pub decreases-body : goal.decreases-body
decreases-body l = 16 * l.room + 2

abbrev pub decreases-braces : goal.decreases-braces
decreases-braces l = 16 * l.room + 3

abbrev pub decreases-block : goal.decreases-block
decreases-block l = 16 * l.room + 2

abbrev pub decreases-boxed : goal.decreases-boxed
decreases-boxed l = 16 * l.room + 2

abbrev pub decreases-otherwise : goal.decreases-otherwise
decreases-otherwise l = 16 * l.room + 3

abbrev pub decreases-otherwise_if_any : goal.decreases-otherwise_if_any
decreases-otherwise_if_any l = 16 * l.room + 4

abbrev pub decreases-branch : goal.decreases-branch
decreases-branch l = 16 * l.room + 5

abbrev pub decreases-while_loop : goal.decreases-while_loop
decreases-while_loop l = 16 * l.room + 5

abbrev pub decreases-for_loop : goal.decreases-for_loop
decreases-for_loop l = 16 * l.room + 5

abbrev pub decreases-by_keyword : goal.decreases-by_keyword
decreases-by_keyword l = 16 * l.room + 6

abbrev pub decreases-by_first : goal.decreases-by_first
decreases-by_first l = 16 * l.room + 7
