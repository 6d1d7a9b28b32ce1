use Rattle.cg_expr.proofs.Sums.{ok_is}
use Rattle.cg_stmt.proofs.StatementTrees as tree
use Rattle.cg_stmt.proofs.sizes.+statement_size.Goals as goal

pub statement_size-returns-in-Block : goal.statement_size-returns-in-Block
statement_size-returns-in-Block t c = ok_is _ _ _ c.body_size.ensures (tree.size_is-Block _ _ _ _ c.in-Block.is c.as_slice.ensures)

pub statement_size-returns-in_ok-body_size-in-If : goal.statement_size-returns-in_ok-body_size-in-If
statement_size-returns-in_ok-body_size-in-If t c = ok_is _ _ _ c.choice_size.ensures (tree.size_is-If _ _ _ _ _ _ _ _ _ _ c.in-If.is c.get.ensures c.as_slice-in-If.ensures c.in_ok-test-in-If.ensures c.in_ok-yes-in-If.ensures c.in_ok-body_size-in-If.ensures)

pub statement_size-returns-in_ok-statement_size-in-While : goal.statement_size-returns-in_ok-statement_size-in-While
statement_size-returns-in_ok-statement_size-in-While t c = ok_is _ _ _ c.loop_size.ensures (tree.size_is-While _ _ _ _ _ _ _ c.in-While.is c.get-in-While.ensures c.in_ok-test-in-While.ensures c.in_ok-statement_size-in-While.ensures)

pub statement_size-returns-in_ok-turn-in-For : goal.statement_size-returns-in_ok-turn-in-For
statement_size-returns-in_ok-turn-in-For t c = ok_is _ _ _ c.sum-in-For.ensures (tree.size_is-For _ _ _ _ _ _ _ _ _ _ _ _ _ _ c.in-For.is c.as_slice-in-For.ensures c.as_slice-in-For-2.ensures c.get-in-For.ensures c.in_ok-first-in-For.ensures c.in_ok-test-in-For.ensures c.in_ok-step-in-For.ensures c.in_ok-statement_size-in-For.ensures c.in_ok-turn-in-For.ensures)
