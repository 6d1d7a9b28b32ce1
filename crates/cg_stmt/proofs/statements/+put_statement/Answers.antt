use Rattle.std.proofs.lemmas.Result.{on_ok_weaker}
use Rattle.cg_expr.specs.Seen.{seen}
use Rattle.cg_stmt.proofs.PutLists.{next_statement}
use Rattle.cg_stmt.proofs.StatementPuts.{block_puts, if_puts, while_puts, for_puts}
use Rattle.cg_stmt.proofs.statements.+put_statement.Goals as goal

pub put_body-loop-statement-preserved : goal.put_body-loop-statement-preserved
put_body-loop-statement-preserved t c =
    next_statement (seen c.args.at.now) c.args.to c.args.body.now c.loop-statement.statement-index c.statement-item.result _ c.loop-statement.code.items c.put_statement.new.code.items c.loop-statement-test.true c.statement-item.is c.loop-statement.invariant c.in_ok-put_statement.ensures

pub put_statement-returns-in-Block : goal.put_statement-returns-in-Block
put_statement-returns-in-Block t c =
    on_ok_weaker c.put_body.result (block_puts (seen c.args.at.now) c.args.statement.now c.in-Block.body c.as_slice.result.now c.args.to c.args.code.now.items c.put_body.new.code.items c.in-Block.is c.as_slice.ensures) c.put_body.ensures

pub put_statement-returns-in_ok-put-in-If-2 : goal.put_statement-returns-in_ok-put-in-If-2
put_statement-returns-in_ok-put-in-If-2 t c =
    on_ok_weaker c.put_body-in-If.result (if_puts (seen c.args.at.now) c.args.statement.now c.in-If.test c.in-If.yes c.get.result.now c.get-in-If.result.now c.in-If.no c.as_slice-in-If.result.now c.as_slice-in-If-2.result.now c.args.to c.deref.result.now c.args.code.now.items c.put_expression.new.code.items c.put-in-If.new.code.items c.put_statement.new.code.items c.put-in-If-2.new.code.items c.put_body-in-If.new.code.items c.in_ok-branches-in-If.branches.other c.in_ok-branches-in-If.branches.end c.in-If.is c.deref.ensures.value c.get.ensures c.as_slice-in-If.ensures c.get-in-If.ensures c.as_slice-in-If-2.ensures c.in_ok-branches-in-If.ensures.other c.in_ok-branches-in-If.ensures.end c.in_ok-put_expression-in-If.ensures c.in_ok-put-in-If.ensures c.in_ok-put_statement-in-If.ensures c.in_ok-put-in-If-2.ensures) c.put_body-in-If.ensures

pub put_statement-returns-in_ok-put_statement-in-While : goal.put_statement-returns-in_ok-put_statement-in-While
put_statement-returns-in_ok-put_statement-in-While t c =
    on_ok_weaker c.put-in-While-2.result (while_puts (seen c.args.at.now) c.args.statement.now c.in-While.test c.in-While.body c.get-in-While.result.now c.get-in-While-2.result.now c.args.to c.in_ok-exits-in-While.exits c.deref-in-While.result.now c.deref-in-While-2.result.now c.args.code.now.items c.put_expression-in-While.new.code.items c.put-in-While.new.code.items c.put_statement-in-While.new.code.items c.put-in-While-2.new.code.items c.in_ok-start-in-While.start c.in-While.is c.deref-in-While.ensures.value c.deref-in-While-2.ensures.value c.get-in-While.ensures c.get-in-While-2.ensures c.in_ok-start-in-While.ensures c.in_ok-exits-in-While.ensures c.in_ok-put_expression-in-While.ensures c.in_ok-put-in-While.ensures c.in_ok-put_statement-in-While.ensures) c.put-in-While-2.ensures

pub put_statement-returns-in_ok-put_body-in-For-2 : goal.put_statement-returns-in_ok-put_body-in-For-2
put_statement-returns-in_ok-put_body-in-For-2 t c =
    on_ok_weaker c.put-in-For-2.result (for_puts (seen c.args.at.now) c.args.statement.now c.in-For.first c.as_slice-in-For.result.now c.in-For.test c.in-For.step c.as_slice-in-For-2.result.now c.as_slice-in-For-3.result.now c.in-For.body c.get-in-For.result.now c.get-in-For-2.result.now c.args.to c.in_ok-exits-in-For.exits c.deref-in-For.result.now c.deref-in-For-2.result.now c.args.code.now.items c.put_body-in-For.new.code.items c.put_condition.new.code.items c.put-in-For.new.code.items c.put_statement-in-For.new.code.items c.put_body-in-For-2.new.code.items c.put-in-For-2.new.code.items c.in_ok-start-in-For.start c.in-For.is c.as_slice-in-For.ensures c.deref-in-For.ensures.value c.deref-in-For-2.ensures.value c.as_slice-in-For-2.ensures c.get-in-For.ensures c.get-in-For-2.ensures c.as_slice-in-For-3.ensures c.in_ok-put_body-in-For.ensures c.in_ok-start-in-For.ensures c.in_ok-exits-in-For.ensures c.in_ok-put_condition-in-For.ensures c.in_ok-put-in-For.ensures c.in_ok-put_statement-in-For.ensures c.in_ok-put_body-in-For-2.ensures) c.put-in-For-2.ensures
