use Rattle.cg_stmt.proofs.PutLists.{next_argument}
use Rattle.cg_stmt.proofs.calls.put_arguments.Goals as goal

pub loop-e-preserved : goal.loop-e-preserved
loop-e-preserved c = next_argument _ _ _ _ _ _ _ c.loop-e-test.true c.e-item.is c.loop-e.invariant c.in_ok-put_expression.ensures
