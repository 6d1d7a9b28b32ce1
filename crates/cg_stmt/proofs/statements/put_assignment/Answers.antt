use Rattle.std.proofs.lemmas.Result.{on_ok_weaker}
use Rattle.cg_expr.specs.Seen.{seen}
use Rattle.cg_stmt.proofs.StatementPuts.{assignment_puts}
use Rattle.cg_stmt.proofs.statements.put_assignment.Goals as goal

pub returns : goal.returns
returns c =
    on_ok_weaker c.put_store.result (assignment_puts (seen c.args.at.now) c.args.place.now c.args.rhs.now c.args.code.now.items c.put_right_side.new.code.items c.put_place.new.code.items c.put_store.new.code.items c.in_ok-put_right_side.ensures c.in_ok-put_place.ensures) c.put_store.ensures
