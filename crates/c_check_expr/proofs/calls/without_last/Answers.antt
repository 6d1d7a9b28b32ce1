use Rattle.c_check_expr.proofs.Arguments.{front_pop}
use Rattle.c_check_expr.proofs.calls.without_last.Goals as goal

pub returns : goal.returns
returns c = front_pop c.pop-last.result c.args.list c.pop-last.new.self c.pop-last.ensures
