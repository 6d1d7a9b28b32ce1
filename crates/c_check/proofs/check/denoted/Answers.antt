use Rattle.c_ast.specs.Trees.{declarations}
use Rattle.c_check.proofs.Denoting.{denotes, breaks}
use Rattle.c_check.proofs.check.denoted.Goals as goal

pub returns-clause-program : goal.returns-clause-program
returns-clause-program c =
    denotes c.args.pointer (declarations c.args.text.now) c.in_ok-table.table c.in_ok-judged.judged c.in_ok-table.ensures c.in_ok-judged.ensures.verdict c.in_ok-judged.ensures.types

pub returns-clause-broken : goal.returns-clause-broken
returns-clause-broken c =
    breaks c.args.pointer (declarations c.args.text.now) c.in_ok-table.table c.in_ok-judged.judged c.in_ok-table.ensures c.in_ok-judged.ensures.verdict
