use Rattle.std.proofs.Common.{subst}
use Rattle.std.specs.Prelude.{IfOk}
use Rattle.c_ast.specs.Trees.{declarations}
use Rattle.c_check.specs.Denotation.{Denotes}
use Rattle.c_check.proofs.Denoting.{names_are_distinct}
use Rattle.c_check.proofs.check.check_as.Goals as goal

pub valid_where_distinct-requires : goal.valid_where_distinct-requires
valid_where_distinct-requires c =
    let text = declarations c.args.text.now in
    names_are_distinct c.args.pointer text c.in-Ok.program (subst (λ r. IfOk r (Denotes c.args.pointer text)) c.in-Ok.is c.in_ok-broken.ensures.program)
