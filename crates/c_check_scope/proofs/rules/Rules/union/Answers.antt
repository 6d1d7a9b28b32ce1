use Rattle.c_check_scope.proofs.Sets.{union_is_a_set}
use Rattle.c_check_scope.proofs.rules.Rules.union.Goals as goal

pub invariant_of-result : goal.invariant_of-result
invariant_of-result c =
    union_is_a_set c.a.inside.codes c.b.inside.codes c.a.invariant.0 c.a.invariant.1 c.b.invariant.1
