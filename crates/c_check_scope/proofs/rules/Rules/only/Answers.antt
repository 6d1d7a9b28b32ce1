use Rattle.std.proofs.Common.{◌∙◌, ap, sym, subst, ◌*◌, ◌%◌, ◌^◌, ◌<◌, arith}
use Rattle.c_check_scope.proofs.Sets.{code_fits, only_fits, only_is_a_set}
use Rattle.c_check_scope.proofs.rules.Rules.only.Goals as goal

pub overflow_shl-result : goal.overflow_shl-result
overflow_shl-result c = omega (arith, c.code.ensures, code_fits c.args.rule)

pub invariant_of-result : goal.invariant_of-result
invariant_of-result c =
    subst (λ n. (0 < n) × (n < 2 ^ 28))
    (sym (ap (λ n. 1 * 2 ^ n % 2 ^ 32) c.code.ensures ∙ only_fits c.args.rule))
    (only_is_a_set c.args.rule)

pub returns : goal.returns
returns c = ap (λ n. 1 * 2 ^ n % 2 ^ 32) c.code.ensures ∙ only_fits c.args.rule
