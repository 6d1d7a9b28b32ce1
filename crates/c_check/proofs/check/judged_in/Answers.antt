use Rattle.std.proofs.Common.{◌≡◌, subst}
use Rattle.std.specs.Prelude.{IfOk}
use Rattle.c_ast.specs.Trees.{declarations}
use Rattle.c_check.specs.Standings.{start}
use Rattle.c_check.specs.Verdict as spec
use Rattle.c_check.proofs.check.judged_in.Goals as goal

pub returns-clause-standing : goal.returns-clause-standing
returns-clause-standing c =
    let text = declarations c.args.text.now in
    let scope = c.in_ok-scope.scope in
    let functions = c.in_ok-functions.functions in
    subst (λ sc. IfOk c.judged.result (λ s. s ≡ spec.judged_in sc text))
    c.in_ok-scope.ensures.scope
    (subst (λ f. IfOk c.judged.result (λ s. s ≡ spec.judged text f 1 (start scope) text))
    c.in_ok-functions.ensures
    (subst (λ st. IfOk c.judged.result (λ s. s ≡ spec.judged text functions 1 st text))
    c.in_ok-standing.ensures.standing
    c.judged.ensures.standing))
