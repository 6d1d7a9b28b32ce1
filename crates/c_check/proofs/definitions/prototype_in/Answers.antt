use Rattle.std.proofs.Common.{◌≡◌, ◌∙◌, ap, subst}
use Rattle.std.specs.Prelude.{IfOk}
use Rattle.c_ast.specs.Trees.{parameters, Done}
use Rattle.c_check.specs.Functions as spec
use Rattle.c_check.proofs.definitions.prototype_in.Goals as goal

pub returns-clause-standing : goal.returns-clause-standing
returns-clause-standing c =
    let e = c.args.entry in
    let g = c.args.heading in
    let body = spec.body_at c.args.standing e g (parameters c.args.params.now) Done in
    let judged : c.judged_prototype-judged.result ≡ spec.judged_prototype c.args.free g c.args.defined body =
    c.judged_prototype-judged.ensures ∙ ap (spec.judged_prototype c.args.free g c.args.defined) c.in_ok-entered.ensures.body in
    subst (λ s. IfOk c.prototype_made.result (λ r. r ≡ spec.prototype_made s (spec.judged_prototype c.args.free g c.args.defined body)))
    c.in_ok-entered.ensures.standing
    (subst (λ j. IfOk c.prototype_made.result (λ r. r ≡ spec.prototype_made c.in_ok-entered.entered.standing j))
    judged
    c.prototype_made.ensures.standing)
