use Rattle.std.proofs.Common.{◌≡◌, ◌∙◌, ap, subst}
use Rattle.std.specs.Prelude.{IfOk}
use Rattle.c_ast.specs.Trees.{parameters, statements}
use Rattle.c_check_scope.specs.Rules.{both}
use Rattle.c_check.specs.Functions as spec
use Rattle.c_check.proofs.definitions.definition_in.Goals as goal

pub returns-clause-standing : goal.returns-clause-standing
returns-clause-standing c =
    let e = c.args.entry in
    let g = c.args.heading in
    let body = spec.body_at c.args.standing e g (parameters c.args.params.now) (statements c.args.text.now) in
    let sites : c.few_sites-body.result ≡ spec.few_sites e.first_site body =
    c.few_sites-body.ensures ∙ ap (spec.few_sites e.first_site) c.in_ok-entered.ensures.body in
    let judged : c.both-judged.result ≡ both c.args.function (both g (spec.few_sites e.first_site body)) =
    c.both-judged.ensures ∙ ap (both c.args.function) (c.both.ensures ∙ ap (both g) sites) in
    subst (λ s. IfOk c.definition_made.result (λ r. r ≡ spec.definition_made s e.name (both c.args.function (both g (spec.few_sites e.first_site body)))))
    c.in_ok-entered.ensures.standing
    (subst (λ j. IfOk c.definition_made.result (λ r. r ≡ spec.definition_made c.in_ok-entered.entered.standing e.name j))
    judged
    c.definition_made.ensures.standing)
