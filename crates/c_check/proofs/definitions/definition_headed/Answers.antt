use Rattle.std.proofs.Common.{◌≡◌, ◌∙◌, ap, subst, length}
use Rattle.std.specs.Prelude.{IfOk}
use Rattle.c_ast.specs.Trees.{parameters, statements}
use Rattle.c_check.specs.Functions as spec
use Rattle.c_check.proofs.definitions.definition_headed.Goals as goal

pub returns-clause-standing : goal.returns-clause-standing
returns-clause-standing c =
    let s = c.args.standing in
    let t = c.args.answer.now in
    let x = c.args.name.now in
    let g = c.args.heading in
    let ps = parameters c.args.params.now in
    let ss = statements c.args.text.now in
    let first : c.in_ok-first_site.first_site ≡ length s.sites = c.in_ok-first_site.ensures ∙ c.len.ensures in
    let entry : c.in_ok-entry.entry ≡ spec.entry_of s t x (spec.own_number s x) (length s.sites) =
    c.in_ok-entry.ensures
    ∙ ap (λ n. spec.entry_of s t x n c.in_ok-first_site.first_site) c.in_ok-number.ensures
    ∙ ap (λ k. spec.entry_of s t x (spec.own_number s x) k) first in
    subst (λ e. IfOk c.definition_in.result (λ r. r ≡ spec.definition_in s (spec.definable s x) e g ps ss))
    entry
    (subst (λ f. IfOk c.definition_in.result (λ r. r ≡ spec.definition_in s f c.in_ok-entry.entry g ps ss))
    c.definable-function.ensures
    c.definition_in.ensures.standing)
