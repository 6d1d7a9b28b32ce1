use Rattle.std.proofs.Common.{◌≡◌, ◌∙◌, ap, subst, length}
use Rattle.std.specs.Prelude.{IfOk}
use Rattle.c_ast.specs.Trees.{parameters, declarations}
use Rattle.c_check_scope.specs.Rules.{both}
use Rattle.c_check.specs.Headings as headings
use Rattle.c_check.specs.Functions as spec
use Rattle.c_check.proofs.definitions.prototype_headed.Goals as goal

pub returns-clause-standing : goal.returns-clause-standing
returns-clause-standing c =
    let s = c.args.standing in
    let t = c.args.answer.now in
    let x = c.args.name.now in
    let g = c.args.heading in
    let ps = parameters c.args.params.now in
    let text = declarations c.args.text.now in
    let count : c.in_ok-count.count ≡ length s.functions = c.in_ok-count.ensures ∙ c.len.ensures in
    let entry : c.in_ok-entry.entry ≡ spec.entry_of s t x (length s.functions) 0 =
    c.in_ok-entry.ensures ∙ ap (λ n. spec.entry_of s t x n 0) count in
    let free : c.both-free.result ≡ both (headings.free_name s.scope x) (headings.next_of (length s.functions)) =
    c.both-free.ensures
    ∙ ap (λ n. both n c.next_of.result) c.in_ok-name_number.ensures
    ∙ ap (both (headings.free_name s.scope x)) (c.next_of.ensures ∙ ap headings.next_of count) in
    let defined : c.in_ok-defined.defined ≡ headings.is_defined s.scope text c.args.functions.now.definitions x g =
    c.in_ok-defined.ensures ∙ ap (λ d. headings.is_defined s.scope text d x g) c.as_slice-definitions.ensures in
    subst (λ e. IfOk c.prototype_in.result (λ r. r ≡ spec.prototype_in s (both (headings.free_name s.scope x) (headings.next_of (length s.functions))) (headings.is_defined s.scope text c.args.functions.now.definitions x g) e g ps))
    entry
    (subst (λ d. IfOk c.prototype_in.result (λ r. r ≡ spec.prototype_in s (both (headings.free_name s.scope x) (headings.next_of (length s.functions))) d c.in_ok-entry.entry g ps))
    defined
    (subst (λ f. IfOk c.prototype_in.result (λ r. r ≡ spec.prototype_in s f c.in_ok-defined.defined c.in_ok-entry.entry g ps))
    free
    c.prototype_in.ensures.standing))
