use Rattle.std.proofs.Common.{◌≡◌, subst}
use Rattle.std.specs.Prelude.{IfOk}
use Rattle.c_ast.specs.Trees.{parameters, declarations}
use Rattle.c_check.specs.Functions as spec
use Rattle.c_check.proofs.definitions.declared_prototype.Goals as goal

pub returns-clause-standing : goal.returns-clause-standing
returns-clause-standing c =
    subst (λ g. IfOk c.prototype_headed.result (λ s. s ≡ spec.prototype_headed (declarations c.args.text.now) c.args.functions.now c.args.standing c.args.answer.now c.args.name.now g (parameters c.args.params.now)))
    c.in_ok-heading.ensures
    c.prototype_headed.ensures.standing
