use Rattle.std.proofs.Common.{◌≡◌, subst}
use Rattle.std.specs.Prelude.{IfOk}
use Rattle.c_ast.specs.Trees.{parameters, statements}
use Rattle.c_check.specs.Functions as spec
use Rattle.c_check.proofs.definitions.declared_definition.Goals as goal

pub returns-clause-standing : goal.returns-clause-standing
returns-clause-standing c =
    subst (λ g. IfOk c.definition_headed.result (λ s. s ≡ spec.definition_headed c.args.standing c.args.answer.now c.args.name.now g (parameters c.args.params.now) (statements c.args.text.now)))
    c.in_ok-heading.ensures
    c.definition_headed.ensures.standing
