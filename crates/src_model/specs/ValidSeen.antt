-- What the code's view of a function's declarations stands for.
use Rattle.src_model.specs.declared.valid_expr.Declarations as Code
use Rattle.src_meaning.specs.ValidExpression.{Declarations}

abbrev pub seen : Code.Declarations → Declarations
seen at = record { program = at.program.now; params = at.params.now; locals = at.locals.now }
