-- What the error of a refused expression says.
use Rattle.std.specs.Prelude.{◌≡◌, ⊤, ℕ, true}
use Rattle.c_ast.specs.Trees.{Expression}
use Rattle.src_tree.specs.declared.program.Program.{Program}
use Rattle.c_check_scope.specs.Rules.{IsLeast, breaks}
use Rattle.c_check_expr.specs.Typing.{typed}
use Rattle.c_check.specs.ProgramScope.{scope_of}
use Rattle.c_check_scope.specs.declared.error.CheckError.{CheckError}
use Rattle.c_check_scope.specs.declared.error.CheckError.TheVariants.{Rule, Memory}

-- the expression breaks the rule of this code
abbrev pub breaks_rule : Program → Expression → ℕ → Type 0
breaks_rule program e c = breaks (typed (scope_of program) e) c ≡ true

-- the expression is declaration 1, and breaks the rule of this code and none of a lesser one
abbrev pub Refuses : Program → Expression → CheckError → Type 0
Refuses program e (Rule decl k) = (decl ≡ 1) × IsLeast (breaks_rule program e) k
Refuses program e Memory = ⊤
