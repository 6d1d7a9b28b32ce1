use Rattle.std.proofs.Common.{◌≡◌, drop}
use Rattle.c_ast.specs.Trees.{initializers}
use Rattle.c_check_decl.specs.Globals as spec
use Rattle.c_check_decl.proofs.initialisers.+unfit.Given as goal

abbrev pub invariant-unfit_all-loop-init : goal.invariant-unfit_all-loop-init
invariant-unfit_all-loop-init l =
    spec.unfit_all l.scope l.fn.rules (initializers l.inits) ≡ spec.unfit_all l.scope l.all (initializers (drop l.init-index l.inits))
