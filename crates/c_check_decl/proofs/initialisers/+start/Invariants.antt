use Rattle.std.proofs.Common.{◌≡◌, Ok, [], drop}
use Rattle.c_ast.specs.Trees.{initializers}
use Rattle.c_check_decl.specs.Globals as spec
use Rattle.c_check_decl.proofs.initialisers.+start.Given as goal

abbrev pub invariant-starts-loop-init : goal.invariant-starts-loop-init
invariant-starts-loop-init l = record {
  number : l.k ≡ l.init-index;
  value : spec.starts l.scope l.functions l.ty 0 (Ok []) (initializers l.inits) ≡ spec.starts l.scope l.functions l.ty l.k l.done (initializers (drop l.init-index l.inits));
}
