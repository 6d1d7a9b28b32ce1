-- Lists of fields as they are declared.
use Rattle.std.proofs.Common.{◌≡◌, refl, ap, suc, List, [], ◌∷◌, length}
use Rattle.c_ast.specs.declared.decl.Named.{Named}
use Rattle.c_ast.specs.Trees.{objects}

pub objects_length : (os : List Named) → length (objects os) ≡ length os
objects_length [] = refl
objects_length (o ∷ os) = ap suc (objects_length os)
