use Rattle.std.proofs.Common.{◌≡◌, take}
use Rattle.c_ast.specs.Trees.{declarations}
use Rattle.c_check.specs.Headings as spec
use Rattle.c_check.proofs.headings.signatures.Given as goal

abbrev pub invariant-loop-place : goal.invariant-loop-place
invariant-loop-place l = l.all ≡ spec.signatures l.scope (declarations l.text) (take l.place-index l.places)
