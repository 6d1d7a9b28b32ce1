use Rattle.std.proofs.Common.{◌≡◌, map, take}
use Rattle.lu_pair.proofs.outline.types_of_globals.Given as goal

abbrev pub invariant-loop-global : goal.invariant-loop-global
invariant-loop-global l = l.types.items ≡ map (λ g. g.ty) (take l.global-index l.globals)
