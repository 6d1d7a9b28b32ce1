use Rattle.std.proofs.Common.{◌≡◌, map, take, slice_get}
use Rattle.lu_pair.proofs.texts.names_of_globals.Given as goal

abbrev pub invariant-loop-global : goal.invariant-loop-global
invariant-loop-global l = l.names.items ≡ map (λ g. slice_get l.texts g.name) (take l.global-index l.globals)
