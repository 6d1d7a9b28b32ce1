use Rattle.std.proofs.Common.{◌≡◌, map, take, slice_get}
use Rattle.lu_pair.proofs.texts.names_of_functions.Given as goal

abbrev pub invariant-loop-function : goal.invariant-loop-function
invariant-loop-function l = l.names.items ≡ map (λ f. slice_get l.texts f.name) (take l.function-index l.functions)
