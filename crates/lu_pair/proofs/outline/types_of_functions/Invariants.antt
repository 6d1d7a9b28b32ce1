use Rattle.std.proofs.Common.{◌≡◌, map, take}
use Rattle.lu_pair.specs.Outlines.{signature_of}
use Rattle.lu_pair.proofs.outline.types_of_functions.Given as goal

abbrev pub invariant-loop-function : goal.invariant-loop-function
invariant-loop-function l = l.types.items ≡ map signature_of (take l.function-index l.functions)
