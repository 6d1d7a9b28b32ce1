use Rattle.std.proofs.Common.{◌≡◌, take}
use Rattle.c_check_scope.proofs.types.numbered.Given as goal

abbrev pub invariant-loop-ty : goal.invariant-loop-ty
invariant-loop-ty l = l.numbers.keys ≡ take l.ty-index l.parts.types
