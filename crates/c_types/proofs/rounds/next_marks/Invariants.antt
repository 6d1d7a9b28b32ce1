use Rattle.std.proofs.Common.{◌≡◌, map, take}
use Rattle.c_types.specs.Rounds.{round_mark}
use Rattle.c_types.proofs.rounds.next_marks.Given as goal

abbrev pub invariant-loop-ty : goal.invariant-loop-ty
invariant-loop-ty l = l.next.items ≡ map (round_mark l.parts l.target l.marks) (take l.ty-index l.ty-items)
