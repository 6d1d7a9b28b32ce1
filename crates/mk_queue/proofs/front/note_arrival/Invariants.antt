use Rattle.std.proofs.Common.{◌≡◌, map, take, drop, ◌++◌}
use Rattle.mk_queue.specs.Fronts.{arrived}
use Rattle.mk_queue.proofs.front.note_arrival.Given as goal

abbrev pub invariant-loop-i : goal.invariant-loop-i
invariant-loop-i l = l.fronts.items ≡ map (arrived l.source l.place) (take l.i l.initial.fronts.items) ++ drop l.i l.initial.fronts.items
