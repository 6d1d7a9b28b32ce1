use Rattle.std.proofs.Common.{◌≡◌, map, take, drop, ◌++◌}
use Rattle.mk_queue.specs.Fronts.{left}
use Rattle.mk_queue.proofs.front.note_removal.Given as goal

abbrev pub invariant-loop-i : goal.invariant-loop-i
invariant-loop-i l = l.fronts.items ≡ map (left l.messages.items l.place) (take l.i l.initial.fronts.items) ++ drop l.i l.initial.fronts.items
