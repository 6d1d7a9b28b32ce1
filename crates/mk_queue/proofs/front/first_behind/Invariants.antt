use Rattle.std.proofs.Common.{◌≡◌}
use Rattle.mk_queue.specs.Fronts.{first_behind}
use Rattle.mk_queue.proofs.front.first_behind.Given as goal

abbrev pub invariant-loop-i : goal.invariant-loop-i
invariant-loop-i l = first_behind l.messages.items l.i l.source ≡ first_behind l.messages.items l.fn.place l.source
