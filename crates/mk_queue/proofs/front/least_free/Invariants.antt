use Rattle.std.proofs.Common.{◌≡◌, None, length}
use Rattle.mk_queue.specs.Fronts.{least_free}
use Rattle.mk_queue.proofs.front.least_free.Given as goal

abbrev pub invariant-loop-rest : goal.invariant-loop-rest
invariant-loop-rest l = least_free l.hold l.messages.items l.least l.rest ≡ least_free l.hold l.messages.items None l.fronts

abbrev pub decreases-loop-rest : goal.decreases-loop-rest
decreases-loop-rest l = length l.rest
