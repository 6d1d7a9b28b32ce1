use Rattle.std.proofs.Common.{◌≡◌, length}
use Rattle.bm_step.proofs.entry.drop_callers.Given as goal

abbrev pub invariant-loop : goal.invariant-loop
invariant-loop l = l.calls.spare ≡ l.fn.calls.spare

abbrev pub decreases-loop : goal.decreases-loop
decreases-loop l = length l.calls.callers
