use Rattle.std.proofs.Common.{◌≡◌, length}
use Rattle.bm_run.proofs.callers.make_frames.Given as goal

abbrev pub invariant-loop : goal.invariant-loop
invariant-loop l = length l.frames.items ≡ l.counter
