use Rattle.std.proofs.Common.{◌≡◌, length}
use Rattle.lu_base.specs.Stored.{front_in}
use Rattle.lu_base.proofs.mem_sink.front_of.Given as goal

abbrev pub invariant-loop-rest : goal.invariant-loop-rest
invariant-loop-rest l = front_in l.rest l.call ≡ front_in l.failing l.call

abbrev pub decreases-loop-rest : goal.decreases-loop-rest
decreases-loop-rest l = length l.rest
