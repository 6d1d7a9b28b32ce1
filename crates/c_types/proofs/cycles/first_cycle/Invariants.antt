use Rattle.std.proofs.Common.{ℕ, ◌<◌}
use Rattle.c_types.specs.Chain.{IsCyclic}
use Rattle.c_types.proofs.cycles.first_cycle.Given as goal

abbrev pub invariant-loop-number : goal.invariant-loop-number
invariant-loop-number l = (m : ℕ) → m < l.number → IsCyclic l.parts m → ⊥
