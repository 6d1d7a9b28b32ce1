use Rattle.std.proofs.Common.{ℕ, ◌<◌}
use Rattle.c_types.specs.Refusal.{HasNameBefore}
use Rattle.c_types.proofs.duplicates.names_twice.Given as goal

abbrev pub invariant-loop-k : goal.invariant-loop-k
invariant-loop-k l = (m : ℕ) → m < l.k → HasNameBefore l.fields m → ⊥
