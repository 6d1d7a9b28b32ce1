use Rattle.std.proofs.Common.{ℕ, ◌<◌}
use Rattle.c_types.specs.Refusal.{HaveOneName}
use Rattle.c_types.proofs.duplicates.name_before.Given as goal

abbrev pub invariant-loop-j : goal.invariant-loop-j
invariant-loop-j l = (m : ℕ) → m < l.j → HaveOneName l.fields m l.k → ⊥
