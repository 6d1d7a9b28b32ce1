use Rattle.std.proofs.Common.{ℕ, ◌<◌}
use Rattle.c_types.specs.Refusal.{IsDuplicate}
use Rattle.c_types.proofs.duplicates.first_duplicate.Given as goal

abbrev pub invariant-loop-number : goal.invariant-loop-number
invariant-loop-number l = (m : ℕ) → m < l.number → IsDuplicate l.parts m → ⊥
