use Rattle.std.proofs.Common.{ℕ, ◌<◌}
use Rattle.c_types.specs.Refusal.{IsEmpty}
use Rattle.c_types.proofs.duplicates.first_empty.Given as goal

abbrev pub invariant-loop-number : goal.invariant-loop-number
invariant-loop-number l = (m : ℕ) → m < l.number → IsEmpty l.parts m → ⊥
