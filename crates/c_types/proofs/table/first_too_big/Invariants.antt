use Rattle.std.proofs.Common.{ℕ, ◌<◌}
use Rattle.c_types.specs.Refusal.{IsTooBig}
use Rattle.c_types.proofs.table.first_too_big.Given as goal

abbrev pub invariant-loop-number : goal.invariant-loop-number
invariant-loop-number l = (m : ℕ) → m < l.number → IsTooBig l.parts m → ⊥
