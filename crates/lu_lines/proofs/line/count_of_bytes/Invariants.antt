use Rattle.std.proofs.Common.{◌≡◌, ◌≤◌, ◌==◌, length, take}
use Rattle.lu_lines.specs.Line.{shown}
use Rattle.lu_lines.proofs.line.count_of_bytes.Given as goal

abbrev pub invariant-loop-count : goal.invariant-loop-count
invariant-loop-count l = (shown (λ b. b == 0) (take l.count l.bytes) ≡ shown (λ b. b == 0) l.bytes) × (l.count ≤ length l.bytes)

abbrev pub decreases-loop-count : goal.decreases-loop-count
decreases-loop-count l = l.count
