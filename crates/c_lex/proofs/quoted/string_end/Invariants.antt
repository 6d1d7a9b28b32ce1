use Rattle.std.proofs.Common.{◌≡◌, ◌-◌, ◌≤◌, length, drop}
use Rattle.c_lex.specs.Front.{string_end, behind}
use Rattle.c_lex.proofs.quoted.string_end.Given as goal

abbrev pub invariant-loop-at : goal.invariant-loop-at
invariant-loop-at l = (string_end l.text ≡ behind l.bytes.items l.at (string_end (drop l.at l.text))) × (l.at ≤ length l.text)

abbrev pub decreases-loop-at : goal.decreases-loop-at
decreases-loop-at l = length l.text - l.at
