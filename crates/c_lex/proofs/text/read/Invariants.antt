use Rattle.std.proofs.Common.{◌-◌, length}
use Rattle.c_lex.proofs.Pieces.{ReadUpTo}
use Rattle.c_lex.proofs.text.read.Given as goal

abbrev pub invariant-loop-at : goal.invariant-loop-at
invariant-loop-at l = ReadUpTo l.text l.at l.tokens.items

abbrev pub decreases-loop-at : goal.decreases-loop-at
decreases-loop-at l = length l.text - l.at
