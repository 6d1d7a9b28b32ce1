use Rattle.std.proofs.Common.{◌≡◌, ◌++◌, map, length, string_bytes}
use Rattle.std.specs.Fmt.{signed_decimal}
use Rattle.lu_lines.specs.Line.{further_words}
use Rattle.lu_lines.proofs.line.push_numbers.Given as goal

-- the line so far and the numbers that are left make the whole
abbrev pub invariant-loop-rest : goal.invariant-loop-rest
invariant-loop-rest l =
    string_bytes l.line ++ further_words (map signed_decimal l.rest) ≡ string_bytes l.fn.line ++ further_words (map signed_decimal l.numbers)

abbrev pub decreases-loop-rest : goal.decreases-loop-rest
decreases-loop-rest l = length l.rest
