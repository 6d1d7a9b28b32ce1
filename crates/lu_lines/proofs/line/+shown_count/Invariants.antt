use Rattle.std.proofs.Common.{length}
use Rattle.lu_lines.proofs.line.+shown_count.Given as goal

abbrev pub decreases-shown_count : goal.decreases-shown_count
decreases-shown_count l = length l.arg.now
