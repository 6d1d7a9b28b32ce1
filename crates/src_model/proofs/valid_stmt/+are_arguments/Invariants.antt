use Rattle.std.proofs.Common.{length}
use Rattle.src_model.proofs.valid_stmt.+are_arguments.Given as goal

abbrev pub decreases-are_arguments : goal.decreases-are_arguments
decreases-are_arguments l = length l.types.now
