use Rattle.std.proofs.Common.{length}
use Rattle.src_model.proofs.valid_numbering.+are_functions_numbered.Given as goal

abbrev pub decreases-are_functions_numbered : goal.decreases-are_functions_numbered
decreases-are_functions_numbered l = length l.functions.now
