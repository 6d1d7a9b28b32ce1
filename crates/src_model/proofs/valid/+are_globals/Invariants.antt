use Rattle.std.proofs.Common.{length}
use Rattle.src_model.proofs.valid.+are_globals.Given as goal

abbrev pub decreases-are_globals : goal.decreases-are_globals
decreases-are_globals l = length l.globals.now
