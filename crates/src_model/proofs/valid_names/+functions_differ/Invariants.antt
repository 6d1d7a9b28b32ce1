use Rattle.std.proofs.Common.{length}
use Rattle.src_model.proofs.valid_names.+functions_differ.Given as goal

abbrev pub decreases-functions_differ : goal.decreases-functions_differ
decreases-functions_differ l = length l.functions.now
