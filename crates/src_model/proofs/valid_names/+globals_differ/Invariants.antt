use Rattle.std.proofs.Common.{length}
use Rattle.src_model.proofs.valid_names.+globals_differ.Given as goal

abbrev pub decreases-globals_differ : goal.decreases-globals_differ
decreases-globals_differ l = length l.globals.now
