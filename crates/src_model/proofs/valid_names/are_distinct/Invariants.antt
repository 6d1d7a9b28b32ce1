use Rattle.std.proofs.Common.{◌≡◌, length}
use Rattle.src_meaning.specs.ValidNames as spec
use Rattle.src_model.proofs.valid_names.are_distinct.Given as goal

abbrev pub invariant-loop-rest : goal.invariant-loop-rest
invariant-loop-rest l = spec.are_distinct l.rest ≡ spec.are_distinct l.names

abbrev pub decreases-loop-rest : goal.decreases-loop-rest
decreases-loop-rest l = length l.rest
