use Rattle.std.proofs.Common.{◌≡◌, ◌+◌, length}
use Rattle.src_meaning.specs.ValidTable as spec
use Rattle.src_model.proofs.valid_table.has_pointers.Given as goal

abbrev pub invariant-loop-rest : goal.invariant-loop-rest
invariant-loop-rest l =
    (l.number + length l.rest ≡ length l.parts.types)
    × (spec.all_from (spec.has_pointer l.parts) l.number l.rest ≡ spec.all_from (spec.has_pointer l.parts) 0 l.parts.types)

abbrev pub decreases-loop-rest : goal.decreases-loop-rest
decreases-loop-rest l = length l.rest
