use Rattle.std.proofs.Common.{◌≡◌, ◌+◌, length}
use Rattle.src_meaning.specs.ValidTable as spec
use Rattle.src_model.proofs.valid_table.has_each.Given as goal

abbrev pub invariant-loop-rest : goal.invariant-loop-rest
invariant-loop-rest g l =
    (l.number + length l.rest ≡ length l.entries)
    × (spec.all_from (spec.has l.parts l.kind) l.number l.rest ≡ spec.all_from (spec.has l.parts l.kind) 0 l.entries)

abbrev pub decreases-loop-rest : goal.decreases-loop-rest
decreases-loop-rest g l = length l.rest
