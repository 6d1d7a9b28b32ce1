use Rattle.std.proofs.Common.{◌+◌, ◌-◌, ◌*◌, length}
use Rattle.c_types.specs.Recursion.{depth}
use Rattle.src_meaning.specs.Paths.{zero_of}
use Rattle.src_meaning.specs.Initial.{item_types}
use Rattle.src_meaning.proofs.InitialLemmas.{IsFilled}
use Rattle.src_model.proofs.initial.+zero_value.Given as goal

abbrev pub decreases-zero_value : goal.decreases-zero_value
decreases-zero_value l = 2 * depth l.types.now l.number + 1

abbrev pub decreases-with_zeros : goal.decreases-with_zeros
decreases-with_zeros l = 2 * depth l.types.now l.number

abbrev pub decreases-with_zeros-loop-ty : goal.decreases-with_zeros-loop-ty
decreases-with_zeros-loop-ty l = length (item_types l.types l.number) - length l.items

abbrev pub invariant-with_zeros-loop-ty : goal.invariant-with_zeros-loop-ty
invariant-with_zeros-loop-ty l = IsFilled (zero_of l.types) l.fn.first (item_types l.types l.number) l.items
