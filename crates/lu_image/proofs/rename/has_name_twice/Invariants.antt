use Rattle.std.proofs.Common.{◌≡◌, length}
use Rattle.lu_image.specs.Renaming.{has_name_twice}
use Rattle.lu_image.proofs.rename.has_name_twice.Given as goal

abbrev pub invariant-loop-rest : goal.invariant-loop-rest
invariant-loop-rest l = has_name_twice l.rest ≡ has_name_twice l.renames

abbrev pub decreases-loop-rest : goal.decreases-loop-rest
decreases-loop-rest l = length l.rest
