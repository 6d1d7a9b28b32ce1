use Rattle.std.proofs.Common.{◌≡◌, length}
use Rattle.lu_base.specs.Files.{file_named}
use Rattle.lu_base.proofs.stored.find.Given as goal

abbrev pub invariant-loop-rest : goal.invariant-loop-rest
invariant-loop-rest l = file_named l.rest l.name ≡ file_named l.files l.name

abbrev pub decreases-loop-rest : goal.decreases-loop-rest
decreases-loop-rest l = length l.rest
