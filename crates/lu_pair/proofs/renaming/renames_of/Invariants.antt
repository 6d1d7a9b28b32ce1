use Rattle.std.proofs.Common.{◌≡◌, take}
use Rattle.lu_image.specs.Pairing.{of_table}
use Rattle.lu_pair.proofs.renaming.renames_of.Given as goal

abbrev pub invariant-loop-rename : goal.invariant-loop-rename
invariant-loop-rename l = l.found.items ≡ of_table l.table (take l.rename-index l.renames)
