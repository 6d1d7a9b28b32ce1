use Rattle.std.proofs.Common.{◌≡◌, take}
use Rattle.lu_image.specs.Pairing.{old_names}
use Rattle.lu_pair.proofs.renaming.old_names.Given as goal

abbrev pub invariant-loop-rename : goal.invariant-loop-rename
invariant-loop-rename l = l.names.items ≡ old_names (take l.rename-index l.renames)
