use Rattle.std.proofs.Common.{◌≡◌, take}
use Rattle.lu_image.specs.Pairing.{given_names}
use Rattle.lu_pair.proofs.renaming.given_names.Given as goal

abbrev pub invariant-loop-rename : goal.invariant-loop-rename
invariant-loop-rename l = l.names.items ≡ given_names (take l.rename-index l.renames)
