use Rattle.std.proofs.Common.{◌≡◌, take}
use Rattle.std.specs.Prelude.{map}
use Rattle.lu_resolve.specs.Renames.{rename_of}
use Rattle.lu_resolve.proofs.rename.all_renames.Given as goal

abbrev pub invariant-loop-rename : goal.invariant-loop-rename
invariant-loop-rename l = l.renames.items ≡ map rename_of (take l.rename-index l.planned)
