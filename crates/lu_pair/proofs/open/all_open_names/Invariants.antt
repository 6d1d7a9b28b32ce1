use Rattle.std.proofs.Common.{◌≡◌, map, take}
use Rattle.lu_image.specs.RenameRefusal.{open_name}
use Rattle.lu_pair.proofs.open.all_open_names.Given as goal

abbrev pub invariant-loop-name : goal.invariant-loop-name
invariant-loop-name l = l.all.items ≡ map (open_name l.table) (take l.name-index l.names)
