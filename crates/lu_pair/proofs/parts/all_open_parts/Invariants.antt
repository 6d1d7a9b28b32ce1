use Rattle.std.proofs.Common.{◌≡◌, take}
use Rattle.lu_image.specs.Names.{joined}
use Rattle.lu_image.specs.RenameRefusal.{open_parts}
use Rattle.lu_pair.proofs.parts.all_open_parts.Given as goal

abbrev pub invariant-loop-tag : goal.invariant-loop-tag
invariant-loop-tag l = l.names.items ≡ joined (open_parts l.table l.texts) (take l.tag-index l.tags)
