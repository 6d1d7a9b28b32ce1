use Rattle.std.proofs.Common.{◌≡◌, take}
use Rattle.lu_image.specs.Names.{part_names}
use Rattle.lu_pair.proofs.texts.part_names.Given as goal

abbrev pub invariant-loop-field : goal.invariant-loop-field
invariant-loop-field l = l.names.items ≡ part_names l.texts l.tag (take l.field-index l.fields)
