use Rattle.std.proofs.Common.{◌≡◌, take}
use Rattle.lu_image.specs.Names.{tag_names}
use Rattle.lu_pair.proofs.texts.names_of_tags.Given as goal

abbrev pub invariant-loop-tag : goal.invariant-loop-tag
invariant-loop-tag l = l.names.items ≡ tag_names l.texts (take l.tag-index l.tags)
