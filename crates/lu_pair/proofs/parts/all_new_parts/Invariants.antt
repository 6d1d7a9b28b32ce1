use Rattle.std.proofs.Common.{◌≡◌, take}
use Rattle.lu_image.specs.Names.{joined}
use Rattle.lu_image.specs.RenameRefusal.{new_parts}
use Rattle.lu_pair.specs.Tags.{pair_of}
use Rattle.lu_pair.proofs.parts.all_new_parts.Given as goal

abbrev pub invariant-loop-tag : goal.invariant-loop-tag
invariant-loop-tag l = l.names.items ≡ joined (new_parts l.p.old_texts.now l.p.new_texts.now l.p.new.now (pair_of l.p)) (take l.tag-index l.tag-items)
