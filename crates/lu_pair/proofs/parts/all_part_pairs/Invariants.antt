use Rattle.std.proofs.Common.{◌≡◌, map, take}
use Rattle.lu_image.specs.Pairing.{part_pairs}
use Rattle.lu_pair.specs.Tags.{pair_of}
use Rattle.lu_pair.proofs.parts.all_part_pairs.Given as goal

abbrev pub invariant-loop-tag : goal.invariant-loop-tag
invariant-loop-tag l = l.pairs.items ≡ map (part_pairs l.renaming l.p.old_texts.now l.p.new_texts.now l.p.new.now (pair_of l.p)) (take l.tag-index l.tag-items)
