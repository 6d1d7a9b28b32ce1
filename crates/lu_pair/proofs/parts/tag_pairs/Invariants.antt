use Rattle.std.proofs.Common.{◌≡◌, map, take}
use Rattle.lu_pair.specs.Tags.{pair_of}
use Rattle.lu_pair.proofs.parts.tag_pairs.Given as goal

abbrev pub invariant-loop-tag : goal.invariant-loop-tag
invariant-loop-tag l = l.pairs.items ≡ map (pair_of l.p) (take l.tag-index l.tag-items)
