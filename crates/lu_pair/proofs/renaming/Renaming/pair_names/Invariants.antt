use Rattle.std.proofs.Common.{◌≡◌, take}
use Rattle.lu_image.specs.Pairing.{pair_names}
use Rattle.lu_pair.proofs.renaming.Renaming.pair_names.Given as goal

abbrev pub invariant-loop-name : goal.invariant-loop-name
invariant-loop-name l = l.pairs.items ≡ pair_names l.self (take l.name-index l.old) l.new
