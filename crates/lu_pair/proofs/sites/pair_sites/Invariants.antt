use Rattle.std.proofs.Common.{◌≡◌, map, take}
use Rattle.lu_pair.specs.Sites.{site_pair}
use Rattle.lu_pair.proofs.sites.pair_sites.Given as goal

abbrev pub invariant-loop-site : goal.invariant-loop-site
invariant-loop-site l = l.pairs.items ≡ map (site_pair l.p) (take l.site-index l.sites)
