use Rattle.std.proofs.Common.{◌≡◌, take, ℕ}
use Rattle.lu_image.specs.Pairing.{site_elements}
use Rattle.lu_pair.specs.Sites.{elements_in}
use Rattle.lu_pair.proofs.sites.elements_of.Given as goal

abbrev pub invariant-loop-site : goal.invariant-loop-site
invariant-loop-site l = (f : ℕ) → elements_in l.elements f ≡ site_elements (take l.site-index l.sites) f
