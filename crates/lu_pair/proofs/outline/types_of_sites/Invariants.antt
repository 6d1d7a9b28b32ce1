use Rattle.std.proofs.Common.{◌≡◌, map, take}
use Rattle.lu_pair.proofs.outline.types_of_sites.Given as goal

abbrev pub invariant-loop-site : goal.invariant-loop-site
invariant-loop-site l = l.types.items ≡ map (λ s. s.elem) (take l.site-index l.sites)
