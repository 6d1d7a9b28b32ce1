use Rattle.std.proofs.Common.{◌≡◌, take}
use Rattle.lu_image.specs.Names.{named_sites}
use Rattle.lu_pair.proofs.texts.site_names.Given as goal

abbrev pub invariant-loop-site : goal.invariant-loop-site
invariant-loop-site l = l.names.items ≡ named_sites l.functions (take l.site-index l.sites)
