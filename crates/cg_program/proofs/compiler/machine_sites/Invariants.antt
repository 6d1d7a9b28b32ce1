use Rattle.std.proofs.Common.{◌≡◌, take}
use Rattle.std.specs.Prelude.{map}
use Rattle.cg_program.specs.Compiled.{machine_site}
use Rattle.cg_program.proofs.compiler.machine_sites.Given as goal

abbrev pub invariant-loop-site : goal.invariant-loop-site
invariant-loop-site l = l.copies ≡ map machine_site (take l.site-index l.sites)
