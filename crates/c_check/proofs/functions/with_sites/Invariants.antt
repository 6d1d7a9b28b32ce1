use Rattle.std.proofs.Common.{◌≡◌, drop}
use Rattle.c_check.specs.Standings as spec
use Rattle.c_check.proofs.functions.with_sites.Given as goal

abbrev pub invariant-loop-ordinal : goal.invariant-loop-ordinal
invariant-loop-ordinal l =
    spec.with_sites l.fn.sites l.function 0 l.elems ≡ spec.with_sites l.all l.function l.ordinal (drop l.ordinal l.elems)
