use Rattle.std.proofs.Common.{◌≡◌, drop}
use Rattle.c_check.specs.ProgramScope as spec
use Rattle.c_check.proofs.meanings.add_globals.Given as goal

abbrev pub invariant-loop-global : goal.invariant-loop-global
invariant-loop-global l =
    spec.with_globals l.fn.meanings 0 l.globals ≡ spec.with_globals l.meanings l.number (drop l.global-index l.globals)
