use Rattle.std.proofs.Common.{◌≡◌, drop}
use Rattle.c_check.specs.ProgramScope as spec
use Rattle.c_check.proofs.meanings.add_functions.Given as goal

abbrev pub invariant-loop-function : goal.invariant-loop-function
invariant-loop-function l =
    spec.with_functions l.types l.fn.meanings 0 l.functions ≡ spec.with_functions l.types l.meanings l.number (drop l.function-index l.functions)
