use Rattle.std.proofs.Common.{◌≡◌, drop}
use Rattle.c_check.specs.ProgramScope as spec
use Rattle.c_check.proofs.names.add_names.Given as goal

abbrev pub invariant-loop-name : goal.invariant-loop-name
invariant-loop-name l =
    spec.all_named l.fn.names l.more ≡ spec.all_named l.names (drop l.name-index l.more)
