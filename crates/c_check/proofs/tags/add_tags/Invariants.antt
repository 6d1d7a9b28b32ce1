use Rattle.std.proofs.Common.{◌≡◌, drop}
use Rattle.c_check.specs.ProgramScope as spec
use Rattle.c_check.proofs.tags.add_tags.Given as goal

abbrev pub invariant-loop-definition : goal.invariant-loop-definition
invariant-loop-definition l =
    spec.with_tags l.fn.tags l.kind 0 l.definitions ≡ spec.with_tags l.tags l.kind l.number (drop l.definition-index l.definitions)
