use Rattle.std.proofs.Common.{◌≡◌, take}
use Rattle.std.specs.Prelude.{map}
use Rattle.cg_program.specs.Compiled.{machine_global}
use Rattle.cg_program.proofs.globals.machine_globals.Given as goal

abbrev pub invariant-loop-index : goal.invariant-loop-index
invariant-loop-index l = l.globals ≡ map (machine_global l.p) (take l.index l.p.globals)
