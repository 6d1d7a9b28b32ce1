use Rattle.sys_run.specs.Runs.{machines_of}
use Rattle.sys_run.specs.Events.{AreBooted}
use Rattle.sys_run.proofs.kernel.boot_all.Given as goal

abbrev pub invariant-loop-place : goal.invariant-loop-place
invariant-loop-place l = AreBooted l.place (machines_of l.fn.runners l.fn.cells l.fn.out) (machines_of l.runners l.cells l.out)
