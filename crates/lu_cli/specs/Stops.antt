-- Why writing stops, and its status.
use Rattle.std.specs.Prelude.{Result, Ok, Err}
use Rattle.lu_base.specs.declared.status.Status.{Status}
use Rattle.lu_base.specs.declared.status.Status.TheVariants as status
use Rattle.lu_cli.specs.declared.write.Stopped.{Stopped}
use Rattle.lu_cli.specs.declared.write.Stopped.TheVariants as stopped

abbrev pub status_of : Result Status Stopped → Status
status_of (Ok s) = s
status_of (Err stopped.WriteFault) = status.WriteFault
status_of (Err stopped.Memory) = status.Memory
