-- The exit status of the process.
use Rattle.std.specs.Prelude.{ℕ}
use Rattle.lu_base.specs.declared.status.Status.{Status}
use Rattle.lu_base.specs.declared.status.Status.TheVariants.{Done, Usage, ReadFault, Refused, WriteFault, Memory}

abbrev pub exit_code : Status → ℕ
exit_code Done = 0
exit_code Usage = 1
exit_code ReadFault = 2
exit_code Refused = 3
exit_code WriteFault = 4
exit_code Memory = 5
