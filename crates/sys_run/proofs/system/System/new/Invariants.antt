use Rattle.std.proofs.Common.{◌≡◌, length, take, map}
use Rattle.sys_mail.specs.Room.{cell_values}
use Rattle.sys_run.specs.Start.{start_runner, start_cell}
use Rattle.sys_run.proofs.system.System.new.Given as goal

abbrev pub invariant-loop-server : goal.invariant-loop-server
invariant-loop-server l =
    (l.runners.items ≡ map (start_runner l.servers) (take l.server-index l.servers))
    × (cell_values l.cells.items ≡ map start_cell (take l.server-index l.servers))
    × (length l.runners.items ≡ length l.cells.items)
