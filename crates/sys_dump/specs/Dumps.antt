-- What the dump of a server tells.
use Rattle.std.specs.Prelude.{◌≡◌}
use Rattle.lu_lines.specs.Line.{Text}
use Rattle.src_tree.specs.declared.value.Store.{Store}
use Rattle.cg_server.specs.Dump as machine
use Rattle.cg_server.specs.State.{ServerState}
use Rattle.cg_meaning.specs.Servers.{IsServerOf}
use Rattle.sys_world.specs.Dump.{dump_notes}
use Rattle.sys_world.specs.World.{Idle}

-- The dump of a server's process is that of the store for which the server stands.
abbrev pub DumpsTellStores : Type 0
DumpsTellStores = (s : ServerState) (store : Store) → IsServerOf s store → (name : Text)
    → machine.dump_notes name s.source.program s.process ≡ dump_notes name s.source.program (Idle store)
