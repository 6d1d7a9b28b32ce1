-- What a server stands for, in the terms of the text.
use Rattle.std.specs.Prelude.{ℤ, List}
use Rattle.src_tree.specs.declared.value.Store.{Store}
use Rattle.src_meaning.specs.Initial.{initial_store}
use Rattle.src_meaning.specs.Store.{IsStore}
use Rattle.bm_objects.specs.Table.{next_address}
use Rattle.bm_code.specs.Globals.{Placed, idle_process, initial_process}
use Rattle.cg_program.specs.Compiled.{Source, IsSource, machine_code}
use Rattle.cg_server.specs.State.{ServerState, server_of}
use Rattle.cg_state.specs.Represents.{Represents, content_of, rows_of}

-- no call runs in the server, and its process stands for a store of its program, which is valid
pub record IsServerOf (s : ServerState) (store : Store) : Type 0 where
  pub source : IsSource s.source
  pub is_store : IsStore s.source.program store
  pub process : Represents s.process s.source.program store

-- A new server stands for the initial store of its program.
abbrev pub NewServers : Type 0
NewServers = (source : Source) → IsSource source → (own : ℤ) (servers : List ℤ)
    → IsServerOf (server_of source own servers (initial_process (machine_code source))) (initial_store source.program)

-- A server that adopts the bytes and the rows of a store of its program stands for the store.
abbrev pub AdoptedServers : Type 0
AdoptedServers = (source : Source) → IsSource source → (own : ℤ) (servers : List ℤ)
    → (store : Store) → IsStore source.program store
    → let rows = rows_of source.program store in
    let placed : Placed = record { content = content_of source.program.types store; rows = rows; next = next_address rows } in
    IsServerOf (server_of source own servers (idle_process placed)) store
