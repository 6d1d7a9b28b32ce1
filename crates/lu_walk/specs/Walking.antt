-- Walks over the objects of a store.
use Rattle.std.specs.Prelude.{List}
use Rattle.src_tree.specs.declared.program.Program.{Program}
use Rattle.src_tree.specs.declared.value.Store.{Store}
use Rattle.bm_mem.specs.Content.{Content}
use Rattle.bm_objects.specs.declared.row.Row.{Row}
use Rattle.lu_image.specs.Pairs.{Pairs}
use Rattle.lu_image_store.specs.Versions.{Versions}
use Rattle.lu_image_store.specs.Needed.{graph_of}
use Rattle.lu_mark.specs.declared.marks.WalkState.{WalkState}
use Rattle.lu_mark.specs.Marking.{Marking}
use Rattle.lu_mark.specs.Walks.{IsWalk, GoesOn}
use Rattle.lu_walk.specs.Stands.{StandFor}

-- A walk over the needed objects of each store for which the bytes and rows stand: a store of the pairing's old program.
abbrev pub IsWalkOf : Versions → Content → List Row → Marking → Type 0
IsWalkOf m content rows walk =
    (old new : Program) (s : Store) → Pairs old new m.pairing → StandFor content rows old s → IsWalk (graph_of m s) walk

-- such a walk goes on, to that state
abbrev pub GoesOnOf : Versions → Content → List Row → Marking → Marking → WalkState → Type 0
GoesOnOf m content rows walk next state =
    (old new : Program) (s : Store) → Pairs old new m.pairing → StandFor content rows old s → IsWalk (graph_of m s) walk → GoesOn (graph_of m s) next state
