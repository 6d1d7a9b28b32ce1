-- The bytes and rows of a process that stands for a store of a program.
use Rattle.std.specs.Prelude.{◌≡◌, List}
use Rattle.src_tree.specs.declared.program.Program.{Program}
use Rattle.src_tree.specs.declared.value.Store.{Store}
use Rattle.src_meaning.specs.Store.{IsStore}
use Rattle.bm_mem.specs.Content.{Content}
use Rattle.bm_objects.specs.declared.row.Row.{Row}
use Rattle.cg_state.specs.Represents.{content_of, rows_of}

pub record StandFor (content : Content) (rows : List Row) (program : Program) (s : Store) : Type 0 where
  pub store : IsStore program s
  pub bytes : content ≡ content_of program.types s
  pub table : rows ≡ rows_of program s
