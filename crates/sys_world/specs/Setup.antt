-- What the system's steps read.
use Rattle.std.specs.Prelude.{ℕ, ℤ, Bool, List}
use Rattle.lu_base.specs.declared.world.World.{World}
use Rattle.src_tree.specs.declared.expr.TypedExpr.{TypedExpr}
use Rattle.src_tree.specs.declared.program.Program.{Program}
use Rattle.lu_lines.specs.Line.{Text}
use Rattle.lu_image.specs.declared.pairing.Pairing.{Pairing}
use Rattle.lu_image_store.specs.Versions.{Versions}
use Rattle.sched_file.specs.declared.event.Event.{Event}

-- a server: its name, the numbers that its sends go by, and the version and the program that it begins with
pub record ServerSetup : Type 0 where
  pub name : Text
  pub world : World
  pub version : ℕ
  pub program : Program

-- an update of the server at a place, from a version to another: the programs of both, what pairs in them, and the rules
pub record UpdateSetup : Type 0 where
  pub name : Text
  pub server : ℕ
  pub world : World
  pub from : ℕ
  pub to : ℕ
  pub old_program : Program
  pub new_program : Program
  pub pairing : Pairing
  pub filter : TypedExpr
  pub hold : List ℤ
  pub tries : ℕ
  pub gated : Bool

-- the servers, the updates, and the events between Boot and Finish
pub record SystemSetup : Type 0 where
  pub servers : List ServerSetup
  pub updates : List UpdateSetup
  pub events : List Event

abbrev pub versions_of : UpdateSetup → Versions
versions_of u = record { pairing = u.pairing; old_names = u.old_program.names; new_names = u.new_program.names }
