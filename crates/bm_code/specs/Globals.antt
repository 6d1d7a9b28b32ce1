-- The objects of a program's globals.
use Rattle.std.specs.Prelude.{ℕ, true, List, [], ◌∷◌, ◌++◌, Option, Some, None, slice_get}
use Rattle.std.specs.FinMap as map
use Rattle.lu_base.specs.declared.limits.TheConstants.{FIRST_ADDRESS}
use Rattle.lu_base.specs.Addresses.{address_after}
use Rattle.c_types.specs.declared.parts.Parts.{Parts}
use Rattle.c_types.specs.declared.parts.Ty.{Ty}
use Rattle.c_types.specs.declared.parts.Ty.TheVariants.{Array}
use Rattle.c_types.specs.Layout.{size_of}
use Rattle.bm_mem.specs.Content.{Content}
use Rattle.bm_objects.specs.declared.row.Row.{Row}
use Rattle.bm_code.specs.declared.code.MachineCode.{MachineCode}
use Rattle.bm_code.specs.declared.code.MachineGlobal.{MachineGlobal}
use Rattle.bm_code.specs.Process.{Idle, Process}

-- the bytes of objects by address, the objects in order, and the address of the next one
pub record Placed : Type 0 where
  pub content : Content
  pub rows : List Row
  pub next : ℕ

-- no objects
abbrev pub no_objects : Placed
no_objects = record { content = map.empty; rows = []; next = FIRST_ADDRESS }

-- the type of an object's elements, and how many there are: an array is the object of its elements
abbrev pub elements_in : ℕ → Option Ty → ℕ × ℕ
elements_in t (Some (Array elem count)) = (elem, count)
elements_in t _ = (t, 1)

abbrev pub elements_of : Parts → ℕ → ℕ × ℕ
elements_of types t = elements_in t (slice_get types.types t)

-- a global at the next address
abbrev pub global_row : Parts → ℕ → MachineGlobal → Row
global_row types next g = record {
  addr = next;
  elem = (elements_of types g.ty).0;
  count = (elements_of types g.ty).1;
  size = size_of types g.ty;
  site = None;
  live = true;
}

-- one more object, with its initial bytes
abbrev pub with_global : Parts → Placed → MachineGlobal → Placed
with_global types p g = record {
  content = map.insert p.content p.next g.bytes;
  rows = p.rows ++ global_row types p.next g ∷ [];
  next = address_after p.next (size_of types g.ty);
}

abbrev pub with_globals : Parts → Placed → List MachineGlobal → Placed
with_globals types p [] = p
with_globals types p (g ∷ gs) = with_globals types (with_global types p g) gs

-- a process in which no call has run
abbrev pub idle_process : Placed → Process
idle_process p = record {
  content = p.content;
  rows = p.rows;
  next = p.next;
  outbox = [];
  activity = Idle None;
  spare = 0;
}

-- the process of a program at its start: the globals with their initial bytes, each behind the one before
abbrev pub initial_process : MachineCode → Process
initial_process code = idle_process (with_globals code.types no_objects code.globals)
