-- Memory that has the live objects of a table.
use Rattle.std.specs.Prelude.{◌≡◌, ℕ, ◌<◌, true, List, length, Option, Some, Result, Ok, slice_get}
use Rattle.std.specs.FinMap.{get}
use Rattle.lu_base.specs.declared.trap.Trap.{Trap}
use Rattle.c_types.specs.declared.parts.Parts.{Parts}
use Rattle.bm_mem.specs.Content.{Content}
use Rattle.bm_objects.specs.declared.row.Row.{Row}
use Rattle.bm_code.specs.Frames.{some_or, bad}

-- the row has an object of its size
abbrev pub HasObject : Content → Row → Type 0
HasObject m r = (bytes : List ℕ) × (get m r.addr ≡ Some bytes) × (length bytes ≡ r.size)

-- a live row of the table begins there
abbrev pub IsOfRow : List Row → ℕ → Type 0
IsOfRow rows start = (k : ℕ) × (r : Row) × (slice_get rows k ≡ Some r) × (r.addr ≡ start) × (r.live ≡ true)

-- exactly the live rows have an object
pub record IsMapped (m : Content) (rows : List Row) : Type 0 where
  pub live : (k : ℕ) (r : Row) → slice_get rows k ≡ Some r → r.live ≡ true → HasObject m r
  pub only : (start : ℕ) (bytes : List ℕ) → get m start ≡ Some bytes → IsOfRow rows start

-- the elements of each row have a type of the program
abbrev pub AreKnown : Parts → List Row → Type 0
AreKnown types rows = (k : ℕ) (r : Row) → slice_get rows k ≡ Some r → r.elem < length types.types

abbrev pub or_bad : {A : Type 0} → Option A → Result A Trap
or_bad o = some_or o bad Ok
