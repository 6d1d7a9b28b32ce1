-- A table of objects, as the list of its rows.
use Rattle.std.specs.Prelude.{ℕ, ◌+◌, ◌<◌, ◌^◌, Bool, false, ◌&&◌, nat_le, if◌then◌else◌, ◌==◌, List, [], ◌∷◌, All, map}
use Rattle.std.specs.List.{AllPairs}
use Rattle.lu_base.specs.declared.limits.TheConstants.{FIRST_ADDRESS}
use Rattle.lu_base.specs.Addresses.{address_after}
use Rattle.bm_objects.specs.declared.row.Row.{Row}

-- the address behind the last byte
abbrev pub end_of : Row → ℕ
end_of row = row.addr + row.size

-- the address is one of the row's bytes, or its end
abbrev pub reaches : ℕ → Row → Bool
reaches addr row = nat_le row.addr addr && nat_le addr (end_of row)

-- each row ends before the next begins, and the last before the end of memory
pub record IsTable (rows : List Row) : Type 0 where
  pub ends : All (λ row. end_of row < 2 ^ 32) rows
  pub apart : AllPairs (λ row later. end_of row < later.addr) rows

-- a row, dead if it begins at the address
abbrev pub killed_at : ℕ → Row → Row
killed_at addr row = if row.addr == addr then record row { live = false } else row

-- the rows, with the one that begins at the address dead
abbrev pub killed : List Row → ℕ → List Row
killed rows addr = map (killed_at addr) rows

-- the address of the object behind these: behind the last one, or the given address where there is none
abbrev pub next_from : ℕ → List Row → ℕ
next_from first [] = first
next_from first (row ∷ rows) = next_from (address_after row.addr row.size) rows

-- the address of the next object of a process
abbrev pub next_address : List Row → ℕ
next_address rows = next_from FIRST_ADDRESS rows
