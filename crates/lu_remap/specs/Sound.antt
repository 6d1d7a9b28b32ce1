-- What the new objects need of a pairing and of the old rows, so that they have addresses.
use Rattle.std.specs.Prelude.{◌≡◌, ℕ, ◌<◌, ◌≤◌, List, length, sum_by, Some, slice_get}
use Rattle.c_types.specs.Layout.{size_of}
use Rattle.lu_base.specs.declared.limits.TheConstants.{SIZE, ENTRIES}
use Rattle.bm_objects.specs.declared.row.Row.{Row}
use Rattle.lu_image.specs.declared.pairing.Pairing.{Pairing}

-- the new globals keep the limits of a program, and each new site allocates elements of a type of the table
pub record IsSound (p : Pairing) : Type 0 where
  pub few : length p.new.globals ≤ ENTRIES
  pub small : sum_by (size_of p.new.types) p.new.globals ≤ SIZE
  pub sites : (j u : ℕ) → slice_get p.new.sites j ≡ Some u → u < length p.new.types.types

-- each row has an element
abbrev pub AreCounted : List Row → Type 0
AreCounted rows = (k : ℕ) (r : Row) → slice_get rows k ≡ Some r → 1 ≤ r.count
