-- Rows by address, and the rows to which words go.
use Rattle.std.specs.Prelude.{◌≤◌, ◌<◌, slice_index_or, ℕ, suc, Bool, false, ◌&&◌, not, is_some, List, [], ◌∷◌, length, filter, Option, Some, None, slice_get, if◌then◌else◌}
use Rattle.std.specs.List.{filter_map, range_with_len}
use Rattle.std.specs.Option.{option_map, option_map_or}
use Rattle.lu_spec.specs.Then.{then_option}
use Rattle.bm_objects.specs.declared.row.Row.{Row}
use Rattle.bm_objects.specs.Table.{reaches}
use Rattle.lu_image_store.specs.Versions.{Versions, paired_global}

-- the number of the first row that has the address among its bytes or as its end; in a table it is the only one
abbrev pub row_at : ℕ → List Row → Option ℕ
row_at addr [] = None
row_at addr (row ∷ rows) = if reaches addr row then Some 0 else option_map (λ i. suc i) (row_at addr rows)

abbrev pub is_row : List Row → (Row → Bool) → ℕ → Bool
is_row rows test k = option_map_or test (slice_get rows k) false

-- a row of the heap that was not freed
abbrev pub is_live_heap_row : Row → Bool
is_live_heap_row row = row.live && is_some row.site

-- the live object of the heap to which a word goes
abbrev pub target_of : List Row → ℕ → Option ℕ
target_of rows word = then_option (row_at word rows) (λ i. if is_row rows is_live_heap_row i then Some i else None)

abbrev pub targets_of : List Row → List ℕ → List ℕ
targets_of rows words = filter_map (target_of rows) words

-- the row of a global that has a pair
abbrev pub is_root_row : Versions → List Row → ℕ → Bool
is_root_row m rows k = is_row rows (λ row. not (is_some row.site) && is_some (paired_global m k)) k

abbrev pub root_rows : Versions → List Row → List ℕ
root_rows m rows = filter (is_root_row m rows) (range_with_len 0 (length rows))

-- so many rows begin at or below the address, and all others above it
pub record IsCountUpTo (rows : List Row) (addr count : ℕ) : Type 0 where
  pub within : count ≤ length rows
  pub up_to : (k : ℕ) (d : Row) → k < count → (slice_index_or rows k d).addr ≤ addr
  pub above : (k : ℕ) (d : Row) → count ≤ k → k < length rows → addr < (slice_index_or rows k d).addr
