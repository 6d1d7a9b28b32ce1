-- What the search by address answers.
use Rattle.std.specs.Prelude.{ℕ, ◌<◌, ◌≤◌, List, length, All, slice_index_or}
use Rattle.bm_objects.specs.declared.row.Row.{Row}

-- all rows begin above the address
abbrev pub AllAbove : List Row → ℕ → Type 0
AllAbove rows addr = All (λ row. addr < row.addr) rows

-- the row at the index begins at or below the address, and all later ones above it
pub record IsLastUpTo (rows : List Row) (addr index : ℕ) : Type 0 where
  pub inside : index < length rows
  pub begins : (d : Row) → (slice_index_or rows index d).addr ≤ addr
  pub later : (k : ℕ) (d : Row) → index < k → k < length rows → addr < (slice_index_or rows k d).addr
