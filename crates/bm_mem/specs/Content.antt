-- The content of memory: of each object the bytes, by the address of the first.
use Rattle.std.specs.Prelude.{◌≡◌, ℕ, ◌+◌, ◌-◌, ◌≤◌, ◌⊎◌, List, length, Some}
use Rattle.std.specs.Ordering.{nat_cmp}
use Rattle.std.specs.FinMap as map
use Rattle.lu_spec.specs.Splice.{piece_at, spliced}

abbrev pub Content : Type 0
Content = map.FinMap nat_cmp (List ℕ)

-- the object at start has these bytes, and the range lies in it
pub record Holds (m : Content) (start : ℕ) (bytes : List ℕ) (addr len : ℕ) : Type 0 where
  pub at : map.get m start ≡ Some bytes
  pub low : start ≤ addr
  pub high : addr + len ≤ start + length bytes

-- the range lies in one object
abbrev pub IsInside : Content → ℕ → ℕ → Type 0
IsInside m addr len = (start : ℕ) × (bytes : List ℕ) × Holds m start bytes addr len

-- no object shares a byte with the range
abbrev pub IsClear : Content → ℕ → ℕ → Type 0
IsClear m addr len = (start : ℕ) (bytes : List ℕ) → map.get m start ≡ Some bytes → (start + length bytes ≤ addr) ⊎ (addr + len ≤ start)

-- the piece is what stands in the range
abbrev pub IsRead : Content → ℕ → ℕ → List ℕ → Type 0
IsRead m addr len piece = (start : ℕ) (bytes : List ℕ) → Holds m start bytes addr len → piece ≡ piece_at bytes (addr - start) len

-- the piece now stands in its range, and all else is as it was
abbrev pub IsWritten : Content → Content → ℕ → List ℕ → Type 0
IsWritten old new addr piece = (start : ℕ) (bytes : List ℕ) → Holds old start bytes addr (length piece) → new ≡ map.insert old start (spliced bytes (addr - start) piece)

-- a length that `read` takes
abbrev pub IsWidth : ℕ → Type 0
IsWidth len = (len ≡ 1) ⊎ (len ≡ 2) ⊎ (len ≡ 4) ⊎ (len ≡ 8)
