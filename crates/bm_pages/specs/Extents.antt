-- Where objects lie.
use Rattle.std.specs.Prelude.{◌≡◌, ℕ, ◌+◌, ◌*◌, ◌<◌, ◌≤◌, List, [], length, map, replicate, Any}
use Rattle.bm_mem.specs.Layout.{Entry, IsLaidOut}
use Rattle.bm_pages.specs.Pages.{Pages, IsThere, bytes_from}
use Rattle.bm_pages.specs.declared.extents.Extent.{Extent}

-- an object with the bytes that the pages have in its place
abbrev pub entry_in : Pages → Extent → Entry
entry_in pages e = (e.addr, bytes_from pages e.addr e.size)

abbrev pub entries_in : Pages → List Extent → List Entry
entries_in pages extents = map (entry_in pages) extents

-- an object of zeros
abbrev pub zero_entry : Extent → Entry
zero_entry e = (e.addr, replicate e.size 0)

-- the layout of the objects, whatever their bytes
abbrev pub layout_of : List Extent → List Entry
layout_of extents = map zero_entry extents

-- the object has a byte in the page
pub record ReachesInto (page : ℕ) (e : Extent) : Type 0 where
  pub begins : e.addr < (page + 1) * 4096
  pub ends : page * 4096 < e.addr + e.size

-- some object has a byte in the page
abbrev pub IsUsed : List Extent → ℕ → Type 0
IsUsed extents page = Any (ReachesInto page) extents

-- of the pages from first on below end those in which no object has a byte have no memory; all others are as they were
pub record IsReleased (extents : List Extent) (old new : Pages) (first end : ℕ) : Type 0 where
  pub gone : (page : ℕ) → first ≤ page → page < end → (IsUsed extents page → ⊥) → new page ≡ []
  pub used : (page : ℕ) → IsUsed extents page → new page ≡ old page
  pub below : (page : ℕ) → page < first → new page ≡ old page
  pub above : (page : ℕ) → end ≤ page → new page ≡ old page

-- the objects lie apart in order; a page has 4,096 bytes or none, and has some exactly where an object has a byte in it
pub record IsSound (pages : Pages) (extents : List Extent) : Type 0 where
  pub laid_out : IsLaidOut (layout_of extents)
  pub whole : (page : ℕ) → 0 < length (pages page) → IsThere pages page
  pub used : (page : ℕ) → IsUsed extents page → IsThere pages page
  pub unused : (page : ℕ) → (IsUsed extents page → ⊥) → pages page ≡ []
