-- The pages of a directory of two levels.
use Rattle.std.specs.Prelude.{◌≡◌, ◌≢◌, ℕ, ◌<◌, ◌≤◌, ◌/◌, ◌%◌, List, [], length, map, slice_index_or, replicate}
use Rattle.bm_pages.specs.Pages.{Pages}
use Rattle.bm_pages.specs.declared.page.Page.{Page}
use Rattle.bm_pages.specs.declared.directory.Part.{Part}
use Rattle.bm_pages.specs.declared.directory.Directory.{Directory}

abbrev pub bytes_of : Page → List ℕ
bytes_of page = page.bytes.items

abbrev pub row_of : Part → List (List ℕ)
row_of part = map bytes_of part.pages.items

-- the page of a part at an index
abbrev pub part_pages : Part → Pages
part_pages part index = slice_index_or (row_of part) index []

abbrev pub rows_of : List Part → List (List (List ℕ))
rows_of parts = map row_of parts

-- the page at a number: of each part the next 1,024
abbrev pub page_in : List (List (List ℕ)) → Pages
page_in rows number = slice_index_or (slice_index_or rows (number / 1024) []) (number % 1024) []

abbrev pub pages_in : Directory → Pages
pages_in directory = page_in (rows_of directory.parts.items)

-- the page has these bytes, and all others are as they were
pub record ChangesPage (old new : Pages) (number : ℕ) (bytes : List ℕ) : Type 0 where
  pub changed : new number ≡ bytes
  pub others : (page : ℕ) → page ≢ number → new page ≡ old page

-- the pages from first on below end have memory: those that had some keep their bytes, the others are zero; all others are as they were
pub record IsTaken (old new : Pages) (first end : ℕ) : Type 0 where
  pub kept : (page : ℕ) → 0 < length (old page) → new page ≡ old page
  pub made : (page : ℕ) → first ≤ page → page < end → length (old page) ≡ 0 → new page ≡ replicate 4096 0
  pub others : (page : ℕ) → page < first → new page ≡ old page
  pub others_above : (page : ℕ) → end ≤ page → new page ≡ old page

-- at most pages from first on below end are new: those that had memory keep their bytes, and all others are as they were
pub record IsPartlyTaken (old new : Pages) (first end : ℕ) : Type 0 where
  pub kept : (page : ℕ) → 0 < length (old page) → new page ≡ old page
  pub others : (page : ℕ) → page < first → new page ≡ old page
  pub others_above : (page : ℕ) → end ≤ page → new page ≡ old page
