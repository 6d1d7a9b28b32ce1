-- When an offset in a new object is at the same part as one in the old object.
use Rattle.std.specs.Prelude.{◌≡◌, ℕ, ◌+◌, ◌*◌, IsTrue, List, Some}
use Rattle.c_types.specs.declared.parts.Ty.TheVariants.{Array}
use Rattle.c_types.specs.declared.path.Step.{Step}
use Rattle.c_types.specs.Place.{place, IsPlaceAt}
use Rattle.lu_image_store.specs.Versions.{Versions, Extent, old_types, old_type, new_type, old_size, new_size}
use Rattle.lu_image_store.specs.Paths.{share_paths, place_image}
use Rattle.lu_image_store.specs.Candidates.{Candidate, is_wanted, IsCandidate}
use Rattle.lu_image_store.specs.Pointers.{Aim, wanted, suits}

-- the new place at the image of the path begins at the offset, and is of a type that the pointer may go to
pub record BeginsThere (m : Versions) (aim : Aim) (e d : Extent) (path : List Step) (t offset : ℕ) : Type 0 where
  pub ty : ℕ
  pub is : place_image m e d path ≡ Some (place ty offset)
  pub may : IsTrue (suits m aim t ty)

-- the new array at the image of the path has as many elements, of such a type, and ends at the offset
pub record EndsThere (m : Versions) (aim : Aim) (e d : Extent) (path : List Step) (t n offset : ℕ) : Type 0 where
  pub ty : ℕ
  pub start : ℕ
  pub elem : ℕ
  pub is : place_image m e d path ≡ Some (place ty start)
  pub array : new_type m ty ≡ Some (Array elem n)
  pub end : start + n * new_size m elem ≡ offset
  pub may : IsTrue (suits m aim t elem)

-- the new object has as many elements, of such a type, and ends at the offset
pub record WholeEndsThere (m : Versions) (aim : Aim) (e d : Extent) (offset : ℕ) : Type 0 where
  pub shared : IsTrue (share_paths e d)
  pub count : e.count ≡ d.count
  pub end : d.count * new_size m d.elem ≡ offset
  pub may : IsTrue (suits m aim e.elem d.elem)

-- the old place at the path begins at the offset, and is of a type that the pointer may go to
pub record BeginsHere (m : Versions) (aim : Aim) (e : Extent) (path : List Step) (t offset : ℕ) : Type 0 where
  pub at : IsPlaceAt (old_types m) e.elem e.count offset t path
  pub may : IsTrue (is_wanted (wanted aim) t)

-- the old array at the path has n elements of such a type, and ends at the offset
pub record EndsHere (m : Versions) (aim : Aim) (e : Extent) (path : List Step) (t n offset : ℕ) : Type 0 where
  pub ty : ℕ
  pub start : ℕ
  pub at : IsPlaceAt (old_types m) e.elem e.count start ty path
  pub array : old_type m ty ≡ Some (Array t n)
  pub end : start + n * old_size m t ≡ offset
  pub may : IsTrue (is_wanted (wanted aim) t)

-- the old object ends at the offset, and its elements are of such a type
pub record WholeEndsHere (m : Versions) (aim : Aim) (e : Extent) (offset : ℕ) : Type 0 where
  pub end : e.count * old_size m e.elem ≡ offset
  pub may : IsTrue (is_wanted (wanted aim) e.elem)

abbrev pub EachPlace : Versions → Aim → Extent → Extent → ℕ → ℕ → Type 0
EachPlace m aim e d old new =
    (path : List Step) (t : ℕ) → BeginsHere m aim e path t old → BeginsThere m aim e d path t new

abbrev pub EachEnd : Versions → Aim → Extent → Extent → ℕ → ℕ → Type 0
EachEnd m aim e d old new =
    (path : List Step) (t n : ℕ) → EndsHere m aim e path t n old → EndsThere m aim e d path t n new

-- There is a place or an array's end of a type that the pointer may go to at the old offset; and whatever place begins
-- there, whatever array ends there, and the whole object, if it ends there, has its image at the new offset.
pub record IsSamePart (m : Versions) (aim : Aim) (e d : Extent) (old new : ℕ) : Type 0 where
  pub some : (c : Candidate) × IsCandidate (old_types m) e.elem e.count (wanted aim) old c
  pub places : EachPlace m aim e d old new
  pub ends : EachEnd m aim e d old new
  pub whole : WholeEndsHere m aim e old → WholeEndsThere m aim e d new
