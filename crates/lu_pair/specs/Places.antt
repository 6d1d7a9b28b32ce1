-- The places of names.
use Rattle.std.specs.Prelude.{◌≡◌, ℕ, List, Option, Some, None, String}
use Rattle.indexmap.specs.IndexMap.{IndexMap, get_by_text}
use Rattle.lu_image.specs.Names.{Names, find}

-- the first place, or else the other
abbrev pub or_place : Option ℕ → Option ℕ → Option ℕ
or_place None other = other
or_place (Some place) other = Some place

-- a name's place in the map is that of its first entry
abbrev pub HasPlaces : {Y S : Type 0} → IndexMap (String Y) ℕ S → Names → Type 0
HasPlaces places names = (q : List ℕ) → get_by_text places q ≡ find q names
