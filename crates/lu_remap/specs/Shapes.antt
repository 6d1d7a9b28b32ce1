-- The objects of the new process: its globals, and then the needed heap objects whose sites have pairs.
use Rattle.std.specs.Prelude.{ℕ, ◌+◌, ◌*◌, Bool, true, if◌then◌else◌, List, [], ◌∷◌, ◌++◌, map, is_some, Option, Some, None, slice_get}
use Rattle.std.specs.Option.{option_map, option_map_or}
use Rattle.lu_spec.specs.Then.{then_option}
use Rattle.c_types.specs.Layout.{size_of}
use Rattle.c_types.specs.declared.parts.Parts.{Parts}
use Rattle.src_meaning.specs.Initial.{global_elem, global_count}
use Rattle.bm_objects.specs.declared.row.Row.{Row}
use Rattle.lu_image.specs.declared.pairing.Outline.{Outline}
use Rattle.lu_image.specs.declared.pairing.Pairing.{Pairing}
use Rattle.lu_image.specs.Correspondence.{pair_in}
use Rattle.lu_image_store.specs.Stores.{first_over}
use Rattle.lu_base.specs.Addresses.{address_after}
use Rattle.lu_remap.specs.declared.shapes.SitePair.{SitePair}

-- a live row of so many elements, which has no address yet
abbrev pub row_of : Parts → ℕ → ℕ → Option ℕ → Row
row_of p elem count site = record {
  addr = 0;
  elem = elem;
  count = count;
  size = count * size_of p elem;
  site = site;
  live = true;
}

abbrev pub global_shape : Parts → ℕ → Row
global_shape p t = row_of p (global_elem p t) (global_count p t) None

abbrev pub global_shapes : Outline → List Row
global_shapes new = map (global_shape new.types) new.globals

abbrev pub site_pair : ℕ → ℕ → SitePair
site_pair site elem = record { site = site; elem = elem }

-- the new site of an old one, with the type of its elements
abbrev pub pair_of_site : Pairing → ℕ → Option SitePair
pair_of_site p site = then_option (pair_in p.sites site) (λ j. option_map (site_pair j) (slice_get p.new.sites j))

-- that of a row; a global has none
abbrev pub pair_of : Pairing → Option ℕ → Option SitePair
pair_of p None = None
pair_of p (Some site) = pair_of_site p site

-- a heap object keeps its count
abbrev pub heap_shape : Pairing → ℕ → SitePair → Row
heap_shape p count pair = row_of p.new.types pair.elem count (Some pair.site)

abbrev pub shape_of_row : Pairing → Row → Option Row
shape_of_row p r = option_map (heap_shape p r.count) (pair_of p r.site)

abbrev pub shape_at : Pairing → List Row → ℕ → Option Row
shape_at p rows k = then_option (slice_get rows k) (shape_of_row p)

abbrev pub bytes_of : Option Row → ℕ
bytes_of shape = option_map_or (λ r. r.size) shape 0

abbrev pub as_list : Option Row → List Row
as_list None = []
as_list (Some r) = r ∷ []

abbrev pub number_if : Bool → ℕ → List ℕ
number_if b k = if b then k ∷ [] else []

-- the new heap objects of needed ones, and their old numbers
abbrev pub heap_shapes : Pairing → List Row → List ℕ → List Row
heap_shapes p rows [] = []
heap_shapes p rows (k ∷ ks) = as_list (shape_at p rows k) ++ heap_shapes p rows ks

abbrev pub moved_numbers : Pairing → List Row → List ℕ → List ℕ
moved_numbers p rows [] = []
moved_numbers p rows (k ∷ ks) = number_if (is_some (shape_at p rows k)) k ++ moved_numbers p rows ks

-- the first needed object at which the sizes of new heap objects, added in order, pass the bound of the heap
abbrev pub over_limit : Pairing → List Row → ℕ → List ℕ → Option ℕ
over_limit p rows total needed = first_over (λ k. bytes_of (shape_at p rows k)) total needed

-- each at its address: the first at a given one, and each behind the one before
abbrev pub placed : ℕ → List Row → List Row
placed first [] = []
placed first (r ∷ rs) = record r { addr = first } ∷ placed (address_after first r.size) rs

-- how many addresses an object takes at most
abbrev pub room : Row → ℕ
room r = r.size + 31
