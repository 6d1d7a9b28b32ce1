-- The words of the carried pointers in the bytes of an object, by its row.
use Rattle.std.specs.Prelude.{ℕ, true, min, if◌then◌else◌, List, [], length, Option, Some, None, unwrap_or, slice_get}
use Rattle.std.specs.Option.{option_map_or}
use Rattle.std.specs.FinMap.{get}
use Rattle.c_types.specs.declared.parts.Ty.{Ty}
use Rattle.bm_mem.specs.Content.{Content}
use Rattle.bm_objects.specs.declared.row.Row.{Row}
use Rattle.lu_image_store.specs.Versions.{Versions, Extent, extent, global_extent, old_types, new_types, old_type, new_type, old_size, paired_global, paired_site}
use Rattle.lu_image_store.specs.Paths.{share_paths}
use Rattle.lu_image_store.specs.Carried.{type_at_top}
use Rattle.lu_scan.specs.Scan.{words_in, items_words}
use Rattle.lu_walk.specs.Rows.{targets_of}

-- of so many elements of an old type, as elements of a new one
abbrev pub elements_words : Versions → ℕ → Option Ty → ℕ → List ℕ → List ℕ
elements_words m t new count bytes =
    items_words (words_in m (length (old_types m).types) t true new) (old_size m t) count bytes

-- the elements that both have
abbrev pub common_words : Versions → Extent → Extent → ℕ → List ℕ → List ℕ
common_words m e d count bytes =
    if share_paths e d then elements_words m e.elem (new_type m d.elem) (min d.count count) bytes else []

-- where the global or the site has no pair
abbrev pub unpaired_words : Versions → ℕ → ℕ → List ℕ → List ℕ
unpaired_words m t count bytes = elements_words m t (type_at_top m (old_type m t)) count bytes

abbrev pub global_words : Versions → ℕ → Option ℕ → Option ℕ → List ℕ → List ℕ
global_words m count (Some t) (Some u) bytes =
    common_words m (global_extent (old_types m) t) (global_extent (new_types m) u) count bytes
global_words m count (Some t) None bytes = unpaired_words m (global_extent (old_types m) t).elem count bytes
global_words m count None pair bytes = []

abbrev pub heap_words : Versions → Row → Option ℕ → List ℕ → List ℕ
heap_words m row (Some u) bytes =
    common_words m (extent row.elem row.count true) (extent u row.count true) row.count bytes
heap_words m row None bytes = unpaired_words m row.elem row.count bytes

abbrev pub words_by_site : Versions → ℕ → Row → Option ℕ → List ℕ → List ℕ
words_by_site m k row None bytes =
    global_words m row.count (slice_get m.pairing.old.globals k) (paired_global m k) bytes
words_by_site m k row (Some site) bytes = heap_words m row (paired_site m site) bytes

-- of the object of number k
abbrev pub object_words : Versions → ℕ → Row → List ℕ → List ℕ
object_words m k row bytes = words_by_site m k row row.site bytes

abbrev pub row_targets : Versions → Content → List Row → ℕ → Row → List ℕ
row_targets m content rows k row =
    if row.live then targets_of rows (object_words m k row (unwrap_or (get content row.addr) [])) else []

-- the live objects of the heap to which the carried pointers of an object go, in order
abbrev pub targets_at : Versions → Content → List Row → ℕ → List ℕ
targets_at m content rows k = option_map_or (row_targets m content rows k) (slice_get rows k) []
