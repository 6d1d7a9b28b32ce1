-- Objects of a store: their sizes and addresses in bytes, what stands at a place, allocation and free.
use Rattle.std.specs.Prelude.{ℕ, zero, suc, ◌+◌, ◌*◌, Bool, true, false, ◌&&◌, not, if◌then◌else◌, ℤ, pos, negsuc, List, [], ◌∷◌, ◌++◌, length, map, replicate, Option, Some, None, Result, Ok, Err, slice_get, slice_set}
use Rattle.std.specs.Option.{option_map}
use Rattle.lu_spec.specs.Then.{then_option, then_do}
use Rattle.lu_base.specs.Addresses as by_size
use Rattle.lu_base.specs.declared.trap.Trap.{Trap}
use Rattle.lu_base.specs.declared.trap.Trap.TheVariants.{BadPointer, BadFree, BadCode}
use Rattle.c_types.specs.declared.parts.Parts.{Parts}
use Rattle.c_types.specs.declared.path.Step.{Step}
use Rattle.c_types.specs.Layout.{size_of}
use Rattle.c_types.specs.Place.{object_place}
use Rattle.c_types.specs.Descent.{find_place}
use Rattle.src_tree.specs.declared.value.Value.{Value, Null, Pointer}
use Rattle.src_tree.specs.declared.value.ObjectKind.{ObjectKind}
use Rattle.src_tree.specs.declared.value.ObjectKind.TheVariants.{Global, Heap}
use Rattle.src_tree.specs.declared.value.Object.{Object}
use Rattle.src_tree.specs.declared.value.Store.{Store}
use Rattle.src_meaning.specs.Paths.{zero_of, element_part, with_element_part}

abbrev pub Gives : Type 0 → Type 0
Gives A = Result A Trap

abbrev pub or_trap : {A : Type 0} → Trap → Option A → Gives A
or_trap t (Some a) = Ok a
or_trap t None = Err t

-- a place: an object and the path to a part of it, which begins with an index. A global that is an array has itself
-- as a place, with no step.
pub record Place : Type 0 where
  pub object : ℕ
  pub path : List Step

abbrev pub place : ℕ → List Step → Place
place object path = record { object = object; path = path }

abbrev pub inside : Place → Step → Place
inside at step = place at.object (at.path ++ step ∷ [])

abbrev pub object_size : Parts → Object → ℕ
object_size p o = o.count * size_of p o.elem

abbrev pub is_live : Object → Bool
is_live o = elim o.elements as (λ _. Bool) [ None ↦ false | Some elements ↦ true ]

abbrev pub is_global : ObjectKind → Bool
is_global Global = true
is_global _ = false

abbrev pub is_live_heap : Object → Bool
is_live_heap o = is_live o && not (is_global o.kind)

abbrev pub sizes_of : Parts → Store → List ℕ
sizes_of p store = map (object_size p) store.objects

-- the address of each object, in order
abbrev pub addresses : Parts → Store → List ℕ
addresses p store = by_size.addresses_of (sizes_of p store)

-- the address that the next object would have
abbrev pub next_address : Parts → Store → ℕ
next_address p store = by_size.next_address (sizes_of p store)

abbrev pub heap_sizes : Parts → List Object → ℕ
heap_sizes p [] = 0
heap_sizes p (o ∷ os) = by_size.heap_part (is_live_heap o) (object_size p o) + heap_sizes p os

-- the bytes of all live heap objects
abbrev pub heap_bytes : Parts → Store → ℕ
heap_bytes p store = heap_sizes p store.objects

abbrev pub live_elements : Store → ℕ → Option (List Value)
live_elements store o = then_option (slice_get store.objects o) (λ x. x.elements)

-- what stands at a place of a live object
abbrev pub value_at : Store → Place → Gives Value
value_at store at =
    or_trap BadCode (then_option (live_elements store at.object) (λ elements. element_part elements at.path))

abbrev pub with_elements : Object → Option (List Value) → Object
with_elements o elements = record o { elements = elements }

abbrev pub with_object : Store → ℕ → Object → Store
with_object store o x = record { objects = slice_set store.objects o x }

-- the store with another value at a place of a live object
abbrev pub store_with : Store → Place → Value → Gives Store
store_with store at v =
    or_trap BadCode (then_option (slice_get store.objects at.object) (λ x. then_option x.elements (λ elements. then_option (with_element_part elements at.path v) (λ changed. Some (with_object store at.object (with_elements x (Some changed)))))))

-- the place of type t to which a pointer goes: the object is live and has such a place there outside unions; that the search
-- finds just the path of such a place, which is at most one: c_types' `find_place-path`, `find_place-sound` and `one-place`
abbrev pub target_in : Parts → ℕ → ℕ → ℕ → Object → Option Place
target_in p t object offset x =
    if is_live x then option_map (place object) (find_place p x.elem x.count offset t) else None

abbrev pub target : Parts → Store → ℕ → Value → Gives Place
target p store t (Pointer o k) = or_trap BadPointer (then_option (slice_get store.objects o) (target_in p t o k))
target p store t _ = Err BadPointer

-- the offset of a place in its object
abbrev pub offset_in : Parts → Object → List Step → Option ℕ
offset_in p x [] = Some 0
offset_in p x (s ∷ path) = option_map (λ to. to.offset) (object_place p x.elem x.count (s ∷ path))

-- the address of a place, so many bytes further on
abbrev pub address_at : Parts → Store → Place → ℕ → Gives Value
address_at p store at further =
    or_trap BadCode (then_option (slice_get store.objects at.object) (λ x. option_map (λ k. Pointer at.object (k + further)) (offset_in p x at.path)))

abbrev pub zero_object : Parts → ObjectKind → ℕ → ℕ → Object
zero_object p kind elem count = record {
  kind = kind;
  elem = elem;
  count = count;
  elements = Some (replicate count (zero_of p elem));
}

-- whether an object has room: in the heap, and before the last address
abbrev pub has_room : Parts → Store → Object → Bool
has_room p store x = by_size.has_room (heap_bytes p store) (next_address p store) (object_size p x)

abbrev pub append_object : Store → Object → Store
append_object store x = record { objects = store.objects ++ x ∷ [] }

-- a pointer to a new zero object of so many elements, or null where the count is below 1 or there is no room
abbrev pub allocated : Parts → Store → ℕ → ℕ → ℤ → Value × Store
allocated p store site elem (negsuc n) = (Null, store)
allocated p store site elem (pos zero) = (Null, store)
allocated p store site elem (pos (suc n)) =
    let x = zero_object p (Heap site) elem (suc n) in
    if has_room p store x then (Pointer (length store.objects) 0, append_object store x) else (Null, store)

abbrev pub freed_object : Store → ℕ → Object → Gives Store
freed_object store o x = if is_live_heap x then Ok (with_object store o (with_elements x None)) else Err BadFree

-- the store after a free of null, or of the start of a live heap object, which is then dead
abbrev pub freed : Store → Value → Gives Store
freed store Null = Ok store
freed store (Pointer o zero) = then_do (or_trap BadFree (slice_get store.objects o)) (freed_object store o)
freed store _ = Err BadFree
