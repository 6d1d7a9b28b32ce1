-- The image of a store, or the first refusal.
use Rattle.std.specs.Prelude.{ℕ, ◌+◌, ◌*◌, Bool, not, nat_eq, nat_lt, if◌then◌else◌, List, [], ◌∷◌, length, filter, position, Option, Some, None, unwrap_or, Result, Ok, Err, slice_get}
use Rattle.std.specs.Option.{option_map_or}
use Rattle.lu_spec.specs.Then.{then_option, then_do}
use Rattle.src_tree.specs.declared.value.Value.{Value}
use Rattle.src_tree.specs.declared.value.ObjectKind.{ObjectKind}
use Rattle.src_tree.specs.declared.value.ObjectKind.TheVariants.{Global, Heap, Temporary}
use Rattle.src_tree.specs.declared.value.Object.{Object}
use Rattle.src_tree.specs.declared.value.Store.{Store}
use Rattle.lu_base.specs.declared.limits.TheConstants.{HEAP_BYTES}
use Rattle.src_meaning.specs.Objects.{is_global, live_elements, with_elements, with_object, append_object}
use Rattle.lu_image.specs.declared.refusal.Refusal.{Refusal}
use Rattle.lu_image.specs.declared.refusal.Why.TheVariants as W
use Rattle.lu_image.specs.declared.refusal.Kept.{Kept}
use Rattle.lu_image.specs.declared.refusal.Kept.TheVariants as K
use Rattle.lu_image.specs.Correspondence.{pair_in}
use Rattle.lu_image_store.specs.Versions.{Versions, new_size, paired_site}
use Rattle.lu_image_store.specs.Faults.{Fault, Gives, refused}
use Rattle.lu_image_store.specs.Pointers.{Context}
use Rattle.lu_image_store.specs.Objects.{global_image, heap_image}
use Rattle.lu_image_store.specs.Needed.{is_object, needed_objects}

abbrev pub Makes : Type 0
Makes = Result Store Refusal

abbrev pub refusal : ℕ → Fault → Refusal
refusal k f = record { why = f.why; object = k; path = f.path; kept = f.kept }

-- a fault in the object of number k
abbrev pub in_object : {A : Type 0} → ℕ → Gives A → Result A Refusal
in_object k (Ok a) = Ok a
in_object k (Err f) = Err (refusal k f)

-- Of the needed objects: the heap objects, which follow the new globals in the same order.
abbrev pub is_heap_number : Store → ℕ → Bool
is_heap_number store k = is_object store (λ x. not (is_global x.kind)) k

abbrev pub heap_of : Store → List ℕ → List ℕ
heap_of store needed = filter (is_heap_number store) needed

-- the new number of an old object: that of its pair, or its place among the heap objects that move
abbrev pub new_number : Versions → Store → List ℕ → ℕ → ℕ
new_number m store heap k =
    if is_heap_number store k then length m.pairing.new.globals + unwrap_or (position (nat_eq k) heap) 0 else unwrap_or (pair_in m.pairing.globals k) 0

abbrev pub context_of : Versions → Store → List ℕ → Context
context_of m store heap = record { versions = m; store = store; number = new_number m store heap }

-- the new bytes of an object on the heap; none where its site has no pair
abbrev pub size_in : Versions → Object → ObjectKind → ℕ
size_in m x (Heap site) = option_map_or (λ u. x.count * new_size m u) (paired_site m site) 0
size_in m x _ = 0

abbrev pub heap_size : Versions → Store → ℕ → ℕ
heap_size m store k = option_map_or (λ x. size_in m x x.kind) (slice_get store.objects k) 0

-- the first object at which the sizes, added in order, pass the bound of the heap
abbrev pub first_over : (ℕ → ℕ) → ℕ → List ℕ → Option ℕ
first_over size total [] = None
first_over size total (k ∷ ks) =
    if nat_lt HEAP_BYTES (total + size k) then Some k else first_over size (total + size k) ks

abbrev pub unless_over : Makes → Option ℕ → Makes
unless_over given None = given
unless_over given (Some k) = in_object k (refused W.HeapLimit K.Nothing)

abbrev pub elements_of : Store → ℕ → List Value
elements_of store k = unwrap_or (live_elements store k) []

-- the store with other elements in an object
abbrev pub with_values : Store → ℕ → List Value → Store
with_values store k vs = option_map_or (λ x. with_object store k (with_elements x (Some vs))) (slice_get store.objects k) store

abbrev pub declared_pair : Versions → ℕ → ℕ → Option (ℕ × ℕ)
declared_pair m k g =
    then_option (slice_get m.pairing.old.globals k) (λ t. then_option (slice_get m.pairing.new.globals g) (λ u. Some (t, u)))

abbrev pub put_global : ℕ → ℕ → Store → Gives (List Value) → Makes
put_global k g next (Ok vs) = Ok (with_values next g vs)
put_global k g next (Err f) = Err (refusal k f)

-- a paired global takes its image over what stands in its pair
abbrev pub move_global : Context → ℕ → Object → Store → Option ℕ → Makes
move_global c k x next None = Ok next
move_global c k x next (Some g) =
    option_map_or (λ types. put_global k g next (global_image c types.0 types.1 (unwrap_or x.elements []) (elements_of next g))) (declared_pair c.versions k g) (Ok next)

abbrev pub heap_object : ℕ → ℕ → ℕ → List Value → Object
heap_object site elem count vs = record { kind = Heap site; elem = elem; count = count; elements = Some vs }

abbrev pub put_heap : ℕ → ℕ → ℕ → Object → Store → Gives (List Value) → Makes
put_heap k site u x next (Ok vs) = Ok (append_object next (heap_object site u x.count vs))
put_heap k site u x next (Err f) = Err (refusal k f)

-- a heap object of a paired site comes last, of the new element type and its own count
abbrev pub move_heap : Context → ℕ → Object → Store → Kept → Option ℕ → Option ℕ → Makes
move_heap c k x next kept (Some site) (Some u) =
    put_heap k site u x next (heap_image c x.elem u x.count (unwrap_or x.elements []))
move_heap c k x next kept _ _ = in_object k (refused W.UnpairedSite kept)

abbrev pub move_in : Context → ℕ → Object → Store → ObjectKind → Makes
move_in c k x next Global = move_global c k x next (pair_in c.versions.pairing.globals k)
move_in c k x next (Heap site) =
    move_heap c k x next (K.Site site) (pair_in c.versions.pairing.sites site) (paired_site c.versions site)
move_in c k x next Temporary = move_heap c k x next (K.Site (length c.versions.pairing.old.sites)) None None

-- the store after the old object of number k has moved into it
abbrev pub move_object : Context → ℕ → Store → Makes
move_object c k next = option_map_or (λ x. move_in c k x next x.kind) (slice_get c.store.objects k) (Ok next)

abbrev pub move_objects : Context → List ℕ → Store → Makes
move_objects c [] next = Ok next
move_objects c (k ∷ ks) next = then_do (move_object c k next) (move_objects c ks)

-- the image of a store from its needed objects
abbrev pub image_from : Versions → Store → Store → List ℕ → Makes
image_from m store initial needed =
    unless_over (move_objects (context_of m store (heap_of store needed)) needed initial) (first_over (heap_size m store) 0 needed)

-- `initial` is the new program's store at the start: its globals take the moved values, and the needed heap objects follow
abbrev pub store_image : Versions → Store → Store → Makes
store_image m store initial = image_from m store initial (needed_objects m store)
