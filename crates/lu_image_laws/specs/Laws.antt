-- Laws of images, as statements.
use Rattle.std.specs.Prelude.{◌≡◌, ◌+◌, ◌⊎◌, Some, slice_get, ℕ, ◌<◌, List, length, Result, Ok}
use Rattle.c_types.specs.declared.parts.Parts.{Parts}
use Rattle.c_types.specs.declared.path.Step.{Step}
use Rattle.c_types.specs.Place.{IsPlaceAt}
use Rattle.c_types.specs.Refusal.{IsBuilt}
use Rattle.src_tree.specs.declared.value.Value.{Value}
use Rattle.src_tree.specs.declared.value.Value.TheOpen as V
use Rattle.src_tree.specs.declared.value.Object.{Object}
use Rattle.src_tree.specs.declared.value.Store.{Store}
use Rattle.src_tree.specs.declared.program.Program.{Program}
use Rattle.src_meaning.specs.Initial.{initial_store}
use Rattle.src_meaning.specs.Store.{IsStore}
use Rattle.src_meaning.specs.Valid.{IsValid}
use Rattle.lu_image.specs.declared.pairing.Pairing.{Pairing}
use Rattle.lu_image.specs.declared.refusal.Why.{Why}
use Rattle.lu_image_store.specs.Versions.{Versions, Extent, old_types, new_extent}
use Rattle.lu_image_store.specs.Pointers.{Aim, Context, IsOffsetImage, offset_image, pointer_image}
use Rattle.lu_image_store.specs.Needed.{needed_objects}
use Rattle.lu_image_store.specs.Stores.{heap_of, store_image}
use Rattle.lu_image_laws.specs.Between.{between}
use Rattle.lu_image_laws.specs.Sharing.{IsNeededIn, IsOneToOne, Stands, BecomesNull, GoesTo, image_number}
use Rattle.lu_image_laws.specs.SamePart.{IsSamePart}

-- at one offset of an object at most one place outside unions has a type
abbrev pub PlacesAreOne : Type 0
PlacesAreOne = (p : Parts) (elem count offset t : ℕ) (a b : List Step)
    → IsBuilt p → elem < length p.types
    → IsPlaceAt p elem count offset t a → IsPlaceAt p elem count offset t b → a ≡ b

-- what candidates make of an offset is one answer
abbrev pub ImagesAreOne : Type 0
ImagesAreOne = (m : Versions) (aim : Aim) (e d : Extent) (offset : ℕ) (a b : Result ℕ Why)
    → IsOffsetImage m aim e d offset a → IsOffsetImage m aim e d offset b → a ≡ b

-- the image of an offset is at the same part of the object, by each reading of the pointer
abbrev pub PartsAreKept : Type 0
PartsAreKept = (m : Versions) (aim : Aim) (e d : Extent) (old new : ℕ)
    → IsBuilt (old_types m) → e.elem < length (old_types m).types
    → offset_image m aim e d old ≡ Ok new → IsSamePart m aim e d old new

-- The image of a store is a store of the new program, whatever pairs: its values are of their types, its pointers lead to
-- objects, and heap and addresses keep their bounds. At the start the new program has a store.
abbrev pub ImagesAreStores : Type 0
ImagesAreStores = (old new : Program) (q : Pairing) (s next : Store)
    → IsBuilt old.types → IsStore old s → IsValid new → IsStore new (initial_store new)
    → store_image (between old new q) s (initial_store new) ≡ Ok next → IsStore new next

-- each needed object whose global or site has a pair stands at its new number, as an object of the new type and count
abbrev pub ObjectsMove : Type 0
ObjectsMove = (old new : Program) (q : Pairing) (s next : Store)
    → store_image (between old new q) s (initial_store new) ≡ Ok next
    → (k : ℕ) (x : Object) (d : Extent) → IsNeededIn (between old new q) s k
    → slice_get s.objects k ≡ Some x → new_extent (between old new q) k x ≡ Some d
    → Stands next (image_number (between old new q) s k) d

-- there is no object but the new globals and one for each needed heap object
abbrev pub NoOthersMove : Type 0
NoOthersMove = (old new : Program) (q : Pairing) (s next : Store)
    → store_image (between old new q) s (initial_store new) ≡ Ok next
    → length next.objects ≡ length new.globals + length (heap_of s (needed_objects (between old new q) s))

-- two needed objects have two new numbers
abbrev pub ObjectsStayTwo : Type 0
ObjectsStayTwo = (m : Versions) (s : Store) → IsOneToOne m.pairing.globals
    → (j k : ℕ) → IsNeededIn m s j → IsNeededIn m s k
    → image_number m s j ≡ image_number m s k → j ≡ k

-- pointers to one object go to the one new object of its number, unless it is dead and they become null
abbrev pub PointersShare : Type 0
PointersShare = (c : Context) (aim : Aim) (o offset : ℕ) (w : Value)
    → pointer_image c aim (V.Pointer o offset) ≡ Ok w → BecomesNull c o w ⊎ GoesTo (c.number o) w
