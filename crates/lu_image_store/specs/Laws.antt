-- Laws of images, as statements.
use Rattle.std.specs.Prelude.{ℕ, ◌<◌, length}
use Rattle.c_types.specs.Refusal.{IsBuilt}
use Rattle.src_tree.specs.declared.value.Store.{Store}
use Rattle.lu_image_store.specs.Versions.{Versions, Extent, old_types}
use Rattle.lu_image_store.specs.Pointers.{Aim, IsOffsetImage, offset_image}
use Rattle.lu_image_store.specs.Needed.{AreNeeded, graph_of, needed_objects}

-- the list of needed objects rises, and has exactly the ends of finite chains of carried pointers
abbrev pub NeededAreEnds : Type 0
NeededAreEnds = (m : Versions) (store : Store) → AreNeeded (graph_of m store) (needed_objects m store)

-- A pointer into an object of a type of a built table has the image on which its candidates agree: none where there is no
-- candidate, a lost target where none has an image, an ambiguous one where only some have or two differ.
abbrev pub OffsetsAreAgreed : Type 0
OffsetsAreAgreed = (m : Versions) (aim : Aim) (e d : Extent) (offset : ℕ)
    → IsBuilt (old_types m) → e.elem < length (old_types m).types → IsOffsetImage m aim e d offset (offset_image m aim e d offset)
