-- Laws of stores, as statements.
use Rattle.std.specs.Prelude.{◌≡◌, ℕ, ◌*◌, ◌<◌, true, ℤ, length, replicate, Some, Ok, slice_get}
use Rattle.c_types.specs.declared.path.Place as Part
use Rattle.c_types.specs.Refusal.{IsBuilt}
use Rattle.c_types.specs.Layout.{size_of}
use Rattle.c_types.specs.Place.{object_place}
use Rattle.src_tree.specs.declared.value.Value.{Value}
use Rattle.src_tree.specs.declared.value.Object.{Object}
use Rattle.src_tree.specs.declared.value.Store.{Store}
use Rattle.src_tree.specs.declared.program.Program.{Program}
use Rattle.src_tree.specs.declared.program.Site.{Site}
use Rattle.src_meaning.specs.Paths.{zero_of}
use Rattle.src_meaning.specs.Objects.{Place, store_with, freed, allocated}
use Rattle.src_meaning.specs.Store.{IsStore, has_type}
use Rattle.src_meaning.specs.ValueBytes.{Addresses, elements_bytes}

-- an assignment of a value of the place's type leaves a store of the program
abbrev pub AssignmentsKeep : Type 0
AssignmentsKeep = (p : Program) (s : Store) → IsBuilt p.types → IsStore p s
    → (at : Place) (x : Object) (to : Part.Place) (v : Value) (s' : Store)
    → slice_get s.objects at.object ≡ Some x → object_place p.types x.elem x.count at.path ≡ Some to
    → has_type p s to.ty v ≡ true → store_with s at v ≡ Ok s' → IsStore p s'

-- so does a free
abbrev pub FreesKeep : Type 0
FreesKeep = (p : Program) (s : Store) → IsBuilt p.types → IsStore p s
    → (v : Value) (s' : Store) → freed s v ≡ Ok s' → IsStore p s'

-- so does an allocation at a site, of elements of its type
abbrev pub AllocationsKeep : Type 0
AllocationsKeep = (p : Program) (s : Store) → IsBuilt p.types → IsStore p s
    → (site elem : ℕ) (d : Site) → slice_get p.sites site ≡ Some d → d.elem ≡ elem → elem < length p.types.types
    → (n : ℤ) → IsStore p (allocated p.types s site elem n).1

-- the bytes of zero elements of a type of a built table are zeros
abbrev pub ZerosAreZero : Type 0
ZerosAreZero = (p : Program) (s : Store) (a : Addresses) → IsBuilt p.types
    → (t n : ℕ) → t < length p.types.types
    → elements_bytes p.types a t (replicate n (zero_of p.types t)) ≡ replicate (n * size_of p.types t) 0
